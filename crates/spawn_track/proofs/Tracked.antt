-- Own rows stand by number after each step.
use Rattle.std.proofs.Common.{◌≡◌, ℕ, ◌+◌, ◌≤◌, ℤ, Bool, true, false, cond, not, List, [], ◌∷◌, ◌++◌, map, filter, length, nat_eq, nat_lt, Option, Some, None, refl, ap, ◌∙◌, arith}
use Rattle.std.specs.Prelude.{int_lt, option_map, if◌then◌else◌}
use Rattle.std.proofs.lemmas.List.{map-append}
use Rattle.std.proofs.lemmas.Bool.Decides.{nat_tests}
use Rattle.gd_variant.specs.Words.{or_else, put_by}
use Rattle.scene_model.specs.declared.scene.Scene.{Scene}
use Rattle.scene_model.specs.declared.event.SpawnOp.{SpawnOp}
use Rattle.scene_model.specs.declared.outcome.Refusal.{Refusal}
use Rattle.peer_model.specs.Rows.{syncs_at, spawned_scene}
use Rattle.peer_model.specs.Updates.{Live, live_at}
use Rattle.headless_tree.specs.Nodes.{TreeOf}
use Rattle.headless_tree.proofs.Numbered.{both, and_true}
use Rattle.headless_tree.proofs.Order.{all_weaker}
use Rattle.sight_laws.specs.Sights.{Sight, RowSight, Sights, with_row_set, with_fixed_set, with_peer_up, with_peer_down, new_sight, row_set, row_sees, shown_to_new, hidden_from}
use Rattle.peer_steps.specs.declared.rows.SpawnedRow.{SpawnedRow}
use Rattle.peer_steps.specs.Judged.{despawn_judged}
use Rattle.peer_steps.specs.Sites.{who_at, own_made, after_made}
use Rattle.peer_steps.specs.Spawns.{spawn_judged}
use Rattle.peer_steps.specs.Track.{Track, SightChange, first_track, track_after, own_spawn, track_without, despawned_by, number_at, own_despawn, is_row, sights_set, sighted_by, track_up, track_down}
use Rattle.visibility.specs.Rising.{do_rise}
use Rattle.visibility.proofs.Rises.{rise_snoc, rise_filter, same_numbers}
use Rattle.spawn_track.specs.Numbers.{numbers_seen, are_below, IsTracked}

abbrev row_num : SpawnedRow → ℕ
row_num r = r.num

-- numbers below one are below a greater one
lower : (n m : ℕ) (ns : List ℕ) → n ≤ m → are_below n ns ≡ true → are_below m ns ≡ true
lower n m ns h below = all_weaker (λ k. nat_lt k n) (λ k. nat_lt k m) (λ k i. grind (arith, nat_tests)) ns below

below_snoc : (n m : ℕ) (ns : List ℕ) → are_below n ns ≡ true → nat_lt m n ≡ true → are_below n (ns ++ m ∷ []) ≡ true
below_snoc n m [] h k = and_true (nat_lt m n) true k refl
below_snoc n m (i ∷ ns) h k = let parts = both (nat_lt i n) (are_below n ns) h in and_true (nat_lt i n) (are_below n (ns ++ m ∷ [])) parts.0 (below_snoc n m ns parts.1 k)

below_filter : {X : Type 0} (key : X → ℕ) (test : X → Bool) (n : ℕ) (xs : List X) → are_below n (map key xs) ≡ true → are_below n (map key (filter test xs)) ≡ true
below_filter key test n [] h = refl
below_filter {X} key test n (x ∷ xs) h = by (test x) (below_filter key test n xs parts.1)
  where
    parts : (nat_lt (key x) n ≡ true) × (are_below n (map key xs) ≡ true)
    parts = both (nat_lt (key x) n) (are_below n (map key xs)) h

    by : (b : Bool) → are_below n (map key (filter test xs)) ≡ true → are_below n (map key (cond b (x ∷ filter test xs) (filter test xs))) ≡ true
    by true more = and_true (nat_lt (key x) n) (are_below n (map key (filter test xs))) parts.0 more
    by false more = more

-- one list with a number more, which is the next one
one_more : {X : Type 0} (key : X → ℕ) (xs : List X) (x : X) (n m : ℕ) → key x ≡ n → nat_lt n m ≡ true → do_rise (map key xs) ≡ true → are_below n (map key xs) ≡ true
    → (do_rise (map key (xs ++ x ∷ [])) ≡ true) × (are_below m (map key (xs ++ x ∷ [])) ≡ true)
one_more key xs x n m is up rise below =
    let numbers = map-append key xs (x ∷ []) ∙ ap (λ k. map key xs ++ k ∷ []) is in (
      ap do_rise numbers ∙ rise_snoc (map key xs) n rise below,
      ap (are_below m) numbers ∙ below_snoc m n (map key xs) (lower n m (map key xs) (let h : nat_lt n m ≡ true = up in grind (arith, nat_tests)) below) up,
    )

-- no rows yet
pub tracked_start : (s : Scene) (me : ℤ) → IsTracked (first_track s me)
tracked_start s me = record { rows = refl; below = refl; seen = refl; under = refl }

-- who sees the rows changes, and not their numbers
pub tracked_seen : (t : Track) (v : Sights) → numbers_seen v.rows ≡ numbers_seen t.sights.rows → IsTracked t → IsTracked (record t { sights = v })
tracked_seen t v same h = record { rows = h.rows; below = h.below; seen = ap do_rise same ∙ h.seen; under = ap (are_below t.next) same ∙ h.under }

abbrev seen_num : RowSight → ℕ
seen_num r = r.num

up_num : (b : ℤ) (r : RowSight) → (shown_to_new b r).num ≡ r.num
up_num b r = by (row_sees r b)
  where
    by : (c : Bool) → (if c then record r { shown = put_by int_lt b r.shown } else r).num ≡ r.num
    by true = refl
    by false = refl

set_num : (up : List ℤ) (num k : ℕ) (f : Sight → Sight) (r : RowSight) → (if nat_eq r.num num then row_set up k f r else r).num ≡ r.num
set_num up num k f r = by (nat_eq r.num num)
  where
    by : (c : Bool) → (if c then row_set up k f r else r).num ≡ r.num
    by true = refl
    by false = refl

pub tracked_up : (b : ℤ) (t : Track) → IsTracked t → IsTracked (track_up b t)
tracked_up b t h = tracked_seen t (with_peer_up b t.sights) (same_numbers seen_num (shown_to_new b) t.sights.rows (up_num b)) h

pub tracked_down : (b : ℤ) (t : Track) → IsTracked t → IsTracked (track_down b t)
tracked_down b t h = tracked_seen t (with_peer_down b t.sights) (same_numbers seen_num (hidden_from b) t.sights.rows (λ r. refl)) h

-- a setting
set_numbers : (up : List ℤ) (n : Option Live) (path : List ℕ) (k : ℕ) (f : Sight → Sight) (v : Sights) → numbers_seen (sights_set up n path k f v).rows ≡ numbers_seen v.rows
set_numbers up n path k f v = by (is_row n)
  where
    num : ℕ
    num = or_else (option_map (λ (m : Live). m.num) n) 0

    by : (c : Bool) → numbers_seen (if c then with_row_set up num k f v else with_fixed_set path f v).rows ≡ numbers_seen v.rows
    by true = same_numbers seen_num (λ (r : RowSight). if nat_eq r.num num then row_set up k f r else r) v.rows (set_num up num k f)
    by false = refl

pub tracked_set : (up : List ℤ) (path : List ℕ) (k : ℕ) (c : SightChange) (t : Track) (tree : TreeOf) → IsTracked t → IsTracked (sighted_by up path k c t tree None).track
tracked_set up path k c t tree h = tracked_seen t (sights_set up (live_at tree.nodes path) path k c.change t.sights) (set_numbers up (live_at tree.nodes path) path k c.change t.sights) h

-- a despawn
pub tracked_without : (num : ℕ) (t : Track) → IsTracked t → IsTracked (track_without num t)
tracked_without num t h = record {
  rows = rise_filter row_num (λ (r : SpawnedRow). not (nat_eq r.num num)) t.rows h.rows;
  below = below_filter row_num (λ (r : SpawnedRow). not (nat_eq r.num num)) t.next t.rows h.below;
  seen = rise_filter seen_num (λ (r : RowSight). not (nat_eq r.num num)) t.sights.rows h.seen;
  under = below_filter seen_num (λ (r : RowSight). not (nat_eq r.num num)) t.next t.sights.rows h.under;
}

despawned_kept : (path : List ℕ) (num : ℕ) (t : Track) (tree : TreeOf) (r : Option Refusal) → IsTracked t → IsTracked (despawned_by path num t tree r).track
despawned_kept path num t tree (Some r) h = h
despawned_kept path num t tree None h = tracked_without num t h

pub tracked_despawn : (me : ℤ) (path : List ℕ) (t : Track) (tree : TreeOf) → IsTracked t → IsTracked (own_despawn me path t tree).track
tracked_despawn me path t tree h = despawned_kept path (number_at tree.nodes path) t tree (despawn_judged (who_at me tree.scene) tree.nodes path) h

-- a spawn
next_above : (n k : ℕ) → nat_lt n (n + 1 + k) ≡ true
next_above n k = grind (arith, nat_tests)

spawned_kept : (me : ℤ) (up : List ℤ) (s : Scene) (o : SpawnOp) (r : Option Refusal) (t : Track) → IsTracked t → IsTracked (track_after me up s o r t)
spawned_kept me up s o (Some r) t h = h
spawned_kept me up s o None t h =
    let above = next_above t.next (length (syncs_at s (spawned_scene (who_at me s) o))) in
    let row = one_more row_num t.rows (own_made me s t.next o) t.next (after_made me s t.next o) refl above h.rows h.below in
    let seen = one_more seen_num t.sights.rows (new_sight up t.next (syncs_at s (spawned_scene (who_at me s) o))) t.next (after_made me s t.next o) refl above h.seen h.under in
    record { rows = row.0; below = row.1; seen = seen.0; under = seen.1 }

pub tracked_spawn : (me : ℤ) (up : List ℤ) (o : SpawnOp) (t : Track) (tree : TreeOf) → IsTracked t → IsTracked (own_spawn me up o t tree).track
tracked_spawn me up o t tree h = spawned_kept me up tree.scene o (spawn_judged (who_at me tree.scene) tree.nodes t.rows t.next o) t h
