-- What each event sends of own rows.
use Rattle.std.proofs.Common.{◌≡◌, ℕ, ℤ, Bool, true, false, cond, not, ◌&&◌, ◌||◌, List, [], ◌∷◌, ◌++◌, refl, sym, ap, ap₂, ◌∙◌, map, filter, nat_eq, Option, Some, None}
use Rattle.std.specs.Prelude.{int_lt, flat_map, if◌then◌else◌}
use Rattle.std.specs.List.{list_all, AllByRecursion, Contains}
use Rattle.std.specs.Ordering.{int_eq}
use Rattle.std.proofs.lemmas.Bool.{and_parts}
use Rattle.std.proofs.lemmas.List.{append-nil}
use Rattle.std.proofs.lemmas.Map.Views.{any-filter_same}
use Rattle.gd_variant.specs.Words.{text_eq, has_text, has_int, put_by}
use Rattle.scene_model.specs.declared.event.SpawnOp.{SpawnOp}
use Rattle.scene_model.specs.declared.event.Op.TheVariants.{Spawn, Custom, Despawn, Public, For, Filter}
use Rattle.scene_model.specs.Lookup.{fixed_paths}
use Rattle.scene_model.specs.Valid.{IsValidScene}
use Rattle.scene_model.proofs.ListLaws.{filter_ext}
use Rattle.scene_model.proofs.TextLaws.{text_eq-true, text_eq-same}
use Rattle.headless_tree.proofs.Numbered.{unnot}
use Rattle.peer_model.specs.Heard.{Who, Heard, does}
use Rattle.peer_model.specs.Peers.{is_up, peers_up, peers_come, brought_up, taken_down}
use Rattle.peer_model.specs.Rows.{OwnRow, own_rows, row_made, spawn_in, spawns, despawns}
use Rattle.peer_model.specs.Visible.{sees}
use Rattle.peer_model.specs.Updates.{Update, Hide, Show, Replica, applied}
use Rattle.peer_model.specs.Changes.{changes, show_of, hides_and_shows, with_tells, is_frame}
use Rattle.peer_model.specs.Answer.{Parcel, reliable, update_packet, own_sends, sends, sends_to}
use Rattle.peer_laws.proofs.Tests.{never}
use Rattle.peer_laws.proofs.Numbers.{int_is, int_same}
use Rattle.peer_laws.proofs.Each.{all-sort_by}
use Rattle.peer_laws.proofs.Filters.{all_pass}
use Rattle.peer_laws.proofs.Joined.{map-map, flat_none, flat_one}
use Rattle.peer_laws.proofs.Ups.{has_up}
use Rattle.world_laws.specs.Done.{AllDone}
use Rattle.world_laws.specs.Marks.{new_rows}
use Rattle.world_laws.proofs.Own.{own_unfixed, is_unfixed}
use Rattle.sight_laws.specs.Sights.{row_sight, any_sees}
use Rattle.sight_laws.specs.Seen.{SightSet, set_in, is_still, still_seen, rows_lost, rows_gained, shown_packet, shift_sends}
use Rattle.sight_laws.specs.Laws.{SendsCome, SendsStay, SendsSpawn, SendsDespawn, SendsSetRow, SendsSetFixed}
use Rattle.sight_laws.proofs.Lists.{every_of_all, every_true, filter_never, filter_at, flat_same, flat_chosen, SameBy}
use Rattle.sight_laws.proofs.Settings.{sees_is_kept}
use Rattle.sight_laws.proofs.Events.{still_alone, up_alone, spawn_alone, set_alone, up_same, ups_same, up_more, ups_more, up_less}
use Rattle.sight_laws.proofs.Later.{sets_at, unspawned, row_sights_left}
use Rattle.sight_laws.proofs.Stepping.{rows_same, own_nums_rise, own_same_by, rows_unspawned}
use Rattle.sight_laws.proofs.Shifts.{shifts_are_told, first_shifts}
use Rattle.world_laws.proofs.Sending.{brought_new}
use Rattle.world_laws.proofs.Law.{every_weaker}
use Rattle.peer_laws.proofs.Told.{changes_never}

-- who sees a row where no setting names it

pub sees_left : (who : Who) (e : Heard) (es : List Heard) (b : ℤ) (r : OwnRow) → spawns who r.path e ≡ false → sets_at r.path e ≡ false → sees who (e ∷ es) b r ≡ sees who es b r
sees_left who e es b r h k = sees_is_kept who (e ∷ es) b r ∙ ap (λ ys. any_sees ys b) (row_sights_left who e es r h k) ∙ sym (sees_is_kept who es b r)

pub none_set : (p : List ℕ) (e : Heard) → set_in e ≡ None → sets_at p e ≡ false
none_set p e h = rw h refl

and_true : (a b : Bool) → b ≡ false → (a && not b) ≡ a
and_true true b h = ap not h
and_true false b h = refl

still_left : (who : Who) (e : Heard) (es : List Heard) (b : ℤ) (r : OwnRow) → spawns who r.path e ≡ false → sets_at r.path e ≡ false → despawns r.path e ≡ false → still_seen who e es b r ≡ sees who es b r
still_left who e es b r h k l = and_true (sees who (e ∷ es) b r) (despawns r.path e) l ∙ sees_left who e es b r h k

-- who is up

peers_are_up : (es : List Heard) → list_all (is_up es) (peers_up es) ≡ true
peers_are_up es = all-sort_by (is_up es) int_lt (filter (is_up es) (peers_come es)) (all_pass (is_up es) (peers_come es))

pub each_is_up : (es : List Heard) → AllByRecursion (λ b. is_up es b ≡ true) (peers_up es)
each_is_up es = every_of_all (is_up es) (peers_up es) (peers_are_up es)

pub up_was : (e : Heard) (es : List Heard) (c : ℤ) → brought_up e ≡ None → is_up (e ∷ es) c ≡ true → is_up es c ≡ true
up_was e es c h up = step (taken_down e) refl
  where
    step : (o : Option ℤ) → taken_down e ≡ o → is_up es c ≡ true
    step None k = sym (up_same e es h k c) ∙ up
    step (Some b) k = (and_parts (not (int_eq c b)) (is_up es c) (sym (up_less e es b k c) ∙ up)).1

-- a row is shown to those of the peers that are up that see it
has_shown : (who : Who) (es : List Heard) (r : OwnRow) (b : ℤ) → is_up es b ≡ true → has_int b (row_sight who es r).shown ≡ sees who es b r
has_shown who es r b up =
    any-filter_same (int_eq b) (λ c. sees who es c r) (sees who es b r) (λ c k. ap (λ z. sees who es z r) (sym (int_is b c k))) (peers_up es)
    ∙ ap (λ t. sees who es b r && t) (has_up es b ∙ up) ∙ same (sees who es b r)
  where
    same : (t : Bool) → (t && true) ≡ t
    same true = refl
    same false = refl

-- packets of rows

-- packets of updates
abbrev to_peer : Who → ℤ → List Update → List Parcel
to_peer who b us = map (λ u. reliable who b (update_packet u)) us

-- what an event that is no frame has a peer told
abbrev told : Who → Heard → List Heard → ℤ → List Parcel
told who e es b = to_peer who b (hides_and_shows who (e ∷ es) b (applied who.scene who.id (changes who es b)))

told_plain : (who : Who) (e : Heard) (es : List Heard) (b : ℤ) → is_frame e ≡ false → sends_to who e es b ≡ told who e es b
told_plain who e es b plain = ap (λ c. to_peer who b (if c then with_tells who (e ∷ es) b r us else us)) plain
  where
    r : Replica
    r = applied who.scene who.id (changes who es b)

    us : List Update
    us = hides_and_shows who (e ∷ es) b (applied who.scene who.id (changes who es b))

sends_by : (who : Who) (e : Heard) (es : List Heard) (up : List ℤ) → is_frame e ≡ false → peers_up (e ∷ es) ≡ up → sends who e es ≡ own_sends who e es ++ flat_map (told who e es) up
sends_by who e es up plain h =
    ap (λ bs. own_sends who e es ++ flat_map (sends_to who e es) bs) h
    ∙ ap (λ ps. own_sends who e es ++ ps) (flat_same (sends_to who e es) (told who e es) up (every_true (λ b. sends_to who e es b ≡ told who e es b) (λ b. told_plain who e es b plain) up))

-- while a peer stays up

module _ (who : Who) (es : List Heard) (e : Heard) (valid : IsValidScene who.scene) (all : AllDone who (e ∷ es)) (b : ℤ) (was : is_up es b ≡ true) (up : is_up (e ∷ es) b ≡ true) where
  told_rows : (lost gained : List OwnRow) → rows_lost who e es b ≡ lost → rows_gained who e es b ≡ gained → told who e es b ≡ to_peer who b (map (λ (r : OwnRow). Hide r.num) lost ++ map (λ r. Show (show_of who (e ∷ es) r)) gained)
  told_rows lost gained h k = ap (to_peer who b) (shifts_are_told who es e b valid all was up ∙ ap₂ (λ rs qs. map (λ (r : OwnRow). Hide r.num) rs ++ map (λ r. Show (show_of who (e ∷ es) r)) qs) h k)

  not_both : (s t : Bool) → t ≡ s → (not t && s) ≡ false
  not_both true t h = ap (λ x. not x && true) h
  not_both false t h = ap (λ x. not x && false) h

  none_lost : AllByRecursion (λ (r : OwnRow). still_seen who e es b r ≡ sees who es b r) (own_rows who es) → rows_lost who e es b ≡ []
  none_lost same = filter_never (λ r. not (still_seen who e es b r) && sees who es b r) (own_rows who es) (every_weaker (λ (r : OwnRow). still_seen who e es b r ≡ sees who es b r) (λ (r : OwnRow). (not (still_seen who e es b r) && sees who es b r) ≡ false) (λ r h. not_both (sees who es b r) (still_seen who e es b r) h) (own_rows who es) same)

  none_gained : AllByRecursion (λ (r : OwnRow). still_seen who e es b r ≡ sees who es b r) (own_rows who es) → filter (λ r. not (sees who es b r) && still_seen who e es b r) (own_rows who es) ≡ []
  none_gained same = filter_never (λ r. not (sees who es b r) && still_seen who e es b r) (own_rows who es) (every_weaker (λ (r : OwnRow). still_seen who e es b r ≡ sees who es b r) (λ (r : OwnRow). (not (sees who es b r) && still_seen who e es b r) ≡ false) (λ r h. not_both (still_seen who e es b r) (sees who es b r) (sym h)) (own_rows who es) same)

  -- no row goes or comes, where it sees the same rows
  pub nothing_shifts : spawn_in e ≡ None → AllByRecursion (λ (r : OwnRow). still_seen who e es b r ≡ sees who es b r) (own_rows who es) → hides_and_shows who (e ∷ es) b (applied who.scene who.id (changes who es b)) ≡ []
  nothing_shifts h same =
      shifts_are_told who es e b valid all was up
      ∙ ap₂ (λ rs qs. map (λ (r : OwnRow). Hide r.num) rs ++ map (λ r. Show (show_of who (e ∷ es) r)) qs) (none_lost same) (ap₂ (λ xs o. xs ++ filter (sees who (e ∷ es) b) (new_rows who es o)) (none_gained same) h)

  -- nothing, where it sees the same rows
  told_nothing : spawn_in e ≡ None → AllByRecursion (λ (r : OwnRow). still_seen who e es b r ≡ sees who es b r) (own_rows who es) → told who e es b ≡ []
  told_nothing h same = told_rows [] [] (none_lost same) (ap₂ (λ xs o. xs ++ filter (sees who (e ∷ es) b) (new_rows who es o)) (none_gained same) h)

  -- a new row, where it sees it
  told_new : (o : SpawnOp) → spawn_in e ≡ Some o → AllByRecursion (λ (r : OwnRow). still_seen who e es b r ≡ sees who es b r) (own_rows who es)
      → told who e es b ≡ cond (sees who (e ∷ es) b (row_made who es o)) (reliable who b (shown_packet who (e ∷ es) (row_made who es o)) ∷ []) []
  told_new o h same =
      told_rows [] (filter (sees who (e ∷ es) b) (row_made who es o ∷ [])) (none_lost same) (ap₂ (λ xs p. xs ++ filter (sees who (e ∷ es) b) (new_rows who es p)) (none_gained same) h)
      ∙ step (sees who (e ∷ es) b (row_made who es o))
    where
      step : (t : Bool) → to_peer who b (map (λ r. Show (show_of who (e ∷ es) r)) (cond t (row_made who es o ∷ []) [])) ≡ cond t (reliable who b (shown_packet who (e ∷ es) (row_made who es o)) ∷ []) []
      step true = refl
      step false = refl

  -- one row alone, where it sees all others as before
  told_one : (r : OwnRow) → spawn_in e ≡ None → Contains (own_rows who es) r → AllByRecursion (λ (x : OwnRow). nat_eq x.num r.num ≡ false → still_seen who e es b x ≡ sees who es b x) (own_rows who es)
      → told who e es b ≡ shift_sends who (shown_packet who (e ∷ es) r) r.num b (sees who es b r) (still_seen who e es b r)
  told_one r h has other =
      told_rows (cond (not (still_seen who e es b r) && sees who es b r) (r ∷ []) []) (cond (not (sees who es b r) && still_seen who e es b r) (r ∷ []) [] ++ [])
      (filter_at (λ (x : OwnRow). x.num) 1 (own_rows who es) r (λ x. not (still_seen who e es b x) && sees who es b x) (own_nums_rise who es) has
      (every_weaker (λ (x : OwnRow). nat_eq x.num r.num ≡ false → still_seen who e es b x ≡ sees who es b x) (λ (x : OwnRow). nat_eq x.num r.num ≡ false → (not (still_seen who e es b x) && sees who es b x) ≡ false) (λ x k q. not_both (sees who es b x) (still_seen who e es b x) (k q)) (own_rows who es) other))
      (ap₂ (λ xs o. xs ++ filter (sees who (e ∷ es) b) (new_rows who es o))
      (filter_at (λ (x : OwnRow). x.num) 1 (own_rows who es) r (λ x. not (sees who es b x) && still_seen who e es b x) (own_nums_rise who es) has
      (every_weaker (λ (x : OwnRow). nat_eq x.num r.num ≡ false → still_seen who e es b x ≡ sees who es b x) (λ (x : OwnRow). nat_eq x.num r.num ≡ false → (not (sees who es b x) && still_seen who e es b x) ≡ false) (λ x k q. not_both (still_seen who e es b x) (sees who es b x) (sym (k q))) (own_rows who es) other))
      h)
      ∙ step (sees who es b r) (still_seen who e es b r)
    where
      step : (s t : Bool) → to_peer who b (map (λ (x : OwnRow). Hide x.num) (cond (not t && s) (r ∷ []) []) ++ map (λ x. Show (show_of who (e ∷ es) x)) (cond (not s && t) (r ∷ []) [] ++ [])) ≡ shift_sends who (shown_packet who (e ∷ es) r) r.num b s t
      step true true = refl
      step true false = refl
      step false true = refl
      step false false = refl

-- events that spawn, despawn and set nothing

pub all_left : (who : Who) (es : List Heard) (e : Heard) (b : ℤ) → is_still e ≡ true → AllByRecursion (λ (r : OwnRow). still_seen who e es b r ≡ sees who es b r) (own_rows who es)
all_left who es e b still = every_true (λ (r : OwnRow). still_seen who e es b r ≡ sees who es b r) (λ r. still_left who e es b r (unspawned who r.path e (still_alone e still).0) (none_set r.path e (still_alone e still).1) ((still_alone e still).2 r.path)) (own_rows who es)

pub sends_stay : SendsStay
sends_stay who es e valid all still h plain =
    sends_by who e es (peers_up (e ∷ es)) plain refl
    ∙ ap (λ ps. own_sends who e es ++ ps) (flat_none (is_up (e ∷ es)) (told who e es) (λ c up. told_nothing who es e valid all c (up_was e es c h up) up (still_alone e still).0 (all_left who es e c still)) (peers_up (e ∷ es)) (peers_are_up (e ∷ es)))
    ∙ append-nil (own_sends who e es)

pub sends_come : SendsCome
sends_come who es e b valid all h =
    let still = (up_alone e b h).0 in
    let new = brought_new who es e b all.0 h in
    let here : is_up (e ∷ es) b ≡ true = up_more e es b h b ∙ ap (λ t. t || is_up es b) (int_same b) in
    sends_by who e es (put_by int_lt b (peers_up es)) (up_alone e b h).2 (ups_more e es b h new)
    ∙ ap (λ ps. own_sends who e es ++ ps)
    (flat_one (is_up es) (told who e es) (λ c up. told_nothing who es e valid all c up (stays c up) (still_alone e still).0 (all_left who es e c still)) int_lt b (peers_up es) (peers_are_up es)
    ∙ ap (to_peer who b) (first_shifts who es e b (changes_never who es b new) here)
    ∙ map-map (λ u. reliable who b (update_packet u)) (λ r. Show (show_of who (e ∷ es) r)) (filter (sees who (e ∷ es) b) (own_rows who (e ∷ es)))
    ∙ ap (λ rs. map (λ r. reliable who b (shown_packet who (e ∷ es) r)) (filter (sees who (e ∷ es) b) rs)) (rows_same who es e (still_alone e still).2 (still_alone e still).0)
    ∙ ap (map (λ r. reliable who b (shown_packet who (e ∷ es) r))) (filter_ext (sees who (e ∷ es) b) (sees who es b) (λ r. sees_left who e es b r (unspawned who r.path e (still_alone e still).0) (none_set r.path e (still_alone e still).1)) (own_rows who es)))
  where
    or_true : (a : Bool) → (a || true) ≡ true
    or_true true = refl
    or_true false = refl

    stays : (c : ℤ) → is_up es c ≡ true → is_up (e ∷ es) c ≡ true
    stays c up = up_more e es b h c ∙ ap (λ t. int_eq c b || t) up ∙ or_true (int_eq c b)

-- spawns

spawn_own : (who : Who) (es : List Heard) (e : Heard) (o : SpawnOp) → spawn_in e ≡ Some o → own_sends who e es ≡ []
spawn_own who es (does (Spawn p)) o h = refl
spawn_own who es (does (Custom p)) o h = refl
spawn_own who es e o h = absurd (cc h)

pub sends_spawn : SendsSpawn
sends_spawn who es e o valid all h =
    let alone = spawn_alone e o h in
    let r = row_made who es o in
    sends_by who e es (peers_up es) alone.4 (ups_same e es alone.2 alone.3)
    ∙ ap₂ (λ ps qs. ps ++ qs) (spawn_own who es e o h)
    (flat_same (told who e es) (λ b. cond (sees who (e ∷ es) b (row_made who es o)) (reliable who b (shown_packet who (e ∷ es) (row_made who es o)) ∷ []) []) (peers_up es)
    (every_weaker (λ b. is_up es b ≡ true) (λ b. told who e es b ≡ cond (sees who (e ∷ es) b (row_made who es o)) (reliable who b (shown_packet who (e ∷ es) (row_made who es o)) ∷ []) [])
    (λ b up. told_new who es e valid all b up (up_same e es alone.2 alone.3 b ∙ up) o h (every_weaker (λ (x : OwnRow). spawns who x.path e ≡ false) (λ (x : OwnRow). still_seen who e es b x ≡ sees who es b x) (λ x k. still_left who e es b x k (none_set x.path e alone.0) (alone.1 x.path)) (own_rows who es) (rows_unspawned who es e all)))
    (peers_up es) (each_is_up es)))
    ∙ flat_chosen (λ b. sees who (e ∷ es) b (row_made who es o)) (λ b. reliable who b (shown_packet who (e ∷ es) (row_made who es o))) (peers_up es)

-- despawns

pub sends_despawn : SendsDespawn
sends_despawn who es path r valid all has same =
    sends_by who (does (Despawn path)) es (peers_up es) refl refl
    ∙ flat_same (told who (does (Despawn path)) es) (λ b. cond (sees who es b r) (reliable who b (update_packet (Hide r.num)) ∷ []) []) (peers_up es)
    (every_weaker (λ b. is_up es b ≡ true) (λ b. told who (does (Despawn path)) es b ≡ cond (sees who es b r) (reliable who b (update_packet (Hide r.num)) ∷ []) [])
    (λ b up. told_one who es (does (Despawn path)) valid all b up up r refl has
    (every_weaker (SameBy (λ (x : OwnRow). x.path) (λ (x : OwnRow). x.num) r) (λ (x : OwnRow). nat_eq x.num r.num ≡ false → still_seen who (does (Despawn path)) es b x ≡ sees who es b x)
    (λ x k q. still_left who (does (Despawn path)) es b x refl refl (ap (λ p. text_eq p x.path) (sym same) ∙ k ∙ q)) (own_rows who es) (own_same_by who es all.1 r has))
    ∙ gone b (sees who es b r) (sees who (does (Despawn path) ∷ es) b r))
    (peers_up es) (each_is_up es))
    ∙ flat_chosen (λ b. sees who es b r) (λ b. reliable who b (update_packet (Hide r.num))) (peers_up es)
  where
    here : text_eq path r.path ≡ true
    here = ap (text_eq path) same ∙ text_eq-same path

    gone : (b : ℤ) (s t : Bool) → shift_sends who (shown_packet who (does (Despawn path) ∷ es) r) r.num b s (t && not (text_eq path r.path)) ≡ cond s (reliable who b (update_packet (Hide r.num)) ∷ []) []
    gone b true true = ap (λ x. shift_sends who (shown_packet who (does (Despawn path) ∷ es) r) r.num b true (not x)) here
    gone b true false = refl
    gone b false true = ap (λ x. shift_sends who (shown_packet who (does (Despawn path) ∷ es) r) r.num b false (not x)) here
    gone b false false = refl

-- settings

set_own : (who : Who) (es : List Heard) (e : Heard) (s : SightSet) → set_in e ≡ Some s → own_sends who e es ≡ []
set_own who es (does (Public p k on)) s h = refl
set_own who es (does (For p k b on)) s h = refl
set_own who es (does (Filter p k peers)) s h = refl
set_own who es e s h = absurd (cc h)

set_at : (p : List ℕ) (e : Heard) (s : SightSet) → set_in e ≡ Some s → sets_at p e ≡ text_eq s.path p
set_at p e s h = rw h refl

set_left : (who : Who) (es : List Heard) (e : Heard) (s : SightSet) (b : ℤ) (x : OwnRow) → set_in e ≡ Some s → text_eq s.path x.path ≡ false → still_seen who e es b x ≡ sees who es b x
set_left who es e s b x h k = still_left who e es b x (unspawned who x.path e (set_alone e s h).0) (set_at x.path e s h ∙ k) ((set_alone e s h).1 x.path)

pub sends_set_row : SendsSetRow
sends_set_row who es e s r valid all h has path =
    let alone = set_alone e s h in
    sends_by who e es (peers_up es) alone.4 (ups_same e es alone.2 alone.3)
    ∙ ap₂ (λ ps qs. ps ++ qs) (set_own who es e s h)
    (flat_same (told who e es) (λ b. shift_sends who (shown_packet who (e ∷ es) r) r.num b (has_int b (row_sight who es r).shown) (has_int b (row_sight who (e ∷ es) r).shown)) (peers_up es)
    (every_weaker (λ b. is_up es b ≡ true) (λ b. told who e es b ≡ shift_sends who (shown_packet who (e ∷ es) r) r.num b (has_int b (row_sight who es r).shown) (has_int b (row_sight who (e ∷ es) r).shown))
    (λ b up.
    let later : is_up (e ∷ es) b ≡ true = up_same e es alone.2 alone.3 b ∙ up in
    told_one who es e valid all b up later r alone.0 has
    (every_weaker (SameBy (λ (x : OwnRow). x.path) (λ (x : OwnRow). x.num) r) (λ (x : OwnRow). nat_eq x.num r.num ≡ false → still_seen who e es b x ≡ sees who es b x)
    (λ x k q. set_left who es e s b x h (ap (λ p. text_eq p x.path) (sym path) ∙ k ∙ q)) (own_rows who es) (own_same_by who es all.1 r has))
    ∙ ap₂ (λ t u. shift_sends who (shown_packet who (e ∷ es) r) r.num b t u) (sym (has_shown who es r b up)) (and_true (sees who (e ∷ es) b r) (despawns r.path e) (alone.1 r.path) ∙ sym (has_shown who (e ∷ es) r b later)))
    (peers_up es) (each_is_up es)))

pub sends_set_fixed : SendsSetFixed
sends_set_fixed who es e s valid all h fixed =
    let alone = set_alone e s h in
    sends_by who e es (peers_up es) alone.4 (ups_same e es alone.2 alone.3)
    ∙ ap₂ (λ ps qs. ps ++ qs) (set_own who es e s h)
    (flat_none (is_up es) (told who e es)
    (λ b up. told_nothing who es e valid all b up (up_same e es alone.2 alone.3 b ∙ up) alone.0
    (every_weaker (λ (x : OwnRow). is_unfixed who x ≡ true) (λ (x : OwnRow). still_seen who e es b x ≡ sees who es b x)
    (λ x k. set_left who es e s b x h (never (text_eq s.path x.path) (λ t. sym fixed ∙ ap (λ p. has_text p (fixed_paths who.scene)) (text_eq-true s.path x.path t) ∙ unnot (has_text x.path (fixed_paths who.scene)) k)))
    (own_rows who es) (every_of_all (is_unfixed who) (own_rows who es) (own_unfixed who es all.1))))
    (peers_up es) (peers_are_up es))
