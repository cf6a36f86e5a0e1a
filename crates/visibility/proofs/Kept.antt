-- What is kept of settings, rows and fixed synchronizers, against the definitions.
use Rattle.std.proofs.Common.{◌≡◌, ℕ, zero, suc, ◌+◌, ◌<◌, ◌≤◌, ℤ, Bool, true, false, cond, not, ◌&&◌, ◌||◌, List, [], ◌∷◌, refl, sym, ap, ap₂, subst, ◌∙◌, length, map, filter, flat_map, nat_eq, nat_lt, Option, Some, None, is_some, arith}
use Rattle.std.specs.Prelude.{filter_map, position, remove, is_none, slice_get, slice_index_or, nat_le, if◌then◌else◌}
use Rattle.std.specs.List.{slice_set, list_any}
use Rattle.std.specs.Map.{lookup}
use Rattle.std.specs.Option.{option_map_or}
use Rattle.std.specs.Ordering.{int_eq}
use Rattle.gd_variant.specs.Words.{numbered, or_else}
use Rattle.scene_model.specs.declared.scene.Node.{Node}
use Rattle.scene_model.specs.declared.scene.SyncDef.{SyncDef}
use Rattle.scene_model.specs.declared.scene.Scene.{Scene}
use Rattle.scene_model.specs.Lookup.{sync_of}
use Rattle.scene_model.specs.Syncs.{fixed_syncer}
use Rattle.headless_tree.specs.Lists as lists
use Rattle.headless_tree.proofs.Apart.{one_changed, none_changed, none_gone, taken_apart}
use Rattle.headless_tree.proofs.Changes.{change_by_place}
use Rattle.headless_tree.proofs.Numbered.{none_placed}
use Rattle.headless_tree.proofs.Places.{first_is, found_at, not_found}
use Rattle.indexmap.specs.IndexMap.{insert_entry}
use Rattle.peer_laws.proofs.Numbers.{int_comm}
use Rattle.peer_steps.specs.Track.{sight_with}
use Rattle.sight_laws.specs.Sights.{Sight, RowSight, FixedSight, Sights, has_setting, is_set, put_setting, is_set_full, fixed_first, first_sights, change_at, first_sight}
use Rattle.visibility.specs.Rising.{rise_by_number}
use Rattle.visibility.specs.Settings.{fixed_from, kept_setting}
use Rattle.visibility.proofs.Rises.{rises_apart}

-- settings by peer

pub set_is : (b : ℤ) (es : List (ℤ × Bool)) → or_else (lookup (int_eq b) es) false ≡ is_set b (map kept_setting es)
set_is b [] = refl
set_is b (e ∷ es) = by (int_eq b e.0) (int_eq e.0 b) (int_comm b e.0) (set_is b es)
  where
    by : (c d : Bool) → c ≡ d → or_else (lookup (int_eq b) es) false ≡ is_set b (map kept_setting es) → or_else (cond c (Some e.1) (lookup (int_eq b) es)) false ≡ (if d then e.1 else is_set b (map kept_setting es))
    by true true p more = refl
    by false false p more = more
    by true false p more = absurd (cc p)
    by false true p more = absurd (cc p)

pub has_is : (b : ℤ) (es : List (ℤ × Bool)) → is_some (lookup (int_eq b) es) ≡ has_setting b (map kept_setting es)
has_is b [] = refl
has_is b (e ∷ es) = by (int_eq b e.0) (int_eq e.0 b) (int_comm b e.0) (has_is b es)
  where
    by : (c d : Bool) → c ≡ d → is_some (lookup (int_eq b) es) ≡ has_setting b (map kept_setting es) → is_some (cond c (Some e.1) (lookup (int_eq b) es)) ≡ (d || has_setting b (map kept_setting es))
    by true true p more = refl
    by false false p more = more
    by true false p more = absurd (cc p)
    by false true p more = absurd (cc p)

pub put_is : (b : ℤ) (on : Bool) (es : List (ℤ × Bool)) → map kept_setting (insert_entry int_eq es b on) ≡ put_setting b on (map kept_setting es)
put_is b on [] = refl
put_is b on (e ∷ es) = by (int_eq b e.0) (int_eq e.0 b) (int_comm b e.0) (put_is b on es)
  where
    by : (c d : Bool) → c ≡ d → map kept_setting (insert_entry int_eq es b on) ≡ put_setting b on (map kept_setting es)
        → map kept_setting (if c then (e.0, on) ∷ es else e ∷ insert_entry int_eq es b on) ≡ (if d then record { peer = e.0; on = on } ∷ map kept_setting es else kept_setting e ∷ put_setting b on (map kept_setting es))
    by true true p more = refl
    by false false p more = ap (λ ss. kept_setting e ∷ ss) more
    by true false p more = absurd (cc p)
    by false true p more = absurd (cc p)

kept_length : (es : List (ℤ × Bool)) → length es ≡ length (map kept_setting es)
kept_length [] = refl
kept_length (e ∷ es) = ap suc (kept_length es)

pub full_is : (b : ℤ) (es : List (ℤ × Bool)) (y : Sight) (has : Bool) (n : ℕ) → map kept_setting es ≡ y.set → has ≡ is_some (lookup (int_eq b) es) → n ≡ length es → (not has && nat_le 4096 n) ≡ is_set_full b y
full_is b es y has n same found long =
    ap₂ (λ c k. not c && nat_le 4096 k) (found ∙ has_is b es) (long ∙ kept_length es)
    ∙ ap (λ ss. not (has_setting b ss) && nat_le 4096 (length ss)) same

pub full_new : (b : ℤ) (es : List (ℤ × Bool)) (y : Sight) (has : Bool) (n : ℕ) → map kept_setting es ≡ y.set → has ≡ is_some (lookup (int_eq b) es) → n ≡ length es → not has ≡ true → nat_le 4096 n ≡ is_set_full b y
full_new b es y has n same found long new = sym (ap (λ c. c && nat_le 4096 n) new) ∙ full_is b es y has n same found long

pub full_old : (b : ℤ) (es : List (ℤ × Bool)) (y : Sight) (has : Bool) → map kept_setting es ≡ y.set → has ≡ is_some (lookup (int_eq b) es) → not has ≡ false → not has ≡ is_set_full b y
full_old b es y has same found old = old ∙ sym (ap (λ c. c && nat_le 4096 (length es)) old) ∙ full_is b es y has (length es) same found refl

-- one synchronizer of a row

pub set_changes : {X : Type 0} (f : X → X) (xs : List X) (k : ℕ) (x y : X) → k < length xs → x ≡ slice_index_or xs k x → y ≡ f x → slice_set xs k y ≡ change_at k f xs
set_changes f [] k x y low at now = absurd (omega (arith, low))
set_changes f (z ∷ xs) zero x y low at now = ap (λ w. w ∷ xs) (now ∙ ap f at)
set_changes f (z ∷ xs) (suc k) x y low at now = ap (λ ws. z ∷ ws) (set_changes f xs k x y (omega (arith, low)) at now)

pub past_same : {X : Type 0} (f : X → X) (xs : List X) (k n : ℕ) → n ≡ length xs → n ≤ k → xs ≡ change_at k f xs
past_same f [] k n long past = refl
past_same f (x ∷ xs) zero n long past = absurd (omega (arith, long, past))
past_same f (x ∷ xs) (suc k) n long past = ap (λ ws. x ∷ ws) (past_same f xs k (length xs) refl (omega (arith, long, past)))

pub low_same : {X : Type 0} (xs : List X) (k n : ℕ) → n ≡ length xs → k < n → k < length xs
low_same xs k n long low = omega (arith, long, low)

-- a row by its number

has_num : ℕ → RowSight → Bool
has_num num r = nat_eq r.num num

index_is : {X : Type 0} (xs : List X) (i : ℕ) (x : X) → i < length xs → x ≡ slice_index_or xs i x → Some x ≡ slice_get xs i
index_is [] i x low e = absurd (omega (arith, low))
index_is (y ∷ xs) zero x low e = ap Some e
index_is (y ∷ xs) (suc i) x low e = index_is xs i x (omega (arith, low)) e

pub row_found : (num : ℕ) (items slice rows : List RowSight) (i : ℕ) (x : RowSight) → slice ≡ items → items ≡ rows → Some i ≡ position (λ (r : RowSight). nat_eq r.num num) slice → i < length slice → x ≡ slice_index_or items i x → Some x ≡ sight_with num rows
row_found num items slice rows i x same view at low here =
    index_is items i x (subst (λ (rs : List RowSight). i < length rs) same low) here
    ∙ found_at (λ (r : RowSight). nat_eq r.num num) items i (ap (position (λ (r : RowSight). nat_eq r.num num)) (sym same) ∙ sym at)
    ∙ ap (sight_with num) view

pub row_unfound : (num : ℕ) (items slice rows : List RowSight) → slice ≡ items → items ≡ rows → None ≡ position (λ (r : RowSight). nat_eq r.num num) slice → None ≡ sight_with num rows
row_unfound num items slice rows same view at =
    sym (not_found (λ (r : RowSight). nat_eq r.num num) slice (sym at)) ∙ ap (sight_with num) (same ∙ view)

pub rises_in : (slice items rows : List RowSight) → slice ≡ items → items ≡ rows → rise_by_number rows ≡ true → rise_by_number slice ≡ true
rises_in slice items rows same view rise = ap rise_by_number (same ∙ view) ∙ rise

none_any : (num : ℕ) (rows : List RowSight) → None ≡ position (λ (r : RowSight). nat_eq r.num num) rows → list_any (λ (r : RowSight). nat_eq r.num num) rows ≡ false
none_any num rows at = by (list_any (λ (r : RowSight). nat_eq r.num num) rows) (ap is_none at ∙ none_placed (λ (r : RowSight). nat_eq r.num num) rows)
  where
    by : (b : Bool) → true ≡ not b → b ≡ false
    by false h = refl
    by true h = absurd (cc h)

-- the row of a number goes
pub row_goes : (num : ℕ) (slice items left : List RowSight) (i : ℕ) → slice ≡ items → rise_by_number items ≡ true → Some i ≡ position (λ (r : RowSight). nat_eq r.num num) slice → left ≡ remove items i
    → left ≡ filter (λ (r : RowSight). not (nat_eq r.num num)) items
row_goes num slice items left i same rise at gone =
    gone ∙ taken_apart (λ (r : RowSight). nat_lt r.num num) (λ (r : RowSight). nat_eq r.num num) items i (rises_apart (λ (r : RowSight). r.num) num items rise) (ap (position (λ (r : RowSight). nat_eq r.num num)) (sym same) ∙ sym at)

pub none_goes : (num : ℕ) (slice items : List RowSight) → slice ≡ items → None ≡ position (λ (r : RowSight). nat_eq r.num num) slice → items ≡ filter (λ (r : RowSight). not (nat_eq r.num num)) items
none_goes num slice items same at = none_gone (λ (r : RowSight). nat_eq r.num num) items (none_any num items (at ∙ ap (position (λ (r : RowSight). nat_eq r.num num)) same))

-- the row of a number is set otherwise
changed_at : {X : Type 0} (f : X → X) (xs : List X) (i : ℕ) (x y : X) → Some x ≡ slice_get xs i → y ≡ f x → slice_set xs i y ≡ lists.change_at i f xs
changed_at f xs i x y at now = ap (slice_set xs i) now ∙ ap (λ o. option_map_or (λ z. slice_set xs i (f z)) o xs) at

pub row_changes : (num : ℕ) (f : RowSight → RowSight) (slice items : List RowSight) (i : ℕ) (x y : RowSight) → slice ≡ items → rise_by_number items ≡ true → Some i ≡ position (λ (r : RowSight). nat_eq r.num num) slice → i < length slice → x ≡ slice_index_or items i x → y ≡ f x
    → slice_set items i y ≡ map (λ (r : RowSight). if nat_eq r.num num then f r else r) items
row_changes num f slice items i x y same rise at low here now =
    let there = ap (position (λ (r : RowSight). nat_eq r.num num)) (sym same) ∙ sym at in
    changed_at f items i x y (index_is items i x (subst (λ (rs : List RowSight). i < length rs) same low) here) now
    ∙ ap (λ k. lists.change_at k f items) (sym (first_is (λ (r : RowSight). nat_eq r.num num) items i there))
    ∙ change_by_place (λ (r : RowSight). nat_eq r.num num) f items
    ∙ one_changed (λ (r : RowSight). nat_lt r.num num) (λ (r : RowSight). nat_eq r.num num) f items (rises_apart (λ (r : RowSight). r.num) num items rise)

pub none_changes : (num : ℕ) (f : RowSight → RowSight) (slice items : List RowSight) → slice ≡ items → None ≡ position (λ (r : RowSight). nat_eq r.num num) slice → items ≡ map (λ (r : RowSight). if nat_eq r.num num then f r else r) items
none_changes num f slice items same at = none_changed (λ (r : RowSight). nat_eq r.num num) f items (none_any num items (at ∙ ap (position (λ (r : RowSight). nat_eq r.num num)) same))

-- the fixed synchronizers, node by node
fixed_later : (me : ℤ) (i : ℕ) (ns : List Node) → flat_map (fixed_from me) ns ≡ map fixed_first (filter_map (fixed_syncer me) (numbered i ns))
fixed_later me i [] = refl
fixed_later me i (n ∷ ns) = by (int_eq n.auth me) (sync_of n) refl refl (fixed_later me (i + 1) ns)
  where
    Goal : Type 0
    Goal = flat_map (fixed_from me) (n ∷ ns) ≡ map fixed_first (filter_map (fixed_syncer me) (numbered i (n ∷ ns)))

    by : (b : Bool) (o : Option SyncDef) → int_eq n.auth me ≡ b → sync_of n ≡ o → flat_map (fixed_from me) ns ≡ map fixed_first (filter_map (fixed_syncer me) (numbered (i + 1) ns)) → Goal
    by true (Some d) p q more = rw (p, q) (ap (λ xs. record { path = n.path; sight = first_sight d } ∷ xs) more)
    by true None p q more = rw (p, q) more
    by false o p q more = rw p more

pub fixed_all : (s : Scene) (me : ℤ) (ns : List Node) (xs : List FixedSight) → ns ≡ s.nodes → xs ≡ flat_map (fixed_from me) ns → ◌≡◌ {A = Sights} (record { rows = []; fixed = xs }) (first_sights s me)
fixed_all s me ns xs same is = ap {B = Sights} (λ (ys : List FixedSight). record { rows = []; fixed = ys }) (is ∙ ap (flat_map (fixed_from me)) same ∙ fixed_later me 1 s.nodes)
