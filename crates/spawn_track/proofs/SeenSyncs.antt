-- The synchronizers that a peer may see, from one place on.
use Rattle.std.proofs.Common.{◌≡◌, ℕ, zero, suc, ◌+◌, ◌<◌, ◌≤◌, ℤ, Bool, true, false, cond, List, [], ◌∷◌, ◌++◌, refl, sym, ap, ap₂, ◌∙◌, length, get_or, drop, append_assoc, map, ◌&&◌, Option, Some, None, arith}
use Rattle.std.specs.Prelude.{filter, slice_get, nat_eq, nat_le, nat_lt}
use Rattle.std.specs.List.{list_all}
use Rattle.std.proofs.lemmas.Bool.{le-leb, leb-true, ltb-false, or_parts, and_parts, eqb-true}
use Rattle.gd_variant.specs.Words.{some_is}
use Rattle.scene_model.specs.declared.scene.Scene.{Scene}
use Rattle.scene_model.specs.declared.scene.SceneDef.{SceneDef}
use Rattle.scene_model.specs.declared.spawn.SyncRef.{SyncRef}
use Rattle.scene_model.specs.Lookup.{scene_at}
use Rattle.scene_model.specs.Paths.{is_name}
use Rattle.scene_model.specs.Valid.{IsValidScene, scene_why}
use Rattle.peer_model.specs.Rows.{syncs_at}
use Rattle.headless_tree.proofs.Numbered.{all_at}
use Rattle.peer_laws.proofs.Scenes.{all_right, scenes_right, right_def}
use Rattle.sight_laws.specs.Sights.{Sight, RowSight, FixedSight, is_visible}
use Rattle.visibility.specs.Settings.{path_seen}
use Rattle.peer_steps.specs.declared.rows.SpawnedRow.{SpawnedRow}
use Rattle.peer_steps.specs.Rights.{is_right_row, is_right_byte, is_right_argument}
use Rattle.peer_steps.specs.Tellings.{fixed_ref, fixed_seen, row_seen, rows_seen}
use Rattle.spawn_track.specs.Seeing.{has_few_ids, fixed_refs, ref_seen, sights_in, row_refs}

-- a list that was built so far, with what is left
pub grow : {X : Type 0} (old out later made here all : List X) (part : List X) → out ++ here ≡ old ++ all → here ≡ part ++ later → made ≡ out ++ part → made ++ later ≡ old ++ all
grow old out later made here all part so splits is = ap (λ ys. ys ++ later) is ∙ append_assoc out part later ∙ ap (λ ys. out ++ ys) (sym splits) ∙ so

next : (i : ℕ) → suc i ≡ i + 1
next i = omega arith

-- fixed ones
one_fixed : (b : ℤ) (s : Scene) (x : FixedSight) (xs : List FixedSight) → fixed_seen b s (x ∷ xs) ≡ fixed_refs s (path_seen b (Some x)) ++ fixed_seen b s xs
one_fixed b s x xs = step (is_visible x.sight b)
  where
    step : (c : Bool) → map (fixed_ref s) (cond c (x ∷ filter (λ (y : FixedSight). is_visible y.sight b) xs) (filter (λ (y : FixedSight). is_visible y.sight b) xs)) ≡ fixed_refs s (cond c (Some x.path) None) ++ fixed_seen b s xs
    step true = refl
    step false = refl

pub fixed_next : (b : ℤ) (s : Scene) (xs : List FixedSight) (i : ℕ) → fixed_seen b s (drop i xs) ≡ fixed_refs s (path_seen b (slice_get xs i)) ++ fixed_seen b s (drop (suc i) xs)
fixed_next b s [] zero = refl
fixed_next b s [] (suc i) = refl
fixed_next b s (x ∷ xs) zero = one_fixed b s x xs
fixed_next b s (x ∷ xs) (suc i) = fixed_next b s xs i

pub fixed_on : (b : ℤ) (s : Scene) (xs : List FixedSight) (i : ℕ) (old out made : List SyncRef) (o : Option (List ℕ)) → out ++ fixed_seen b s (drop i xs) ≡ old ++ fixed_seen b s xs → o ≡ path_seen b (slice_get xs i) → made ≡ out ++ fixed_refs s o
    → made ++ fixed_seen b s (drop (i + 1) xs) ≡ old ++ fixed_seen b s xs
fixed_on b s xs i old out made o so here is = grow old out (fixed_seen b s (drop (i + 1) xs)) made (fixed_seen b s (drop i xs)) (fixed_seen b s xs) (fixed_refs s o) so
    (fixed_next b s xs i ∙ ap₂ (λ q k. fixed_refs s q ++ fixed_seen b s (drop k xs)) (sym here) (next i)) is

-- those of a row
one_seen : (b : ℤ) (path : List ℕ) (k id : ℕ) (ids : List ℕ) (v : Sight) (vs : List Sight) → row_seen b path k (id ∷ ids) (v ∷ vs) ≡ ref_seen path k (Some id) (is_visible v b) ++ row_seen b path (k + 1) ids vs
one_seen b path k id ids v vs = step (is_visible v b)
  where
    step : (c : Bool) → cond c (record { path = path; k = k; id = id } ∷ row_seen b path (k + 1) ids vs) (row_seen b path (k + 1) ids vs) ≡ ref_seen path k (Some id) c ++ row_seen b path (k + 1) ids vs
    step true = refl
    step false = refl

unseen : (b : ℤ) (path : List ℕ) (k : ℕ) (ids : List ℕ) → row_seen b path k ids [] ≡ []
unseen b path k [] = refl
unseen b path k (id ∷ ids) = refl

no_ref : (path : List ℕ) (k : ℕ) (id : Option ℕ) → ref_seen path k id false ≡ []
no_ref path k None = refl
no_ref path k (Some id) = refl

pub row_next : (b : ℤ) (path : List ℕ) (k : ℕ) (ids : List ℕ) (vs : List Sight) (i : ℕ)
    → row_seen b path k (drop i ids) (drop i vs) ≡ ref_seen path k (slice_get ids i) (some_is (λ (y : Sight). is_visible y b) (slice_get vs i)) ++ row_seen b path (k + 1) (drop (suc i) ids) (drop (suc i) vs)
row_next b path k [] vs zero = refl
row_next b path k [] vs (suc i) = refl
row_next b path k (id ∷ ids) [] zero = sym (unseen b path (k + 1) ids)
row_next b path k (id ∷ ids) [] (suc i) = unseen b path k (drop i ids) ∙ sym (ap (λ (rs : List SyncRef). rs ++ row_seen b path (k + 1) (drop (suc i) ids) []) (no_ref path k (slice_get ids i)) ∙ unseen b path (k + 1) (drop (suc i) ids))
row_next b path k (id ∷ ids) (v ∷ vs) zero = one_seen b path k id ids v vs
row_next b path k (id ∷ ids) (v ∷ vs) (suc i) = row_next b path k ids vs i

pub sights_at : (b : ℤ) (k : ℕ) (o : Option RowSight) → some_is (λ (v : RowSight). some_is (λ (y : Sight). is_visible y b) (slice_get v.syncs k)) o ≡ some_is (λ (y : Sight). is_visible y b) (slice_get (sights_in o) k)
sights_at b zero None = refl
sights_at b (suc k) None = refl
sights_at b k (Some v) = refl

pub row_on : (b : ℤ) (path : List ℕ) (ids : List ℕ) (v : Option RowSight) (k : ℕ) (old out made : List SyncRef) (seen : Bool) → out ++ row_seen b path k (drop k ids) (drop k (sights_in v)) ≡ old ++ row_seen b path 0 ids (sights_in v)
    → seen ≡ some_is (λ (w : RowSight). some_is (λ (y : Sight). is_visible y b) (slice_get w.syncs k)) v → made ≡ out ++ ref_seen path k (slice_get ids k) seen
    → made ++ row_seen b path (k + 1) (drop (k + 1) ids) (drop (k + 1) (sights_in v)) ≡ old ++ row_seen b path 0 ids (sights_in v)
row_on b path ids v k old out made seen so here is = grow old out (row_seen b path (k + 1) (drop (k + 1) ids) (drop (k + 1) (sights_in v))) made (row_seen b path k (drop k ids) (drop k (sights_in v))) (row_seen b path 0 ids (sights_in v)) (ref_seen path k (slice_get ids k) seen) so
    (row_next b path k ids (sights_in v) k ∙ ap₂ (λ q j. ref_seen path k (slice_get ids k) q ++ row_seen b path (k + 1) (drop j ids) (drop j (sights_in v))) (sym (here ∙ sights_at b k v)) (next k)) is

pub row_done : (b : ℤ) (path : List ℕ) (k : ℕ) (ids : List ℕ) (vs : List Sight) → row_seen b path k (drop (length ids) ids) vs ≡ []
row_done b path k [] vs = refl
row_done b path k (id ∷ ids) vs = row_done b path k ids vs

-- those of rows
slice_here : {X : Type 0} (xs : List X) (i : ℕ) (x : X) → i < length xs → x ≡ get_or xs i x → slice_get xs i ≡ Some x
slice_here [] i x low here = absurd (omega (arith, low))
slice_here (y ∷ ys) zero x low here = ap Some (sym here)
slice_here (y ∷ ys) (suc i) x low here = slice_here ys i x (omega (arith, low)) here

no_rows : (b : ℤ) (rs : List SpawnedRow) → rows_seen b rs [] ≡ []
no_rows b [] = refl
no_rows b (r ∷ rs) = refl

pub rows_next : (b : ℤ) (rows : List SpawnedRow) (vs : List RowSight) (i : ℕ) (r : SpawnedRow) → slice_get rows i ≡ Some r
    → rows_seen b (drop i rows) (drop i vs) ≡ row_refs b r (slice_get vs i) ++ rows_seen b (drop (suc i) rows) (drop (suc i) vs)
rows_next b [] vs zero r h = absurd (let none : None ≡ Some r = h in cc none)
rows_next b [] vs (suc i) r h = absurd (let none : None ≡ Some r = h in cc none)
rows_next b (x ∷ rows) [] zero r h = sym (ap (λ (rs : List SyncRef). rs ++ rows_seen b rows []) (unseen b r.path 0 r.ids) ∙ no_rows b rows)
rows_next b (x ∷ rows) [] (suc i) r h = no_rows b (drop i rows) ∙ sym (ap (λ (rs : List SyncRef). rs ++ rows_seen b (drop (suc i) rows) []) (unseen b r.path 0 r.ids) ∙ no_rows b (drop (suc i) rows))
rows_next b (x ∷ rows) (v ∷ vs) zero r h = let same : Some x ≡ Some r = h in let is : x ≡ r = cc in ap (λ (q : SpawnedRow). row_seen b q.path 0 q.ids v.syncs ++ rows_seen b rows vs) is
rows_next b (x ∷ rows) (v ∷ vs) (suc i) r h = rows_next b rows vs i r h

pub rows_on : (b : ℤ) (rows : List SpawnedRow) (vs : List RowSight) (i : ℕ) (r : SpawnedRow) (old out made : List SyncRef) → i < length rows → r ≡ get_or rows i r → out ++ rows_seen b (drop i rows) (drop i vs) ≡ old ++ rows_seen b rows vs → made ≡ out ++ row_refs b r (slice_get vs i)
    → made ++ rows_seen b (drop (i + 1) rows) (drop (i + 1) vs) ≡ old ++ rows_seen b rows vs
rows_on b rows vs i r old out made low here so is = grow old out (rows_seen b (drop (i + 1) rows) (drop (i + 1) vs)) made (rows_seen b (drop i rows) (drop i vs)) (rows_seen b rows vs) (row_refs b r (slice_get vs i)) so
    (rows_next b rows vs i r (slice_here rows i r low here) ∙ ap (λ j. row_refs b r (slice_get vs i) ++ rows_seen b (drop j rows) (drop j vs)) (next i)) is

-- a row that is right has at most 8 ids
few_syncs : (s : Scene) → IsValidScene s → list_all (λ (d : SceneDef). nat_le (length d.syncs) 8) s.scenes ≡ true
few_syncs s v = all_right scene_why (λ (d : SceneDef). nat_le (length d.syncs) 8) (λ earlier d h. le-leb (length d.syncs) 8 (ltb-false 8 (length d.syncs) (or_parts _ (nat_lt 8 (length d.syncs)) (right_def earlier d h).few).1)) [] s.scenes (scenes_right s v)

few_at : (s : Scene) → IsValidScene s → (place : ℕ) → length (syncs_at s (Some place)) ≤ 8
few_at s v place = by (scene_at s place) refl
  where
    by : (o : Option SceneDef) → scene_at s place ≡ o → length (syncs_at s (Some place)) ≤ 8
    by None e = rw e (omega arith)
    by (Some d) e = rw e (leb-true (length d.syncs) 8 (all_at (λ (x : SceneDef). nat_le (length x.syncs) 8) s.scenes place d e (few_syncs s v)))

few_ids : (s : Scene) → IsValidScene s → (r : SpawnedRow) → is_right_row s r ≡ true → has_few_ids r ≡ true
few_ids s v r h =
    let last = (is_right_byte r.byte r.arg && is_right_argument r.arg) && nat_lt r.place (length s.scenes) in
    let many = nat_eq (length r.ids) (length (syncs_at s (Some r.place))) in
    let same : length r.ids ≡ length (syncs_at s (Some r.place)) = eqb-true (length r.ids) (length (syncs_at s (Some r.place))) (and_parts (is_name r.name) many (and_parts (is_name r.name && many) last h).0).1 in
    le-leb (length r.ids) 8 (omega (arith, same, few_at s v r.place))

pub all_few : (s : Scene) → IsValidScene s → (rows : List SpawnedRow) → list_all (is_right_row s) rows ≡ true → list_all has_few_ids rows ≡ true
all_few s v [] h = refl
all_few s v (r ∷ rs) h = let parts = and_parts (is_right_row s r) (list_all (is_right_row s) rs) h in ap₂ (λ a b. a && b) (few_ids s v r parts.0) (all_few s v rs parts.1)
