-- What a peer was told, from one synchronizer or row on.
use Rattle.std.proofs.Common.{◌≡◌, ℕ, zero, suc, ◌+◌, ◌<◌, ℤ, Bool, true, false, cond, List, [], ◌∷◌, ◌++◌, refl, sym, ap, ap₂, ◌∙◌, length, get_or, drop, map, Option, Some, None, arith}
use Rattle.std.specs.Prelude.{slice_get, filter_map, zip}
use Rattle.std.specs.List.{cons_option}
use Rattle.gd_variant.specs.Words.{numbered, some_is}
use Rattle.gd_variant.specs.declared.value.Variant.{Variant}
use Rattle.scene_model.specs.declared.scene.Scene.{Scene}
use Rattle.scene_model.specs.declared.scene.Node.{Node}
use Rattle.scene_model.specs.declared.scene.SyncDef.{SyncDef}
use Rattle.scene_model.specs.Nodes.{Live}
use Rattle.scene_model.specs.Syncs.{Syncer, fixed_syncer, row_syncer}
use Rattle.sight_laws.specs.Sights.{RowSight, row_sees}
use Rattle.delta_props.specs.Telling.{ToldValues}
use Rattle.peer_steps.specs.declared.rows.SpawnedRow.{SpawnedRow}
use Rattle.peer_steps.specs.Track.{seen_by}
use Rattle.telling_laws.specs.Telling.{told_all}
use Rattle.peer_steps.specs.Tellings.{rows_shown, row_shown}
use Rattle.told_rows.specs.Places.{told_where, row_here}

drop_next : {X : Type 0} (xs : List X) (i : ℕ) → drop i xs ≡ cons_option (slice_get xs i) (drop (suc i) xs)
drop_next [] zero = refl
drop_next [] (suc i) = refl
drop_next (x ∷ xs) zero = refl
drop_next (x ∷ xs) (suc i) = drop_next xs i

next : (i : ℕ) → suc i ≡ i + 1
next i = omega arith

-- one synchronizer more

told_option : (b : ℤ) (f : Syncer → List Variant) (o : Option Syncer) (ys : List Syncer) (t : ToldValues) → told_all b f (cons_option o ys) t ≡ told_all b f ys (told_where b f o t)
told_option b f None ys t = refl
told_option b f (Some y) ys t = refl

pub told_on : (b : ℤ) (f : Syncer → List Variant) (ys : List Syncer) (i : ℕ) (told made all : ToldValues) → told_all b f (drop i ys) told ≡ all → made ≡ told_where b f (slice_get ys i) told → told_all b f (drop (i + 1) ys) made ≡ all
told_on b f ys i told made all so is =
    ap (told_all b f (drop (i + 1) ys)) is ∙ sym (ap (λ zs. told_all b f zs told) (drop_next ys i ∙ ap (λ k. cons_option (slice_get ys i) (drop k ys)) (next i)) ∙ told_option b f (slice_get ys i) (drop (i + 1) ys) told) ∙ so

-- a row's synchronizer at a place

pub syncer_here : (path : List ℕ) (n : ℕ) (ids : List ℕ) (defs : List SyncDef) (k id : ℕ) (d : SyncDef) → slice_get ids k ≡ Some id → slice_get defs k ≡ Some d → slice_get (map (row_syncer path) (numbered n (zip ids defs))) k ≡ Some (row_syncer path (n + k, (id, d)))
syncer_here path n [] defs zero id d h e = absurd (let none : None ≡ Some id = h in cc none)
syncer_here path n [] defs (suc k) id d h e = absurd (let none : None ≡ Some id = h in cc none)
syncer_here path n (i ∷ ids) [] zero id d h e = absurd (let none : None ≡ Some d = e in cc none)
syncer_here path n (i ∷ ids) [] (suc k) id d h e = absurd (let none : None ≡ Some d = e in cc none)
syncer_here path n (i ∷ ids) (x ∷ defs) zero id d h e =
    let here : Some i ≡ Some id = h in
    let there : Some x ≡ Some d = e in
    let same : i ≡ id = cc here in
    let alike : x ≡ d = cc there in
    let none : n ≡ n + 0 = omega arith in
    ap₂ (λ j y. Some (row_syncer path (n, (j, y)))) same alike ∙ ap (λ m. Some (row_syncer path (m, (id, d)))) none
syncer_here path n (i ∷ ids) (x ∷ defs) (suc k) id d h e =
    let same : n + 1 + k ≡ n + suc k = omega arith in
    syncer_here path (n + 1) ids defs k id d h e ∙ ap (λ m. Some (row_syncer path (m, (id, d)))) same

pub no_id : (path : List ℕ) (n : ℕ) (ids : List ℕ) (defs : List SyncDef) (k : ℕ) → slice_get ids k ≡ None → slice_get (map (row_syncer path) (numbered n (zip ids defs))) k ≡ None
no_id path n [] defs zero h = refl
no_id path n [] defs (suc k) h = refl
no_id path n (i ∷ ids) [] zero h = refl
no_id path n (i ∷ ids) [] (suc k) h = refl
no_id path n (i ∷ ids) (x ∷ defs) zero h = absurd (let some : Some i ≡ None = h in cc some)
no_id path n (i ∷ ids) (x ∷ defs) (suc k) h = no_id path (n + 1) ids defs k h

pub no_def : (path : List ℕ) (n : ℕ) (ids : List ℕ) (defs : List SyncDef) (k : ℕ) → slice_get defs k ≡ None → slice_get (map (row_syncer path) (numbered n (zip ids defs))) k ≡ None
no_def path n [] defs zero h = refl
no_def path n [] defs (suc k) h = refl
no_def path n (i ∷ ids) [] zero h = refl
no_def path n (i ∷ ids) [] (suc k) h = refl
no_def path n (i ∷ ids) (x ∷ defs) zero h = absurd (let some : Some x ≡ None = h in cc some)
no_def path n (i ∷ ids) (x ∷ defs) (suc k) h = no_def path (n + 1) ids defs k h

-- behind all ids there is none
pub past_ids : (path : List ℕ) (n : ℕ) (ids : List ℕ) (defs : List SyncDef) → drop (length ids) (map (row_syncer path) (numbered n (zip ids defs))) ≡ []
past_ids path n [] defs = refl
past_ids path n (i ∷ ids) [] = refl
past_ids path n (i ∷ ids) (x ∷ defs) = past_ids path (n + 1) ids defs

-- fixed synchronizers

slice_here : {X : Type 0} (xs : List X) (i : ℕ) (x : X) → i < length xs → x ≡ get_or xs i x → slice_get xs i ≡ Some x
slice_here [] i x low here = absurd (omega (arith, low))
slice_here (y ∷ ys) zero x low here = ap Some (sym here)
slice_here (y ∷ ys) (suc i) x low here = slice_here ys i x (omega (arith, low)) here

one_fixed : (me : ℤ) (n : ℕ) (x : Node) (xs : List Node) → filter_map (fixed_syncer me) (numbered n (x ∷ xs)) ≡ cons_option (fixed_syncer me (n, x)) (filter_map (fixed_syncer me) (numbered (n + 1) xs))
one_fixed me n x xs = refl

pub fixed_on : (b me : ℤ) (f : Syncer → List Variant) (nodes : List Node) (i : ℕ) (x : Node) (told made all : ToldValues) → i < length nodes → x ≡ get_or nodes i x
    → told_all b f (filter_map (fixed_syncer me) (numbered (i + 1) (drop i nodes))) told ≡ all → made ≡ told_where b f (fixed_syncer me (i + 1, x)) told
    → told_all b f (filter_map (fixed_syncer me) (numbered (i + 1 + 1) (drop (i + 1) nodes))) made ≡ all
fixed_on b me f nodes i x told made all low here so is =
    let later = filter_map (fixed_syncer me) (numbered (i + 1 + 1) (drop (i + 1) nodes)) in
    let first = drop_next nodes i ∙ ap₂ (λ (o : Option Node) k. cons_option o (drop k nodes)) (slice_here nodes i x low here) (next i) in
    ap (told_all b f later) is
    ∙ sym (ap (λ (ns : List Node). told_all b f (filter_map (fixed_syncer me) (numbered (i + 1) ns)) told) first ∙ ap (λ ys. told_all b f ys told) (one_fixed me (i + 1) x (drop (i + 1) nodes)) ∙ told_option b f (fixed_syncer me (i + 1, x)) later told)
    ∙ so

-- rows that are seen

rows_joined : (s : Scene) (nodes : List Live) (b : ℤ) (rs more : List SpawnedRow) (t : ToldValues) → rows_shown s nodes b (rs ++ more) t ≡ rows_shown s nodes b more (rows_shown s nodes b rs t)
rows_joined s nodes b [] more t = refl
rows_joined s nodes b (r ∷ rs) more t = rows_joined s nodes b rs more (row_shown s nodes r b t)

seen_none : (b : ℤ) (rows : List SpawnedRow) → seen_by b rows [] ≡ []
seen_none b [] = refl
seen_none b (r ∷ rows) = refl

unseen : (r : Option SpawnedRow) → row_here r false ≡ []
unseen None = refl
unseen (Some r) = refl

seen_first : (b : ℤ) (r : SpawnedRow) (rows : List SpawnedRow) (v : RowSight) (vs : List RowSight) → seen_by b (r ∷ rows) (v ∷ vs) ≡ row_here (Some r) (row_sees v b) ++ seen_by b rows vs
seen_first b r rows v vs = step (row_sees v b)
  where
    step : (c : Bool) → cond c (r ∷ seen_by b rows vs) (seen_by b rows vs) ≡ row_here (Some r) c ++ seen_by b rows vs
    step true = refl
    step false = refl

seen_next : (b : ℤ) (rows : List SpawnedRow) (vs : List RowSight) (i : ℕ) → seen_by b (drop i rows) (drop i vs) ≡ row_here (slice_get rows i) (some_is (λ (v : RowSight). row_sees v b) (slice_get vs i)) ++ seen_by b (drop (suc i) rows) (drop (suc i) vs)
seen_next b [] vs zero = refl
seen_next b [] vs (suc i) = refl
seen_next b (r ∷ rows) [] zero = sym (seen_none b rows)
seen_next b (r ∷ rows) [] (suc i) = seen_none b (drop i rows) ∙ sym (ap (λ (rs : List SpawnedRow). rs ++ seen_by b (drop (suc i) rows) []) (unseen (slice_get rows i)) ∙ seen_none b (drop (suc i) rows))
seen_next b (r ∷ rows) (v ∷ vs) zero = seen_first b r rows v vs
seen_next b (r ∷ rows) (v ∷ vs) (suc i) = seen_next b rows vs i

pub rows_on : (s : Scene) (nodes : List Live) (b : ℤ) (rows : List SpawnedRow) (vs : List RowSight) (i : ℕ) (told made all : ToldValues) → rows_shown s nodes b (seen_by b (drop i rows) (drop i vs)) told ≡ all
    → made ≡ rows_shown s nodes b (row_here (slice_get rows i) (some_is (λ (v : RowSight). row_sees v b) (slice_get vs i))) told → rows_shown s nodes b (seen_by b (drop (i + 1) rows) (drop (i + 1) vs)) made ≡ all
rows_on s nodes b rows vs i told made all so is =
    let here = row_here (slice_get rows i) (some_is (λ (v : RowSight). row_sees v b) (slice_get vs i)) in
    let later = seen_by b (drop (i + 1) rows) (drop (i + 1) vs) in
    ap (rows_shown s nodes b later) is
    ∙ sym (ap (λ rs. rows_shown s nodes b rs told) (seen_next b rows vs i ∙ ap (λ k. here ++ seen_by b (drop k rows) (drop k vs)) (next i)) ∙ rows_joined s nodes b here later told)
    ∙ so
