-- What no row of the table says of a received spawn.
use Rattle.std.proofs.Common.{◌≡◌, ℕ, ℤ, Bool, true, false, cond, not, ◌&&◌, ◌||◌, List, [], ◌∷◌, ◌++◌, refl, sym, ap, ◌∙◌, Option, Some, None, length, is_some, nat_eq, arith}
use Rattle.std.specs.Prelude.{nat_le, find, option_map, is_none}
use Rattle.std.specs.List.{list_all}
use Rattle.std.proofs.lemmas.Bool.Decides.{nat_tests}
use Rattle.std.proofs.lemmas.Bool.{and_parts}
use Rattle.gd_variant.specs.declared.value.Variant.{Variant}
use Rattle.scene_model.specs.declared.scene.Scene.{Scene}
use Rattle.scene_model.specs.declared.scene.SyncDef.{SyncDef}
use Rattle.gd_variant.specs.Words.{has_nat, when, first_some}
use Rattle.scene_model.specs.declared.spawn.SpawnMsg.{SpawnMsg}
use Rattle.scene_model.specs.declared.outcome.Fault.{Fault}
use Rattle.scene_model.specs.declared.outcome.Fault.TheVariants as fault
use Rattle.scene_model.specs.Paths.{is_name}
use Rattle.scene_model.specs.Lookup.{fixed_node_at}
use Rattle.peer_model.specs.Rows.{syncs_at}
use Rattle.peer_model.specs.Updates.{Live, live_at, spawner_with, shown_place, shown_path, all_spawn_props}
use Rattle.peer_model.specs.Refusals.{most_rows, argument_fits}
use Rattle.peer_model.specs.View.{fits}
use Rattle.peer_model.specs.Faults.{auth_is, bad_id, known_ids, first_known, all_fit, wrong_spawn}
use Rattle.headless_tree.specs.Numbers.{are_new}
use Rattle.peer_laws.specs.Facts.{rows_under}
use Rattle.peer_laws.proofs.Tests.{no_row, no_first, none_mapped}
use Rattle.peer_laws.proofs.Scenes.{shown_name}
use Rattle.peer_steps.specs.Spawns.{shown_judged}
use Rattle.peer_steps.specs.Arrivals.{meaning_judged, judged_beside}
use Rattle.peer_steps.proofs.Knowns.{first_new, new_for, known_first}
use Rattle.peer_steps.proofs.SpawnParts.{first-append}

-- the parts of why a spawn is a fault, one after the other
pub judged_is : (s : Scene) (nodes : List Live) (c : ℤ) (m : SpawnMsg) → judged_beside s nodes (length (rows_under c nodes)) c m ≡ shown_judged s nodes c m
judged_is s nodes c m =
    let meanings : List (Option Fault) = when (is_none (fixed_node_at s m.spawner)) (fault.NoName m.spawner)
    ∷ when (is_none (spawner_with s m.spawner)) fault.NoSpawner
    ∷ when (not (auth_is c (fixed_node_at s m.spawner))) fault.NotAuthority
    ∷ when (is_none (shown_name s m)) fault.NoScene ∷ [] in
    let ids : List (Option Fault) = option_map fault.IdRange (find bad_id (m.net ∷ m.syncs))
    ∷ option_map fault.KnownNet (first_known (known_ids (rows_under c nodes)) (m.net ∷ m.syncs)) ∷ [] in
    let places : List (Option Fault) = when (not (is_name m.name)) fault.BadName
    ∷ when (is_some (live_at nodes (shown_path s m))) fault.NameTaken
    ∷ when (nat_le most_rows (length (rows_under c nodes))) fault.NodesFull
    ∷ when (wrong_spawn (syncs_at s (shown_place s m)) m) fault.WrongValues ∷ [] in
    ap (first_some (meaning_judged s c m)) (sym (first-append ids places)) ∙ sym (first-append meanings (ids ++ places))

-- what is known of a spawn that is no fault
pub record IsAdmitted (s : Scene) (nodes : List Live) (c : ℤ) (m : SpawnMsg) : Type 0 where
  pub meant : is_none (shown_name s m) ≡ false
  pub fresh : first_known (known_ids (rows_under c nodes)) (m.net ∷ m.syncs) ≡ None
  pub free : is_some (live_at nodes (shown_path s m)) ≡ false
  pub room : nat_le most_rows (length (rows_under c nodes)) ≡ false
  pub values : wrong_spawn (syncs_at s (shown_place s m)) m ≡ false

pub admitted : (s : Scene) (nodes : List Live) (c : ℤ) (m : SpawnMsg) → shown_judged s nodes c m ≡ None → IsAdmitted s nodes c m
admitted s nodes c m h =
    let a = no_row (is_none (fixed_node_at s m.spawner)) (fault.NoName m.spawner) _ h in
    let b = no_row (is_none (spawner_with s m.spawner)) fault.NoSpawner _ a.1 in
    let d = no_row (not (auth_is c (fixed_node_at s m.spawner))) fault.NotAuthority _ b.1 in
    let e = no_row (is_none (shown_name s m)) fault.NoScene _ d.1 in
    let f = no_first (option_map fault.IdRange (find bad_id (m.net ∷ m.syncs))) _ e.1 in
    let g = no_first (option_map fault.KnownNet (first_known (known_ids (rows_under c nodes)) (m.net ∷ m.syncs))) _ f.1 in
    let i = no_row (not (is_name m.name)) fault.BadName _ g.1 in
    let j = no_row (is_some (live_at nodes (shown_path s m))) fault.NameTaken _ i.1 in
    let k = no_row (nat_le most_rows (length (rows_under c nodes))) fault.NodesFull _ j.1 in
    let l = no_row (wrong_spawn (syncs_at s (shown_place s m)) m) fault.WrongValues [] k.1 in
    record { meant = e.0; fresh = none_mapped fault.KnownNet (first_known (known_ids (rows_under c nodes)) (m.net ∷ m.syncs)) g.0; free = j.0; room = k.0; values = l.0 }

none_of : (test : ℕ → Bool) (seen ids : List ℕ) → first_new test seen ids ≡ None → list_all (λ id. not (test id)) ids ≡ true
none_of test seen [] h = refl
none_of test seen (id ∷ ids) h = step (test id) (has_nat id seen) h (none_of test (seen ++ id ∷ []) ids)
  where
    step : (a b : Bool) → cond (a || b) (Some id) (first_new test (seen ++ id ∷ []) ids) ≡ None → (first_new test (seen ++ id ∷ []) ids ≡ None → list_all (λ k. not (test k)) ids ≡ true)
        → (not a && list_all (λ k. not (test k)) ids) ≡ true
    step true b k more = absurd (cc k)
    step false true k more = absurd (cc k)
    step false false k more = more k

-- the numbers of such a spawn are new
pub numbers_new : (c : ℤ) (nodes : List Live) (num : ℕ) (ids : List ℕ) → first_known (known_ids (rows_under c nodes)) (num ∷ ids) ≡ None → are_new c num ids nodes ≡ true
numbers_new c nodes num ids h = none_of (new_for c nodes) [] (num ∷ ids) (sym (known_first c nodes (num ∷ ids)) ∙ h)

-- such a spawn has as many values as its scene has spawn properties, and none is too long

not_wrong : (a b c : Bool) → (not a || not b || not c) ≡ false → (a ≡ true) × (b ≡ true) × (c ≡ true)
not_wrong true true true h = (refl, refl, refl)
not_wrong true true false h = absurd (cc h)
not_wrong true false c h = absurd (cc h)
not_wrong false b c h = absurd (cc h)

parts_right : (defs : List SyncDef) (m : SpawnMsg) → wrong_spawn defs m ≡ false
    → (nat_eq (length m.syncs) (length defs) ≡ true) × (nat_eq (length m.values) (length (all_spawn_props defs)) ≡ true) × (all_fit m.arg m.values ≡ true)
parts_right defs m h = not_wrong (nat_eq (length m.syncs) (length defs)) (nat_eq (length m.values) (length (all_spawn_props defs))) (all_fit m.arg m.values) h

same_count : (n m : ℕ) → nat_eq n m ≡ true → m ≡ n
same_count n m k = grind (arith, nat_tests)

pub values_many : (defs : List SyncDef) (m : SpawnMsg) → wrong_spawn defs m ≡ false → length (all_spawn_props defs) ≡ length m.values
values_many defs m h = same_count (length m.values) (length (all_spawn_props defs)) (parts_right defs m h).1

fit_parts : (arg : Option Variant) (values : List Variant) → all_fit arg values ≡ true → (argument_fits arg ≡ true) × (list_all fits values ≡ true)
fit_parts None values h = (refl, h)
fit_parts (Some v) values h = and_parts (fits v) (list_all fits values) h

pub values_short : (defs : List SyncDef) (m : SpawnMsg) → wrong_spawn defs m ≡ false → list_all fits m.values ≡ true
values_short defs m h = (fit_parts m.arg m.values (parts_right defs m h).2).1

pub argument_short : (defs : List SyncDef) (m : SpawnMsg) → wrong_spawn defs m ≡ false → argument_fits m.arg ≡ true
argument_short defs m h = (fit_parts m.arg m.values (parts_right defs m h).2).0
