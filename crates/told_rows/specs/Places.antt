-- What a peer was told, after one synchronizer.
use Rattle.std.specs.Prelude.{ℤ, Bool, true, List, [], ◌∷◌, Option, Some, None}
use Rattle.gd_variant.specs.declared.value.Variant.{Variant}
use Rattle.scene_model.specs.Syncs.{Syncer}
use Rattle.peer_steps.specs.declared.rows.SpawnedRow.{SpawnedRow}
use Rattle.delta_props.specs.Telling.{ToldValues, with_told}

-- a peer has these values of a synchronizer, where there is one
abbrev pub told_where : ℤ → (Syncer → List Variant) → Option Syncer → ToldValues → ToldValues
told_where b f None t = t
told_where b f (Some y) t = with_told b y.id (f y) t

-- a row, where it is seen
abbrev pub row_here : Option SpawnedRow → Bool → List SpawnedRow
row_here (Some r) true = r ∷ []
row_here r seen = []
