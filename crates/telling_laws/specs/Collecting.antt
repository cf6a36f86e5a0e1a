-- What a frame collects for each peer, in order.
use Rattle.std.specs.Prelude.{ℤ, List, [], ◌∷◌}
use Rattle.scene_model.specs.declared.scene.Scene.{Scene}
use Rattle.scene_model.specs.declared.spawn.SyncRef.{SyncRef}
use Rattle.scene_model.specs.Nodes.{Live}
use Rattle.scene_model.specs.Syncs.{Syncer}
use Rattle.delta_props.specs.Telling.{ToldValues, collected}

-- a synchronizer by its path and place, with its id
abbrev pub sync_ref : Syncer → SyncRef
sync_ref y = record { path = y.path; k = y.place; id = y.id }

-- what counts as told after a frame told some peers in order of the synchronizers that each may see
abbrev pub told_frames : Scene → List Live → (ℤ → List SyncRef) → List ℤ → ToldValues → ToldValues
told_frames s nodes refs [] t = t
told_frames s nodes refs (b ∷ bs) t = told_frames s nodes refs bs (collected b s nodes (refs b) t).1
