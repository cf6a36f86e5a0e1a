use Rattle.std.proofs.Common.{◌≡◌, ◌++◌, map, filter, take}
use Rattle.scene_model.specs.declared.scene.SyncProp.{SyncProp}
use Rattle.spawn_track.proofs.shown.push_names.Given as goal

abbrev pub invariant-loop-prop : goal.invariant-loop-prop
invariant-loop-prop l = l.names ≡ l.initial.names ++ map (λ (p : SyncProp). p.prop) (filter (λ (p : SyncProp). p.spawn) (take l.prop-index l.props))
