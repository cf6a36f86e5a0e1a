use Rattle.std.proofs.Common.{◌≡◌, ◌++◌, map, filter, take}
use Rattle.scene_model.specs.declared.scene.SyncProp.{SyncProp}
use Rattle.peer_laws.specs.Shown.{values_in}
use Rattle.peer_core.proofs.sending.push_values.Given as goal

abbrev pub invariant-loop-prop : goal.invariant-loop-prop
invariant-loop-prop l = l.values ≡ l.initial.values ++ values_in l.tree.nodes l.path (map (λ (p : SyncProp). p.prop) (filter (λ (p : SyncProp). p.spawn) (take l.prop-index l.props)))
