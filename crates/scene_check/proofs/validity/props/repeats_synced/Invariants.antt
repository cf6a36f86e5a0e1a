use Rattle.std.proofs.Common.{◌≡◌, map, drop}
use Rattle.scene_model.specs.declared.scene.SyncProp.{SyncProp}
use Rattle.scene_model.specs.Valid.{has_twice}
use Rattle.scene_check.proofs.validity.props.repeats_synced.Given as goal

-- nothing so far stands again later
abbrev pub invariant-loop-at : goal.invariant-loop-at
invariant-loop-at l = has_twice (map (λ (p : SyncProp). p.prop) (drop l.at l.props)) ≡ has_twice (map (λ (p : SyncProp). p.prop) l.props)
