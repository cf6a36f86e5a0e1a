use Rattle.std.proofs.Common.{◌≡◌, drop}
use Rattle.std.specs.Prelude.{flat_map}
use Rattle.scene_model.specs.Valid.{has_twice, synced}
use Rattle.scene_check.proofs.validity.props.repeats_in_syncs.Given as goal

-- nothing so far stands again later
abbrev pub invariant-loop-at : goal.invariant-loop-at
invariant-loop-at l = has_twice (flat_map synced (drop l.at l.syncs)) ≡ has_twice (flat_map synced l.syncs)
