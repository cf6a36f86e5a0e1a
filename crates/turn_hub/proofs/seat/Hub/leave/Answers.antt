use Rattle.std.proofs.Common.{rules}
use Rattle.turn_hub.proofs.Steps.{may_leave}
use Rattle.turn_hub.proofs.seat.Hub.leave.Goals as goal

pub store-requires : goal.store-requires
store-requires g c =
    let j = c.requires.journal in (
      search rules,
      search rules,
      may_leave _ _ _ c.args.number _ j.0 c.requires.holds.0 c.requires.holds.1 j.1 j.2,
    )
