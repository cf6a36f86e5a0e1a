use Rattle.std.proofs.Common.{rules, ap}
use Rattle.turn_hub.specs.Kept.{Caller}
use Rattle.turn_hub.proofs.Turns.{slot_out}
use Rattle.turn_hub.proofs.seat.Hub.take.Goals as goal

pub exchange-requires : goal.exchange-requires
exchange-requires g c =
    let h = c.wait.ensures.holds in (search rules, slot_out _ _ _ (ap (λ (m : Caller _ _). m.1) h.3))
