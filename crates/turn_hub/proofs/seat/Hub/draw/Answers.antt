use Rattle.std.proofs.Common.{rules, ap, sym, subst, ◌∙◌, ◌<◌}
use Rattle.turn_hub.specs.Kept.{Caller}
use Rattle.turn_hub.proofs.Steps.{may_draw}
use Rattle.turn_hub.proofs.seat.Hub.draw.Goals as goal

pub compare_exchange-found-requires : goal.compare_exchange-found-requires
compare_exchange-found-requires g c = (
  search rules,
  search rules,
  may_draw _ _ _ _ _
      (ap (λ (m : Caller _ _). m.0.stage) c.loop.invariant.me ∙ c.requires.idle)
      (subst (λ (m : Caller _ _). 0 < m.0.units) (sym c.loop.invariant.me) c.requires.some),
)
