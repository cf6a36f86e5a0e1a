use Rattle.std.proofs.Common.{rules, ap, ◌∙◌}
use Rattle.turn_hub.specs.Kept.{Caller}
use Rattle.turn_hub.proofs.Steps.{may_look}
use Rattle.turn_hub.proofs.seat.Hub.wait.Goals as goal

pub load-found-requires : goal.load-found-requires
load-found-requires g c = (search rules, search rules, may_look _ _ _ _ (ap (λ (m : Caller _ _). m.0.stage) c.loop.invariant.me ∙ c.requires.drawn.0))
