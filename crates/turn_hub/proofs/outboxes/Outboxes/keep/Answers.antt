use Rattle.std.proofs.Common.{ap, ◌∙◌}
use Rattle.turn_hub.specs.Boxes.{waiting}
use Rattle.turn_hub.proofs.outboxes.Outboxes.keep.Goals as goal

pub returns-clause-none : goal.returns-clause-none
returns-clause-none g c = λ e q. c.take_back.ensures.back (waiting c.self.inside.boxes.items) c.put_all-count.ensures.put q ∙ ap (λ b. waiting b q) c.self.view_is
