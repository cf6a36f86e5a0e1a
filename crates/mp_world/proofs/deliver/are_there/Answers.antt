use Rattle.std.proofs.Common.{sym, ap, ◌∙◌}
use Rattle.std.specs.Prelude.{◌&&◌}
use Rattle.world_steps.specs.Steps.{live_parts, has_peer}
use Rattle.mp_world.proofs.deliver.are_there.Goals as goal

pub returns-then-is_there : goal.returns-then-is_there
returns-then-is_there c = λ k come put.
    let v = live_parts k come put c.args.clients.now.items in
    c.is_there-then-is_there.ensures k come put ∙ ap (λ b. b && has_peer v c.args.to.now) (sym (sym (c.is_there.ensures k come put) ∙ c.if-is_there.true))

pub returns-else-is_there : goal.returns-else-is_there
returns-else-is_there c = λ k come put.
    let v = live_parts k come put c.args.clients.now.items in
    c.if-is_there.false ∙ ap (λ b. b && has_peer v c.args.to.now) (sym (sym (c.is_there.ensures k come put) ∙ c.if-is_there.false))
