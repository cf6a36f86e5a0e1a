use Rattle.std.proofs.Common.{sym, ap, ◌∙◌, not}
use Rattle.world_model.specs.Answers.{has_no_link}
use Rattle.world_steps.specs.Steps.{live_parts}
use Rattle.mp_world.proofs.Takes.{made_as, nobody_there, no_link_there, to_client, flag_false, flag_true, to_server}
use Rattle.mp_world.proofs.deliver.deliver.Goals as goal

pub returns-then-not-are_there : goal.returns-then-not-are_there
returns-then-not-are_there c = λ come.
    nobody_there (live_parts c.args.server.now come c.args.put.now c.args.clients.now.items) c.args.from.now c.args.to.now (ap not (sym (c.are_there.ensures c.args.server.now come c.args.put.now) ∙ c.if-not-are_there.true))

pub returns-then-not-is_link : goal.returns-then-not-is_link
returns-then-not-is_link c = λ come.
    no_link_there (live_parts c.args.server.now come c.args.put.now c.args.clients.now.items) c.args.from.now c.args.to.now (ap not (sym (c.are_there.ensures c.args.server.now come c.args.put.now) ∙ c.if-not-are_there.false))
    (flag_false c.is_link.result (has_no_link c.args.from.now c.args.to.now) c.is_link.ensures c.if-not-is_link.true)

pub returns-then-is_server : goal.returns-then-is_server
returns-then-is_server c = λ come.
    made_as c.deliver_to_client.result _ _ _
    (to_client (live_parts c.args.server.now come c.args.put.now c.args.clients.now.items) c.args.from.now c.args.to.now (ap not (sym (c.are_there.ensures c.args.server.now come c.args.put.now) ∙ c.if-not-are_there.false))
    (flag_true c.is_link.result (has_no_link c.args.from.now c.args.to.now) c.is_link.ensures c.if-not-is_link.false) (sym c.is_server.ensures ∙ c.if-is_server.true))
    (c.deliver_to_client.ensures c.args.server.now come)

pub returns-else-is_server : goal.returns-else-is_server
returns-else-is_server c = λ come.
    made_as c.deliver_to_server.result _ _ _
    (to_server (live_parts c.args.server.now come c.args.put.now c.args.clients.now.items) c.args.from.now c.args.to.now (ap not (sym (c.are_there.ensures c.args.server.now come c.args.put.now) ∙ c.if-not-are_there.false))
    (flag_true c.is_link.result (has_no_link c.args.from.now c.args.to.now) c.is_link.ensures c.if-not-is_link.false) (sym c.is_server.ensures ∙ c.if-is_server.false))
    (c.deliver_to_server.ensures come)
