use Rattle.std.proofs.Common.{sym, ◌∙◌}
use Rattle.world_steps.specs.Steps.{live_parts}
use Rattle.mp_world.proofs.Takes.{made_as, op_of_client}
use Rattle.mp_world.proofs.operate.operate.Goals as goal

pub returns-else-is_server : goal.returns-else-is_server
returns-else-is_server c = λ come.
    made_as c.operate_at_client.result _ _ _ (op_of_client (live_parts c.args.server.now come c.args.put.now c.args.clients.now.items) c.args.peer.now c.args.op (sym c.is_server.ensures ∙ c.if-is_server.false)) (c.operate_at_client.ensures c.args.server.now come)
