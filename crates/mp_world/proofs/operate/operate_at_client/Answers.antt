use Rattle.world_steps.specs.Steps.{live_parts}
use Rattle.mp_world.proofs.Takes.{does_there, op_of_nobody}
use Rattle.mp_world.proofs.operate.operate_at_client.Goals as goal

pub returns-in-Some : goal.returns-in-Some
returns-in-Some c = λ k come.
    does_there c.take_at_client.result (live_parts k come c.args.put.now c.args.clients.now.items) c.args.number.now c.args.op c.in-Some.place _ c.index_mut.result.now _ c.in-Some.ensures.0 c.in-Some.ensures.1 c.index_mut.ensures.value
    c.take_at_client.ensures.client c.take_at_client.ensures.put c.take_at_client.ensures.outcome

pub returns-in-None : goal.returns-in-None
returns-in-None c = λ k come. op_of_nobody (live_parts k come c.args.put.now c.args.clients.now.items) c.args.number.now c.args.op c.in-None.ensures
