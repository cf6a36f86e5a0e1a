use Rattle.std.proofs.Common.{refl, true}
use Rattle.world_steps.specs.Steps.{live_parts}
use Rattle.mp_world.proofs.Puts.{got_at}
use Rattle.mp_world.proofs.Takes.{made_as, next_down_there, delivers_nowhere}
use Rattle.mp_world.proofs.deliver.deliver_to_client.Goals as goal

pub returns-in-Some : goal.returns-in-Some
returns-in-Some c = λ k come.
    let cs = c.args.clients.now.items in
    let here = c.in-Some.ensures in
    let at = got_at cs c.in-Some.place c.index_mut.result.now here.1 c.index_mut.ensures.value in
    made_as c.take_down.result _ _ _ (next_down_there (live_parts k come c.args.put.now cs) c.args.number.now c.in-Some.place c.index_mut.result.now here.0 at) (c.take_down.ensures (live_parts k come c.args.put.now cs) c.in-Some.place at refl)

pub returns-in-None : goal.returns-in-None
returns-in-None c = λ k come. delivers_nowhere (live_parts k come c.args.put.now c.args.clients.now.items) true c.args.number.now c.in-None.ensures
