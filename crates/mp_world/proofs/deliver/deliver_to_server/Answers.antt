use Rattle.std.proofs.Common.{false, sym, ap}
use Rattle.world_steps.specs.Steps.{live_parts, delivers_at}
use Rattle.mp_world.proofs.Takes.{made_as, delivers_nowhere}
use Rattle.mp_world.proofs.deliver.deliver_to_server.Goals as goal

pub returns-in-Some : goal.returns-in-Some
returns-in-Some c = λ come.
    let v = live_parts c.args.server.now come c.args.put.now c.args.clients.now.items in
    made_as c.deliver_from.result _ _ _ (sym (ap (delivers_at v false) c.in-Some.ensures.0)) (c.deliver_from.ensures come)

pub returns-in-None : goal.returns-in-None
returns-in-None c = λ come. delivers_nowhere (live_parts c.args.server.now come c.args.put.now c.args.clients.now.items) false c.args.number.now c.in-None.ensures
