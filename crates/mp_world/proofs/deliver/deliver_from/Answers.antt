use Rattle.mp_world.proofs.Puts.{got_at}
use Rattle.mp_world.proofs.Takes.{up_there, nothing_up, received_as, number_at}
use Rattle.mp_world.proofs.deliver.deliver_from.Goals as goal

pub returns-in-Some : goal.returns-in-Some
returns-in-Some c = λ come.
    let cs = c.args.clients.now.items in
    let at = got_at cs c.args.place c.index_mut.result.now c.requires.within c.index_mut.ensures.value in
    up_there c.take_at_server.result c.args.server.now _ come c.args.put.now _ cs _ c.args.place c.index_mut.result.now _ c.in-Some.packet c.arrival.result
    at c.in-Some.ensures.taken c.in-Some.ensures.rest (received_as c.arrival.result c.args.number.now c.index_mut.result.now.number c.in-Some.packet c.arrival.ensures (number_at cs c.args.number.now c.args.place c.index_mut.result.now c.requires.place at))
    c.take_at_server.ensures.server c.take_at_server.ensures.clients c.take_at_server.ensures.put c.take_at_server.ensures.outcome

pub returns-in-None : goal.returns-in-None
returns-in-None c = λ come.
    let cs = c.args.clients.now.items in
    nothing_up c.args.server.now come c.args.put.now cs c.args.place c.index_mut.result.now _
    (got_at cs c.args.place c.index_mut.result.now c.requires.within c.index_mut.ensures.value)
    c.in-None.ensures.taken c.in-None.ensures.rest
