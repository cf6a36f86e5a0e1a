use Rattle.std.proofs.Common.{rules, w32}
use Rattle.std.proofs.lemmas.Int.{to_z-of_z}
use Rattle.mp_world.proofs.Takes.{connected}
use Rattle.mp_world.proofs.connect.connect_as.Goals as goal

pub returns : goal.returns
returns c = λ come.
    connected c.answer_of.result c.args.server.now _ come c.args.put.now _ _ c.args.clients.now.items _ _ _ c.args.number.now _ _ c.in_ok-first.first c.in_ok-client.second (to_z-of_z w32 c.args.number.now (search rules))
    c.scene.ensures c.in_ok-client.ensures.client c.in_ok-client.ensures.outcome c.in_ok-first.ensures c.count_sent.ensures c.count_sent-2.ensures c.in_ok-push.ensures.items c.in_ok-send_down.ensures c.answer_of.ensures
