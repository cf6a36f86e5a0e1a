use Rattle.std.proofs.Common.{rules, w32}
use Rattle.std.proofs.lemmas.Int.{to_z-of_z}
use Rattle.mp_world.proofs.Takes.{went}
use Rattle.mp_world.proofs.going.go_as.Goals as goal

pub returns : goal.returns
returns c = λ come.
    went c.answer_of.result c.args.server.now _ come c.args.put.now _ c.args.clients.now.items _ _ c.args.number.now _ c.in_ok-outcome.outcome (to_z-of_z w32 c.args.number.now (search rules))
    c.in_ok-outcome.ensures c.count_sent.ensures c.leave.ensures c.in_ok-send_down.ensures c.answer_of.ensures
