use Rattle.std.proofs.Common.{arith}
use Rattle.program_edge.proofs.Pieces.{piece_put}
use Rattle.program_edge.proofs.sink.put_all.Goals as goal

pub loop-rest-preserved : goal.loop-rest-preserved
loop-rest-preserved g c =
    (piece_put _ _ _ _ _ _ _ c.in_ok-count.count c.loop-rest.invariant.0 c.in_ok-count.ensures.bound.1 c.split_at.ensures.back c.in_ok-count.ensures.bytes, omega (arith, c.loop-rest.invariant.1, c.put.ensures.cause.later))
