use Rattle.std.proofs.Common.{◌≤◌, length}
use Rattle.program_edge.proofs.Pieces.{HasPut}
use Rattle.program_edge.proofs.sink.put_all.Given as goal

abbrev pub invariant-loop-rest : goal.invariant-loop-rest
invariant-loop-rest g l = (HasPut (g.K.Sink.held l.fn.sink) l.fn.bytes l.rest (g.K.Sink.held l.sink)) × (g.K.Sink.faults l.fn.sink ≤ g.K.Sink.faults l.sink)

abbrev pub decreases-loop-rest : goal.decreases-loop-rest
decreases-loop-rest g l = length l.rest
