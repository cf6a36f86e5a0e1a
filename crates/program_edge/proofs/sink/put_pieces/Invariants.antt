use Rattle.std.proofs.Common.{◌≤◌, flat_map, take}
use Rattle.std.specs.Prelude.{Ok}
use Rattle.program_edge.specs.Pieces.{PutsAll}
use Rattle.program_edge.specs.declared.source.Failed.{Failed}
use Rattle.program_edge.proofs.sink.put_pieces.Given as goal

abbrev pub invariant-loop-piece : goal.invariant-loop-piece
invariant-loop-piece g l = PutsAll {E = Failed} (g.K.Sink.held l.fn.sink) (Ok tt) (flat_map (λ piece. piece.now) (take l.piece-index l.pieces)) (g.K.Sink.held l.sink) × (g.K.Sink.faults l.fn.sink ≤ g.K.Sink.faults l.sink)
