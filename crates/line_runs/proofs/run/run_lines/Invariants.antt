use Rattle.std.proofs.Common.{◌≡◌, ◌≤◌, List, [], ℕ, Some}
use Rattle.program_edge.specs.Lines.{IsOpen, unread}
use Rattle.line_runs.specs.Steps.{Kept}
use Rattle.line_runs.proofs.run.run_lines.Given as goal

abbrev pub invariant-loop-left : goal.invariant-loop-left
invariant-loop-left g l = record {
  reads : g.S.Source.faults l.fn.source ≤ g.S.Source.faults l.source;
  writes : g.K.Sink.faults l.fn.sink ≤ g.K.Sink.faults l.sink;
  prompt : IsOpen l.run.reader → l.run.text.items ≡ [];
  longest : l.run.longest ≡ l.fn.longest;
  kept : g.T.LineTaker.took l.fn.taker [] → (input held : List ℕ) → g.S.Source.left l.fn.source ≡ Some input → g.K.Sink.held l.fn.sink ≡ Some held → Kept g.T.LineTaker.command (g.T.LineTaker.took l.taker) l.fn.longest l.fn.limit input l.run.judged l.run.n held l.run.text.items (unread l.run.reader (g.S.Source.left l.source)) (g.K.Sink.held l.sink);
}

abbrev pub decreases-loop-left : goal.decreases-loop-left
decreases-loop-left g l = l.run.judged
