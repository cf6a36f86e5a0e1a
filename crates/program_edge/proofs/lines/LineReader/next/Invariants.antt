use Rattle.std.proofs.Common.{◌≡◌, ◌≤◌, ℕ, List, Some}
use Rattle.program_edge.specs.Lines.{IsOpen, unread, room}
use Rattle.program_edge.proofs.lines.LineReader.next.Given as goal

abbrev pub invariant-loop-found : goal.invariant-loop-found
invariant-loop-found g l = record {
  unread : (bytes : List ℕ) → unread l.fn.self (g.S.Source.left l.fn.source) ≡ Some bytes → unread l.self (g.S.Source.left l.source) ≡ Some bytes;
  most : l.self.most ≡ l.fn.self.most;
  stays : (IsOpen l.fn.self → ⊥) → (l.source ≡ l.fn.source) × (l.self ≡ l.fn.self);
  faults : g.S.Source.faults l.fn.source ≤ g.S.Source.faults l.source;
}

abbrev pub decreases-loop-found : goal.decreases-loop-found
decreases-loop-found g l = room l.self
