use Rattle.std.proofs.Common.{◌≡◌, subst}
use Rattle.std.specs.Prelude.{ℕ, List, Some, Ok, Option}
use Rattle.program_edge.specs.Lines.{ReadsLine, unread, Settled, Settles, Reader}
use Rattle.program_edge.specs.declared.lines.NextLine.{NextLine}
use Rattle.program_edge.proofs.FirstLines.{settled_line}
use Rattle.program_edge.proofs.lines.LineReader.next.Goals as goal

-- the answer over what was unread at the call
answers : (first old new : Reader) (found : NextLine) (left : Option (List ℕ)) (bytes : List ℕ) → Settled old found new → unread old left ≡ Some bytes → old.most ≡ first.most → ReadsLine first.most bytes (Ok found) (unread new left)
answers first old new found left bytes settled e most =
    let P : ℕ → Type 0 = λ m. ReadsLine m bytes (Ok found) (unread new left) in
    subst P most (settled_line old new found left bytes settled e)

pub returns-in-Ok-Some-clause-line : goal.returns-in-Ok-Some-clause-line
returns-in-Ok-Some-clause-line g c = λ bytes e.
    let P : Option NextLine → Type 0 = λ o. Settles c.loop-found.self (Ok o) c.ready.new.self in
    let settled = subst P c.in-Ok-Some.field-0-is c.in-Ok-Some.ensures.settles in
    answers c.args.self.now c.loop-found.self c.ready.new.self c.in-Ok-Some.found _ bytes settled (c.loop-found.invariant.unread bytes e) c.loop-found.invariant.most
