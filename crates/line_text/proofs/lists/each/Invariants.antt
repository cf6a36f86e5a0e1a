use Rattle.line_text.proofs.Each.{Reads}
use Rattle.line_text.proofs.lists.each.Given as goal

abbrev pub invariant-loop-item : goal.invariant-loop-item
invariant-loop-item g l = Reads g.T.FromValue.reading l.all l.item-index l.items
