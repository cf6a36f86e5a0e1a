use Rattle.line_text.specs.Parts.{i32_read}
use Rattle.line_text.proofs.Each.{Reads}
use Rattle.line_text.proofs.parts.each_i32_as_i64.Given as goal

abbrev pub invariant-loop-item : goal.invariant-loop-item
invariant-loop-item l = Reads i32_read l.all l.item-index l.items
