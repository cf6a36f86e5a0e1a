use Rattle.line_text.specs.Values.{form_read, pair_read}
use Rattle.line_text.proofs.Each.{Reads}
use Rattle.line_text.proofs.values.+reading.Given as goal

abbrev pub invariant-forms_of-loop-item : goal.invariant-forms_of-loop-item
invariant-forms_of-loop-item l = Reads form_read l.all l.item-index l.items

abbrev pub invariant-entries_of-loop-item : goal.invariant-entries_of-loop-item
invariant-entries_of-loop-item l = Reads pair_read l.all l.item-index l.items
