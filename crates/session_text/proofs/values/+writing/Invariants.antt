use Rattle.std.proofs.Common.{flat_map, take}
use Rattle.session_text.specs.Tokens.{Adds, tokens_of}
use Rattle.session_text.specs.Values.{pair_of, value_of}
use Rattle.session_text.proofs.values.+writing.Given as goal

abbrev pub invariant-each_pair-loop-entry : goal.invariant-each_pair-loop-entry
invariant-each_pair-loop-entry l = Adds l.fn.line l.line (flat_map (λ p. tokens_of (pair_of p)) (take l.entry-index l.pairs))

abbrev pub invariant-each_value-loop-item : goal.invariant-each_value-loop-item
invariant-each_value-loop-item l = Adds l.fn.line l.line (flat_map (λ v. tokens_of (value_of v)) (take l.item-index l.values))
