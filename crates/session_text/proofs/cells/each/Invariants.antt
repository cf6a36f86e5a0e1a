use Rattle.std.proofs.Common.{flat_map, take}
use Rattle.session_text.specs.Tokens.{Adds, tokens_of}
use Rattle.session_text.proofs.cells.each.Given as goal

abbrev pub invariant-loop-item : goal.invariant-loop-item
invariant-loop-item g l = Adds l.fn.line l.line (flat_map (λ x. tokens_of (g.T.Cell.cell x)) (take l.item-index l.items))
