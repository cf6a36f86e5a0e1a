use Rattle.std.proofs.Common.{arith}
use Rattle.line_text.proofs.Shapes.{four_less, four_more}
use Rattle.line_text.proofs.operations.four_of.Goals as goal

pub returns-in-len1 : goal.returns-in-len1
returns-in-len1 c = four_less c.args.items.now (omega (arith, c.in-len1.len_below))

pub returns-in-len2 : goal.returns-in-len2
returns-in-len2 c = four_less c.args.items.now (omega (arith, c.in-len2.len_below))

pub returns-in-len3 : goal.returns-in-len3
returns-in-len3 c = four_less c.args.items.now (omega (arith, c.in-len3.len_below))

pub returns-in-len5-up : goal.returns-in-len5-up
returns-in-len5-up c = four_more c.args.items.now c.in-len5-up.len_at_least
