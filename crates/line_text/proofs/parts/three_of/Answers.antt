use Rattle.line_text.proofs.Lengths.{three_one, three_two, three_four}
use Rattle.line_text.proofs.parts.three_of.Goals as goal

pub returns-in-len1 : goal.returns-in-len1
returns-in-len1 c = three_one c.args.items.now c.in-len1.len_at_least c.in-len1.len_below

pub returns-in-len2 : goal.returns-in-len2
returns-in-len2 c = three_two c.args.items.now c.in-len2.len_at_least c.in-len2.len_below

pub returns-in-len4-up : goal.returns-in-len4-up
returns-in-len4-up c = three_four c.args.items.now c.in-len4-up.len_at_least
