use Rattle.line_text.proofs.Lengths.{two_one, two_three}
use Rattle.line_text.proofs.parts.two_of.Goals as goal

pub returns-in-len1 : goal.returns-in-len1
returns-in-len1 c = two_one c.args.items.now c.in-len1.len_at_least c.in-len1.len_below

pub returns-in-len3-up : goal.returns-in-len3-up
returns-in-len3-up c = two_three c.args.items.now c.in-len3-up.len_at_least
