use Rattle.line_text.proofs.Shapes.{none_more}
use Rattle.line_text.proofs.parts.none_of.Goals as goal

pub returns-in-len1-up : goal.returns-in-len1-up
returns-in-len1-up c = none_more c.args.items.now c.in-len1-up.len_at_least
