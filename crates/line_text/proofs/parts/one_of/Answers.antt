use Rattle.line_text.proofs.Shapes.{one_more}
use Rattle.line_text.proofs.parts.one_of.Goals as goal

pub returns-in-len2-up : goal.returns-in-len2-up
returns-in-len2-up c = one_more c.args.items.now c.in-len2-up.len_at_least
