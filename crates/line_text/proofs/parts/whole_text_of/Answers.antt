use Rattle.line_text.proofs.Held.{whole}
use Rattle.line_text.proofs.parts.whole_text_of.Goals as goal

pub returns-clause-whole : goal.returns-clause-whole
returns-clause-whole c = whole c.as_str-whole.result.now c.in_ok-text.text c.as_str-whole.ensures.same c.as_str-whole.ensures.zero c.as_str-whole.utf8
