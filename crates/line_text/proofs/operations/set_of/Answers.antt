use Rattle.line_text.proofs.Held.{set_given}
use Rattle.line_text.proofs.operations.set_of.Goals as goal

pub returns-clause-given : goal.returns-clause-given
returns-clause-given c = set_given _ _ c.in_ok-value.value c.in_ok-path-2.ensures.whole c.in_ok-prop.ensures.whole c.in_ok-value.ensures.sound
