use Rattle.line_text.proofs.Held.{custom_given}
use Rattle.line_text.proofs.operations.custom_of.Goals as goal

pub returns-clause-given : goal.returns-clause-given
returns-clause-given c = custom_given _ _ c.new.result c.in_ok-arg.arg c.new.ensures c.in_ok-spawner-2.ensures.whole c.in_ok-name.ensures.whole c.in_ok-arg.ensures.sound
