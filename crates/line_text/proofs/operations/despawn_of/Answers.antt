use Rattle.line_text.proofs.Held.{despawn_given}
use Rattle.line_text.proofs.operations.despawn_of.Goals as goal

pub returns-clause-given : goal.returns-clause-given
returns-clause-given c = despawn_given _ c.in_ok-path.ensures.whole
