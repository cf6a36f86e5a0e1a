use Rattle.line_text.proofs.Held.{public_given}
use Rattle.line_text.proofs.sights.public_of.Goals as goal

pub returns-clause-given : goal.returns-clause-given
returns-clause-given c = public_given _ _ _ c.in_ok-path.ensures.path c.in_ok-path.ensures.place
