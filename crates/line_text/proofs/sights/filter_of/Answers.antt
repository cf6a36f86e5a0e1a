use Rattle.line_text.proofs.Held.{filter_given}
use Rattle.line_text.proofs.sights.filter_of.Goals as goal

pub returns-clause-given : goal.returns-clause-given
returns-clause-given c = filter_given _ _ _ c.in_ok-path.ensures.path c.in_ok-path.ensures.place c.in_ok-peers.ensures.peers
