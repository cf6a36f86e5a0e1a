use Rattle.std.specs.Int.{w32}
use Rattle.std.proofs.lemmas.Int.{to_z-of_z}
use Rattle.line_text.proofs.Held.{for_given_as, peer_fits}
use Rattle.line_text.proofs.sights.for_of.Goals as goal

pub returns-clause-given : goal.returns-clause-given
returns-clause-given c = for_given_as _ _ _ c.in_ok-peer.peer _ (to_z-of_z w32 c.in_ok-peer.peer (peer_fits c.in_ok-peer.peer c.in_ok-peer.ensures.peer)) c.in_ok-path.ensures.path c.in_ok-path.ensures.place c.in_ok-peer.ensures.peer
