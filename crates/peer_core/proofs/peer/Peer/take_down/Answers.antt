use Rattle.peer_core.proofs.Taken.{down_right}
use Rattle.peer_core.proofs.peer.Peer.take_down.Goals as goal

pub invariant_of-self-2 : goal.invariant_of-self-2
invariant_of-self-2 c = λ live. down_right c.self.inside.peers c.down.new.self c.self.inside.tree c.drop_peer.new.tree c.self.inside.track c.drop_peer.new.self c.args.peer.now c.down.result c.down.ensures c.drop_peer.ensures.tree c.drop_peer.ensures.track (c.self.invariant live)
