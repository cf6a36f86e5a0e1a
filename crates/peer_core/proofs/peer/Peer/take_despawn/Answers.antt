use Rattle.peer_core.proofs.Taken.{hidden_right}
use Rattle.peer_core.proofs.peer.Peer.take_despawn.Goals as goal

pub invariant_of-self : goal.invariant_of-self
invariant_of-self c = λ live. hidden_right c.self.inside.peers c.self.inside.tree c.apply_despawn-fault.new.tree c.self.inside.track c.args.from.now c.args.net c.apply_despawn-fault.result c.apply_despawn-fault.ensures (c.self.invariant live)
