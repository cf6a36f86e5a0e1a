use Rattle.peer_core.proofs.Taken.{frame_is}
use Rattle.peer_core.proofs.peer.Peer.tell_frame.Goals as goal

pub returns-clause-taken : goal.returns-clause-taken
returns-clause-taken c = frame_is c.args.self.now c.self.inside.spent c.self.inside.peers c.self.inside.tree c.self.inside.track c.self.inside.told c.tell_frame.new.told c.up_now.result.now c.in_ok-packets.packets c.done.result
    c.self.view_is c.requires c.up_now.ensures c.in_ok-packets.ensures c.done.ensures
