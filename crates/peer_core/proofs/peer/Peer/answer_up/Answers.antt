use Rattle.peer_core.proofs.Taken.{up_shown}
use Rattle.peer_core.proofs.peer.Peer.answer_up.Goals as goal

pub returns-in_ok-packets-in-None : goal.returns-in_ok-packets-in-None
returns-in_ok-packets-in-None c = up_shown c.args.self.now c.self.inside.spent c.self.inside.peers c.self.inside.tree c.self.inside.track c.self.inside.told c.args.peer.now c.args.refused c.in_ok-packets-in-None.packets c.done.result
    c.self.view_is c.in-None.is c.in_ok-packets-in-None.ensures c.done.ensures
