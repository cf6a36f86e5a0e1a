use Rattle.peer_core.proofs.peer.Peer.take_seen.Goals as goal

pub returns-in-Op-clause-taken : goal.returns-in-Op-clause-taken
returns-in-Op-clause-taken c = rw c.in-Op.is c.operate.ensures.taken

pub returns-in-Received-clause-taken : goal.returns-in-Received-clause-taken
returns-in-Received-clause-taken c = rw (c.in-Received.is, ← c.as_slice.ensures) c.take_packet.ensures.taken
