use Rattle.peer_core.proofs.SoundRead.{read_sound}
use Rattle.peer_core.proofs.Taken.{if_read}
use Rattle.peer_core.proofs.peer.Peer.take_packet.Goals as goal

pub take_message-requires-clause-sound : goal.take_message-requires-clause-sound
take_message-requires-clause-sound c = read_sound c.in-Ok.message c.args.bytes.now c.in-Ok.ensures.found

pub returns-in-Ok-clause-taken : goal.returns-in-Ok-clause-taken
returns-in-Ok-clause-taken c = if_read c.take_message.result _ c.args.self.now c.args.from.now c.in-Ok.message _ c.in-Ok.ensures.exact c.take_message.ensures.taken
