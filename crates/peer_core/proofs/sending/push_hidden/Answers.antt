use Rattle.peer_core.proofs.Encodable.{despawn_encodable}
use Rattle.peer_core.proofs.sending.push_hidden.Goals as goal

pub encode_packet-requires : goal.encode_packet-requires
encode_packet-requires c = despawn_encodable c.args.num
