use Rattle.std.proofs.Common.{subst, sym}
use Rattle.packet_form.specs.Packets.{IsEncodable}
use Rattle.peer_core.proofs.Encodable.{encodable}
use Rattle.peer_core.proofs.sending.packet_of.Goals as goal

pub encode_packet-requires : goal.encode_packet-requires
encode_packet-requires c = subst IsEncodable (sym c.in_ok-message.ensures) (encodable c.args.tree.now.scene c.requires.valid c.args.tree.now.nodes c.requires.values c.args.row.now c.requires.row)
