use Rattle.std.proofs.Common.{◌≡◌, List, [], ◌∷◌, subst, sym, rules}
use Rattle.gd_variant.specs.declared.message.DeltaEntry.{DeltaEntry}
use Rattle.gd_variant.specs.declared.message.Message.TheVariants.{Plain as plain_packet}
use Rattle.packet_form.specs.Packets.{IsEncodable}
use Rattle.gd_variant.specs.declared.message.Plain.TheVariants.{Delta}
use Rattle.peer_core.proofs.Encodable.{entry_encodable}
use Rattle.peer_core.proofs.sending.push_entry.Goals as goal

pub encode_packet-requires : goal.encode_packet-requires
encode_packet-requires c =
    let one : c.push.new.self ≡ c.args.entry ∷ [] = search rules in
    subst (λ (es : List DeltaEntry). IsEncodable (plain_packet (Delta es))) (sym one) (entry_encodable c.args.entry c.requires)
