-- How the packets of this project are read and written.
use Rattle.std.specs.Prelude.{ℕ, List, [], ◌∷◌}
use Rattle.gd_variant.specs.declared.message.DeltaEntry.{DeltaEntry}
use Rattle.gd_variant.specs.declared.message.Message.TheVariants.{Plain as plain_packet}
use Rattle.gd_variant.specs.declared.message.Plain.{Plain}
use Rattle.gd_variant.specs.declared.message.Plain.TheVariants.{Delta, Despawn}
use Rattle.headless_tree.specs.Nodes.{TreeOf}
use Rattle.peer_steps.specs.Steps.{row_packet}
use Rattle.peer_steps.specs.declared.rows.SpawnedRow.{SpawnedRow}
use Rattle.packet_form.specs.Packets.{read_packet}
use Rattle.packet_form.specs.Written.{written_packet}
use Rattle.peer_model.specs.Bytes.{PacketForm}

-- each packet by its grammar
abbrev pub packet_form : PacketForm
packet_form = record { read_packet = read_packet; written_packet = written_packet }

-- the packet that hides a row
abbrev pub despawn_packet : ℕ → Plain
despawn_packet num = Despawn num

-- the packet that tells values of one synchronizer
abbrev pub entry_packet : DeltaEntry → Plain
entry_packet e = Delta (e ∷ [])

-- the bytes of the packet that shows a row
abbrev pub shown_bytes : TreeOf → SpawnedRow → List ℕ
shown_bytes t r = written_packet (plain_packet (row_packet t.scene t.nodes r))
