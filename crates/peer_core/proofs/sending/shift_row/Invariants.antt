use Rattle.std.proofs.Common.{◌≡◌, take}
use Rattle.std.specs.Prelude.{IfSome}
use Rattle.peer_steps.specs.Steps.{row_packet, shifts}
use Rattle.peer_core.specs.Forms.{packet_form, shown_bytes}
use Rattle.peer_core.proofs.sending.shift_row.Given as goal

abbrev pub invariant-loop-peer : goal.invariant-loop-peer
invariant-loop-peer l = (l.out ≡ shifts packet_form (row_packet l.tree.scene l.tree.nodes l.row) l.row.num l.before l.after (take l.peer-index l.up)) × IfSome l.show (λ b. b ≡ shown_bytes l.tree l.row)
