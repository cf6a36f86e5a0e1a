use Rattle.std.proofs.Common.{◌≡◌, map, take}
use Rattle.peer_steps.specs.Steps.{sent_to}
use Rattle.peer_core.specs.Forms.{packet_form, despawn_packet}
use Rattle.peer_core.proofs.sending.hide_from_each.Given as goal

abbrev pub invariant-loop-peer : goal.invariant-loop-peer
invariant-loop-peer l = l.out ≡ map (λ b. sent_to packet_form b (despawn_packet l.num)) (take l.peer-index l.peers)
