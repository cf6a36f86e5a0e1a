use Rattle.peer_steps.specs.Steps.{row_packet, sent_to}
use Rattle.peer_core.specs.Forms.{packet_form}
use Rattle.peer_core.proofs.Taken.{shown_more}
use Rattle.peer_core.proofs.sending.show_all.Goals as goal

pub loop-place-preserved : goal.loop-place-preserved
loop-place-preserved c = shown_more (λ r. sent_to packet_form c.args.peer.now (row_packet c.args.tree.now.scene c.args.tree.now.nodes r)) c.args.peer.now c.args.track.now c.loop-place.place c.loop-place.out _ c.loop-place.invariant c.in_ok-push_seen.ensures
