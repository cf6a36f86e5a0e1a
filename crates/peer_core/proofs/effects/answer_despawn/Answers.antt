use Rattle.std.proofs.Common.{ap, sym, ◌∙◌, map}
use Rattle.peer_steps.specs.Steps.{done_with, sent_to}
use Rattle.peer_core.specs.Forms.{packet_form, despawn_packet}
use Rattle.peer_core.specs.Parts.{gone_answer}
use Rattle.peer_core.proofs.effects.answer_despawn.Goals as goal

pub returns-in_ok-packets-in-Ok : goal.returns-in_ok-packets-in-Ok
returns-in_ok-packets-in-Ok c =
    c.done.ensures
    ∙ ap done_with (c.in_ok-packets-in-Ok.ensures ∙ ap (map (λ b. sent_to packet_form b (despawn_packet c.in-Ok.gone.num))) c.as_slice.ensures.value)
    ∙ sym (ap gone_answer c.in-Ok.is)
