use Rattle.std.proofs.Common.{ℕ, List, ◌++◌, ap, subst, sym, ◌∙◌}
use Rattle.packet_form.specs.Packets.{Frames}
use Rattle.packet_form.specs.Written.{written_packet}
use Rattle.packet_form.proofs.Written.{written_frames}
use Rattle.packet_writer.proofs.encode.encode_packet.Goals as goal

pub returns-clause-frames : goal.returns-clause-frames
returns-clause-frames c =
    let m = c.args.m.now in
    let written = c.from_vec.ensures ∙ c.in_ok-put_message.ensures.put ∙ ap (λ (b : List ℕ). b ++ written_packet m) c.new-out.ensures.items in
    subst (Frames m) (sym written) (written_frames m c.in_ok-put_message.ensures.writable)
