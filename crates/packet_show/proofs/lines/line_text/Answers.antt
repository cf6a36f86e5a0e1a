use Rattle.std.proofs.Common.{Err, sym, subst, ap, ◌∙◌}
use Rattle.packet_show.specs.Shown.{TextOf, packet_line}
use Rattle.packet_show.proofs.Texts.{decoded, not_decoded}
use Rattle.packet_show.proofs.lines.line_text.Goals as goal

pub returns-in-Err : goal.returns-in-Err
returns-in-Err c = subst (λ s. TextOf c.args.line.now (Err s)) (sym c.hex_stop.ensures) (not_decoded c.args.line.now c.in-Err.e c.in-Err.ensures.err)

pub returns-in-Ok-packet_text : goal.returns-in-Ok-packet_text
returns-in-Ok-packet_text c = decoded c.args.line.now c.in-Ok.packet.items c.in-Ok-packet_text.text c.in-Ok.ensures.ok (c.in-Ok-packet_text.ensures ∙ ap packet_line c.as_slice.ensures.value)
