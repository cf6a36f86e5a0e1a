use Rattle.packet_show.proofs.Texts.{by_message, by_fault}
use Rattle.packet_show.proofs.lines.packet_text.Goals as goal

pub returns-in-Ok : goal.returns-in-Ok
returns-in-Ok c = by_message c.args.packet.now c.in-Ok.message c.message_text.result c.in-Ok.ensures.exact c.message_text.ensures

pub returns-in-Err-Bad : goal.returns-in-Err-Bad
returns-in-Err-Bad c = by_fault c.args.packet.now c.in-Err-Bad.bad c.in-Err-Bad.field-0 c.bad_text.result c.in-Err-Bad.field-0-is c.in-Err-Bad.ensures.exact c.bad_text.ensures
