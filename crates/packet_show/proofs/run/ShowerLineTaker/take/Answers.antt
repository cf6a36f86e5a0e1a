use Rattle.packet_show.proofs.Texts.{only_hex}
use Rattle.packet_show.proofs.run.ShowerLineTaker.take.Goals as goal

pub returns-in-Err-clause-stop : goal.returns-in-Err-clause-stop
returns-in-Err-clause-stop c = only_hex c.args.line.now c.in-Err.stop c.in-Err.ensures
