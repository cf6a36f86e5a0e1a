use Rattle.packet_form.proofs.Bounds.{bounded}
use Rattle.packet_form.proofs.laws.bounded.Goals as goal

pub returns : goal.returns
returns c = bounded
