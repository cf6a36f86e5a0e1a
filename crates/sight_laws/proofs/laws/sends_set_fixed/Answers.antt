use Rattle.sight_laws.proofs.Sends.{sends_set_fixed}
use Rattle.sight_laws.proofs.laws.sends_set_fixed.Goals as goal

pub returns : goal.returns
returns c = sends_set_fixed
