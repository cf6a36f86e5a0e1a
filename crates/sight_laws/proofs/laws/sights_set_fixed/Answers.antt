use Rattle.sight_laws.proofs.Stepping.{sights_set_fixed}
use Rattle.sight_laws.proofs.laws.sights_set_fixed.Goals as goal

pub returns : goal.returns
returns c = sights_set_fixed
