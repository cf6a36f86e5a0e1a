use Rattle.sight_laws.proofs.Stepping.{sights_stay}
use Rattle.sight_laws.proofs.laws.sights_stay.Goals as goal

pub returns : goal.returns
returns c = sights_stay
