use Rattle.sight_laws.proofs.Stepping.{sights_come}
use Rattle.sight_laws.proofs.laws.sights_come.Goals as goal

pub returns : goal.returns
returns c = sights_come
