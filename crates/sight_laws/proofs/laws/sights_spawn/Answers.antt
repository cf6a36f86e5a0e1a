use Rattle.sight_laws.proofs.Stepping.{sights_spawn}
use Rattle.sight_laws.proofs.laws.sights_spawn.Goals as goal

pub returns : goal.returns
returns c = sights_spawn
