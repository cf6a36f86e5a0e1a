use Rattle.sight_laws.proofs.Stepping.{sights_despawn}
use Rattle.sight_laws.proofs.laws.sights_despawn.Goals as goal

pub returns : goal.returns
returns c = sights_despawn
