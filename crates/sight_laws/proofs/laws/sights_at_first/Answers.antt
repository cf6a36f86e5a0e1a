use Rattle.sight_laws.proofs.Stepping.{sights_at_first}
use Rattle.sight_laws.proofs.laws.sights_at_first.Goals as goal

pub returns : goal.returns
returns c = sights_at_first
