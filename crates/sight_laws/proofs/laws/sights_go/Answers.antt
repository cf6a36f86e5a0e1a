use Rattle.sight_laws.proofs.Stepping.{sights_go}
use Rattle.sight_laws.proofs.laws.sights_go.Goals as goal

pub returns : goal.returns
returns c = sights_go
