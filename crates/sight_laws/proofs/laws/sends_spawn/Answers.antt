use Rattle.sight_laws.proofs.Sends.{sends_spawn}
use Rattle.sight_laws.proofs.laws.sends_spawn.Goals as goal

pub returns : goal.returns
returns c = sends_spawn
