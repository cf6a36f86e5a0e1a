use Rattle.sight_laws.proofs.Sends.{sends_despawn}
use Rattle.sight_laws.proofs.laws.sends_despawn.Goals as goal

pub returns : goal.returns
returns c = sends_despawn
