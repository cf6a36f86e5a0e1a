use Rattle.sight_laws.proofs.Sends.{sends_come}
use Rattle.sight_laws.proofs.laws.sends_come.Goals as goal

pub returns : goal.returns
returns c = sends_come
