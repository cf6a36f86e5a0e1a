use Rattle.sight_laws.proofs.Sends.{sends_stay}
use Rattle.sight_laws.proofs.laws.sends_stay.Goals as goal

pub returns : goal.returns
returns c = sends_stay
