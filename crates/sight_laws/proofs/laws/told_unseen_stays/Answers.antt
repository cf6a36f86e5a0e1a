use Rattle.sight_laws.proofs.Unseen.{told_unseen_stays}
use Rattle.sight_laws.proofs.laws.told_unseen_stays.Goals as goal

pub returns : goal.returns
returns c = told_unseen_stays
