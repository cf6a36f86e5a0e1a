use Rattle.sight_laws.proofs.ToldRows.{told_fixed_stays}
use Rattle.sight_laws.proofs.laws.told_fixed_stays.Goals as goal

pub returns : goal.returns
returns c = told_fixed_stays
