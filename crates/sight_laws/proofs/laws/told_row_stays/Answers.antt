use Rattle.sight_laws.proofs.ToldRows.{told_row_stays}
use Rattle.sight_laws.proofs.laws.told_row_stays.Goals as goal

pub returns : goal.returns
returns c = told_row_stays
