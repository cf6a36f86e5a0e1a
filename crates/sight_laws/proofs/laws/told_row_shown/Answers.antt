use Rattle.sight_laws.proofs.ToldRows.{told_row_shown}
use Rattle.sight_laws.proofs.laws.told_row_shown.Goals as goal

pub returns : goal.returns
returns c = told_row_shown
