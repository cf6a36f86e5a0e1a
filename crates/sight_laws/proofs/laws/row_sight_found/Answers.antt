use Rattle.sight_laws.proofs.Kept.{row_sight_found}
use Rattle.sight_laws.proofs.laws.row_sight_found.Goals as goal

pub returns : goal.returns
returns c = row_sight_found
