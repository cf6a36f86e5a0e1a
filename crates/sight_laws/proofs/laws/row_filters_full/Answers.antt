use Rattle.sight_laws.proofs.Kept.{row_filters_full}
use Rattle.sight_laws.proofs.laws.row_filters_full.Goals as goal

pub returns : goal.returns
returns c = row_filters_full
