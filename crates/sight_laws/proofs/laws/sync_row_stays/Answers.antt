use Rattle.sight_laws.proofs.Firsts.{sync_row_stays}
use Rattle.sight_laws.proofs.laws.sync_row_stays.Goals as goal

pub returns : goal.returns
returns c = sync_row_stays
