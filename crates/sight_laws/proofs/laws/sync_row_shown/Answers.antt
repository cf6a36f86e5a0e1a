use Rattle.sight_laws.proofs.Firsts.{sync_row_shown}
use Rattle.sight_laws.proofs.laws.sync_row_shown.Goals as goal

pub returns : goal.returns
returns c = sync_row_shown
