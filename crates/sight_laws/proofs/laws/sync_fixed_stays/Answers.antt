use Rattle.sight_laws.proofs.Firsts.{sync_fixed_stays}
use Rattle.sight_laws.proofs.laws.sync_fixed_stays.Goals as goal

pub returns : goal.returns
returns c = sync_fixed_stays
