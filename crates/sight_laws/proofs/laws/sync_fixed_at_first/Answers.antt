use Rattle.sight_laws.proofs.Firsts.{sync_fixed_at_first}
use Rattle.sight_laws.proofs.laws.sync_fixed_at_first.Goals as goal

pub returns : goal.returns
returns c = sync_fixed_at_first
