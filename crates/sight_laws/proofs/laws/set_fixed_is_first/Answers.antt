use Rattle.sight_laws.proofs.Naming.{set_fixed_is_first}
use Rattle.sight_laws.proofs.laws.set_fixed_is_first.Goals as goal

pub returns : goal.returns
returns c = set_fixed_is_first
