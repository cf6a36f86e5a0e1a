use Rattle.sight_laws.proofs.ToldRows.{told_fixed_at_first}
use Rattle.sight_laws.proofs.laws.told_fixed_at_first.Goals as goal

pub returns : goal.returns
returns c = told_fixed_at_first
