use Rattle.sight_laws.proofs.Kept.{fixed_filters_full}
use Rattle.sight_laws.proofs.laws.fixed_filters_full.Goals as goal

pub returns : goal.returns
returns c = fixed_filters_full
