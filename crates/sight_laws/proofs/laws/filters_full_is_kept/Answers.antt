use Rattle.sight_laws.proofs.Settings.{filters_full_is_kept}
use Rattle.sight_laws.proofs.laws.filters_full_is_kept.Goals as goal

pub returns : goal.returns
returns c = filters_full_is_kept
