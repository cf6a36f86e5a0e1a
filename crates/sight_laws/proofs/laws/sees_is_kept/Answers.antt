use Rattle.sight_laws.proofs.Settings.{sees_is_kept}
use Rattle.sight_laws.proofs.laws.sees_is_kept.Goals as goal

pub returns : goal.returns
returns c = sees_is_kept
