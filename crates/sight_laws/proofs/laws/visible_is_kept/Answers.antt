use Rattle.sight_laws.proofs.Settings.{visible_is_kept}
use Rattle.sight_laws.proofs.laws.visible_is_kept.Goals as goal

pub returns : goal.returns
returns c = visible_is_kept
