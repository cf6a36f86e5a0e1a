use Rattle.sight_laws.proofs.Settings.{peers_full_is_kept}
use Rattle.sight_laws.proofs.laws.peers_full_is_kept.Goals as goal

pub returns : goal.returns
returns c = peers_full_is_kept
