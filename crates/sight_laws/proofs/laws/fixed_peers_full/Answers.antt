use Rattle.sight_laws.proofs.Kept.{fixed_peers_full}
use Rattle.sight_laws.proofs.laws.fixed_peers_full.Goals as goal

pub returns : goal.returns
returns c = fixed_peers_full
