use Rattle.sight_laws.proofs.Kept.{row_peers_full}
use Rattle.sight_laws.proofs.laws.row_peers_full.Goals as goal

pub returns : goal.returns
returns c = row_peers_full
