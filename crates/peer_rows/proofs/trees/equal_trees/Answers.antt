use Rattle.std.proofs.Common.{refl}
use Rattle.peer_rows.proofs.trees.equal_trees.Goals as goal

pub returns : goal.returns
returns c = (refl, refl, refl)
