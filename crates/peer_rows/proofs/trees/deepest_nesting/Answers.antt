use Rattle.std.proofs.Common.{refl}
use Rattle.peer_rows.proofs.trees.deepest_nesting.Goals as goal

pub returns : goal.returns
returns c = (refl, refl, refl, refl)
