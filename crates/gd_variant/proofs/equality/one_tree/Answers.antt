use Rattle.gd_variant.proofs.TreeOf.{plain_same}
use Rattle.gd_variant.proofs.equality.one_tree.Goals as goal

pub returns : goal.returns
returns c = plain_same
