use Rattle.gd_variant.proofs.Equal.{value_decides}
use Rattle.gd_variant.proofs.equality.equality_of_trees.Goals as goal

pub returns : goal.returns
returns c = λ v w. value_decides v w
