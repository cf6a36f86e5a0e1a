use Rattle.gd_variant.proofs.TreeOf.{plain_dict, plain_array}
use Rattle.peer_rows.proofs.trees.containers_are_trees.Goals as goal

pub returns : goal.returns
returns c = (plain_dict, plain_array)
