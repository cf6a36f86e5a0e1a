use Rattle.std.proofs.Common.{refl}
use Rattle.gd_variant.proofs.TreeOf.{plain_dict, plain_array}
use Rattle.peer_rows.specs.Trees.{few, few_by_key}
use Rattle.peer_rows.proofs.trees.container_sizes.Goals as goal

pub returns : goal.returns
returns c = (rw (plain_array few) refl, rw (plain_array few) refl, rw (plain_dict few_by_key) refl, rw (plain_dict few_by_key) refl)
