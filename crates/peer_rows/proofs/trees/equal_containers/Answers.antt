use Rattle.std.proofs.Common.{refl, []}
use Rattle.gd_variant.proofs.TreeOf.{plain_dict, plain_array}
use Rattle.peer_rows.specs.Trees.{few, few_by_key, other_order, more}
use Rattle.peer_rows.proofs.trees.equal_containers.Goals as goal

pub returns : goal.returns
returns c = (rw (plain_array few) refl, rw (plain_array few) (rw (plain_array more) refl), rw (plain_array few) (rw (plain_array []) refl), rw (plain_dict few_by_key) refl, rw (plain_dict few_by_key) (rw (plain_dict other_order) refl), rw (plain_dict []) (rw (plain_array []) refl))
