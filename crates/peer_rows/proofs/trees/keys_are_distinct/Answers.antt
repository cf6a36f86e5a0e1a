use Rattle.std.proofs.Common.{refl}
use Rattle.gd_variant.proofs.TreeOf.{plain_dict}
use Rattle.peer_rows.specs.Trees.{few_by_key, key_twice}
use Rattle.peer_rows.proofs.trees.keys_are_distinct.Goals as goal

pub returns : goal.returns
returns c = (rw (plain_dict few_by_key) refl, rw (plain_dict key_twice) refl)
