use Rattle.std.proofs.Common.{◌≡◌, min, take}
use Rattle.gd_variant.specs.Tree.{plains, plain_pairs}
use Rattle.gd_variant.specs.Size.{trees_size}
use Rattle.gd_variant.proofs.length.+measuring.Given as goal

-- the bytes of the items in front
abbrev pub invariant-items_within-loop-item : goal.invariant-items_within-loop-item
invariant-items_within-loop-item l = l.total ≡ min (trees_size (plains (take l.item-index l.items))) l.limit

abbrev pub invariant-pairs_within-loop-pair : goal.invariant-pairs_within-loop-pair
invariant-pairs_within-loop-pair l = l.total ≡ min (trees_size (plain_pairs (take l.pair-index l.pairs))) l.limit
