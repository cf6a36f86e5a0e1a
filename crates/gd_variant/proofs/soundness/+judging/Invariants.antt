use Rattle.std.proofs.Common.{◌≡◌, true, take}
use Rattle.gd_variant.specs.Tree.{plains, plain_pairs}
use Rattle.gd_variant.specs.Sound.{are_right}
use Rattle.gd_variant.proofs.soundness.+judging.Given as goal

-- the items in front are right
abbrev pub invariant-are_right_items-loop-item : goal.invariant-are_right_items-loop-item
invariant-are_right_items-loop-item l = are_right (plains (take l.item-index l.items)) ≡ true

abbrev pub invariant-are_right_pairs-loop-pair : goal.invariant-are_right_pairs-loop-pair
invariant-are_right_pairs-loop-pair l = are_right (plain_pairs (take l.pair-index l.pairs)) ≡ true
