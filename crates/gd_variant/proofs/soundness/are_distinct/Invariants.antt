use Rattle.std.proofs.Common.{◌≡◌, length}
use Rattle.gd_variant.specs.Tree.{plain_pairs}
use Rattle.gd_variant.specs.Sound.{keys_distinct}
use Rattle.gd_variant.proofs.soundness.are_distinct.Given as goal

-- all depends on the pairs that are left
abbrev pub invariant-loop-pair : goal.invariant-loop-pair
invariant-loop-pair l = keys_distinct (plain_pairs l.rest) ≡ keys_distinct (plain_pairs l.pairs)

abbrev pub decreases-loop-pair : goal.decreases-loop-pair
decreases-loop-pair l = length l.rest
