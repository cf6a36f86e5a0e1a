use Rattle.std.proofs.Common.{◌≡◌, true, take}
use Rattle.gd_variant.specs.Tree.{plains, plain_pairs}
use Rattle.sound_check.specs.Fits.{all_fit}
use Rattle.sound_check.proofs.soundness.+judging.Given as goal

-- the items in front fit
abbrev pub invariant-items_fit-loop-item : goal.invariant-items_fit-loop-item
invariant-items_fit-loop-item l = all_fit (plains (take l.item-index l.items)) ≡ true

abbrev pub invariant-pairs_fit-loop-pair : goal.invariant-pairs_fit-loop-pair
invariant-pairs_fit-loop-pair l = all_fit (plain_pairs (take l.pair-index l.pairs)) ≡ true
