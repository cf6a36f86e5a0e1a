use Rattle.std.proofs.Common.{◌≡◌, true, take}
use Rattle.gd_variant.specs.Tree.{plain, plain_pairs}
use Rattle.gd_variant.specs.Sound.{is_new_key}
use Rattle.sound_check.proofs.keys.is_new.Given as goal

-- no key in front equals it
abbrev pub invariant-loop-pair : goal.invariant-loop-pair
invariant-loop-pair l = is_new_key (plain l.key) (plain_pairs (take l.pair-index l.pairs)) ≡ true
