use Rattle.std.proofs.Common.{◌≡◌, true, take, map}
use Rattle.gd_variant.specs.Tree.{plain, plain_pair}
use Rattle.variant_codec.specs.Tests.{is_new_to}
use Rattle.variant_codec.proofs.reading.is_new.Given as goal

-- no pair in front has the key
abbrev pub invariant-loop-pair : goal.invariant-loop-pair
invariant-loop-pair l = is_new_to (map plain_pair (take l.pair-index l.pairs)) (plain l.key) ≡ true
