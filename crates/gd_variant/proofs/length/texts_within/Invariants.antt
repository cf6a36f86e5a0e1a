use Rattle.std.proofs.Common.{◌≡◌, min, take, sum_by}
use Rattle.gd_variant.specs.Size.{text_size}
use Rattle.gd_variant.proofs.length.texts_within.Given as goal

-- the bytes of the texts in front
abbrev pub invariant-loop-text : goal.invariant-loop-text
invariant-loop-text l = l.total ≡ min (sum_by text_size (take l.text-index l.texts)) l.limit
