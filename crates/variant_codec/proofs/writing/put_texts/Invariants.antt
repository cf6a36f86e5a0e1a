use Rattle.std.proofs.Common.{◌≡◌, ◌++◌, take}
use Rattle.std.specs.List.{flat_map}
use Rattle.variant_codec.specs.Written.{written_padded}
use Rattle.variant_codec.proofs.writing.put_texts.Given as goal

-- the items in front are written
abbrev pub invariant-loop-text : goal.invariant-loop-text
invariant-loop-text l = l.out.items ≡ l.fn.out.items ++ flat_map written_padded (take l.text-index l.texts)
