use Rattle.std.proofs.Common.{◌≡◌, ◌++◌, take}
use Rattle.std.specs.List.{flat_map}
use Rattle.variant_codec.specs.Written.{written_short}
use Rattle.variant_codec.proofs.writing.put_shorts.Given as goal

-- the items in front are written
abbrev pub invariant-loop-item : goal.invariant-loop-item
invariant-loop-item l = l.out.items ≡ l.fn.out.items ++ flat_map written_short (take l.item-index l.items)
