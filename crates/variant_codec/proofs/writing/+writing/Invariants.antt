use Rattle.std.proofs.Common.{◌≡◌, ◌++◌, take}
use Rattle.gd_variant.specs.Tree.{plains, plain_pairs}
use Rattle.variant_codec.specs.Written.{written_all}
use Rattle.variant_codec.proofs.writing.+writing.Given as goal

-- the items in front are written
abbrev pub invariant-put_items-loop-item : goal.invariant-put_items-loop-item
invariant-put_items-loop-item l = l.out.items ≡ l.fn.out.items ++ written_all (plains (take l.item-index l.items))

abbrev pub invariant-put_pairs-loop-pair : goal.invariant-put_pairs-loop-pair
invariant-put_pairs-loop-pair l = l.out.items ≡ l.fn.out.items ++ written_all (plain_pairs (take l.pair-index l.pairs))
