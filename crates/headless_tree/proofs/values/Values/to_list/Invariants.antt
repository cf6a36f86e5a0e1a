use Rattle.std.proofs.Common.{◌≡◌, take}
use Rattle.headless_tree.proofs.values.Values.to_list.Given as goal

abbrev pub invariant-loop-prop : goal.invariant-loop-prop
invariant-loop-prop l = l.copy ≡ take l.prop-index l.prop-items
