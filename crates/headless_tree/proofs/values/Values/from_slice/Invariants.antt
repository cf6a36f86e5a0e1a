use Rattle.std.proofs.Common.{◌≡◌, take}
use Rattle.headless_tree.proofs.values.Values.from_slice.Given as goal

abbrev pub invariant-loop-prop : goal.invariant-loop-prop
invariant-loop-prop l = l.copy.items ≡ take l.prop-index l.props
