use Rattle.std.proofs.Common.{◌≡◌, ◌≤◌, length, take}
use Rattle.delta_props.specs.Telling.{changes_in}
use Rattle.delta_props.proofs.telling.count_changes.Given as goal

abbrev pub invariant-loop-prop : goal.invariant-loop-prop
invariant-loop-prop l = (l.count ≡ length (changes_in (take l.prop-index l.props))) × (l.count ≤ l.prop-index)
