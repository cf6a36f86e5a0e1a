use Rattle.std.proofs.Common.{◌≡◌, map, take}
use Rattle.delta_props.specs.Telling.{changes_in}
use Rattle.told_rows.specs.Values.{default_in}
use Rattle.told_rows.proofs.defaults.first_values.Given as goal

abbrev pub invariant-loop-prop : goal.invariant-loop-prop
invariant-loop-prop l = l.values ≡ map (default_in l.tree.scene l.def.of) (changes_in (take l.prop-index l.props))
