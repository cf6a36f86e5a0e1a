use Rattle.std.proofs.Common.{◌≡◌, map, take}
use Rattle.delta_props.specs.Telling.{changes_in}
use Rattle.peer_steps.specs.Tellings.{shown_value}
use Rattle.told_rows.proofs.values.shown_values.Given as goal

abbrev pub invariant-loop-prop : goal.invariant-loop-prop
invariant-loop-prop l = l.values ≡ map (shown_value l.tree.scene l.tree.nodes l.row) (changes_in (take l.prop-index l.props))
