use Rattle.std.proofs.Common.{◌≡◌, map, take}
use Rattle.headless_tree.specs.Nodes.{live}
use Rattle.delta_props.specs.Telling.{changes_in, value_of}
use Rattle.delta_props.proofs.telling.copy_changes.Given as goal

abbrev pub invariant-loop-prop : goal.invariant-loop-prop
invariant-loop-prop l = l.values ≡ map (value_of (live l.node)) (changes_in (take l.prop-index l.props))
