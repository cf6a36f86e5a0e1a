use Rattle.std.proofs.Common.{◌≡◌, ◌++◌, map, drop}
use Rattle.peer_model.specs.Updates.{masked}
use Rattle.headless_tree.specs.Nodes.{live}
use Rattle.delta_props.specs.Telling.{changes_in, value_of}
use Rattle.delta_props.proofs.telling.copy_masked.Given as goal

abbrev pub invariant-loop-prop : goal.invariant-loop-prop
invariant-loop-prop l = l.values ++ map (value_of (live l.node)) (masked l.rest (changes_in (drop l.prop-index l.props))) ≡ map (value_of (live l.node)) (masked l.mask (changes_in l.props))
