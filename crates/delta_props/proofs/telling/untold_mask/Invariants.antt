use Rattle.std.specs.Option.{option_copied}
use Rattle.headless_tree.specs.Nodes.{live}
use Rattle.delta_props.specs.Telling.{value_of}
use Rattle.delta_props.proofs.Masks.{IsMasking}
use Rattle.delta_props.proofs.telling.untold_mask.Given as goal

abbrev pub invariant-loop-place : goal.invariant-loop-place
invariant-loop-place l = IsMasking (value_of (live l.node)) (option_copied l.told) l.props l.count l.place l.at l.mask

abbrev pub decreases-loop-place : goal.decreases-loop-place
decreases-loop-place l = l.place
