use Rattle.std.proofs.Common.{◌≡◌, flat_map, take}
use Rattle.visibility.specs.Settings.{fixed_from}
use Rattle.visibility.proofs.sights.first_fixed.Given as goal

abbrev pub invariant-loop-node : goal.invariant-loop-node
invariant-loop-node l = l.fixed.items ≡ flat_map (fixed_from l.me) (take l.node-index l.nodes)
