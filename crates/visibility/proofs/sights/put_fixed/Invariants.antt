use Rattle.std.proofs.Common.{◌≡◌}
use Rattle.visibility.specs.Settings.{change_of, fixed_set}
use Rattle.visibility.proofs.Fronts.{map_front}
use Rattle.visibility.proofs.sights.put_fixed.Given as goal

abbrev pub invariant-loop-place : goal.invariant-loop-place
invariant-loop-place l = l.fixed.items ≡ map_front (fixed_set l.path (change_of l.setting).change) l.place l.fn.fixed.items
