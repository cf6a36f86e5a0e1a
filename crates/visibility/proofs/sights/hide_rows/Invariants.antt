use Rattle.std.proofs.Common.{◌≡◌}
use Rattle.sight_laws.specs.Sights.{hidden_from}
use Rattle.visibility.proofs.Fronts.{map_front}
use Rattle.visibility.proofs.sights.hide_rows.Given as goal

abbrev pub invariant-loop-place : goal.invariant-loop-place
invariant-loop-place l = l.rows.items ≡ map_front (hidden_from l.peer) l.place l.fn.rows.items
