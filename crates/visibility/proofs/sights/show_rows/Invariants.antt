use Rattle.std.proofs.Common.{◌≡◌}
use Rattle.sight_laws.specs.Sights.{shown_to_new}
use Rattle.visibility.proofs.Fronts.{map_front}
use Rattle.visibility.proofs.sights.show_rows.Given as goal

abbrev pub invariant-loop-place : goal.invariant-loop-place
invariant-loop-place l = l.rows.items ≡ map_front (shown_to_new l.peer) l.place l.fn.rows.items
