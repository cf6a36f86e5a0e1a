use Rattle.std.proofs.Common.{◌≡◌, ◌++◌, drop}
use Rattle.std.specs.Prelude.{slice_get}
use Rattle.peer_steps.specs.Tellings.{row_seen}
use Rattle.spawn_track.specs.Seeing.{sights_in}
use Rattle.spawn_track.proofs.seeing.push_row.Given as goal

abbrev pub invariant-loop-k : goal.invariant-loop-k
invariant-loop-k l = l.syncs ++ row_seen l.peer l.row.path l.k (drop l.k l.row.ids) (drop l.k (sights_in (slice_get l.sights.rows l.place))) ≡ l.fn.syncs ++ row_seen l.peer l.row.path 0 l.row.ids (sights_in (slice_get l.sights.rows l.place))
