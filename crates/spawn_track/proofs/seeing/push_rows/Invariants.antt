use Rattle.std.proofs.Common.{◌≡◌, ◌++◌, drop}
use Rattle.peer_steps.specs.Tellings.{rows_seen}
use Rattle.spawn_track.proofs.seeing.push_rows.Given as goal

abbrev pub invariant-loop-place : goal.invariant-loop-place
invariant-loop-place l = l.syncs ++ rows_seen l.peer (drop l.place l.rows) (drop l.place l.sights.rows) ≡ l.fn.syncs ++ rows_seen l.peer l.rows l.sights.rows
