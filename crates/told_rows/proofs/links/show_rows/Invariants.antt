use Rattle.std.proofs.Common.{◌≡◌, drop}
use Rattle.peer_steps.specs.Tellings.{rows_shown}
use Rattle.peer_steps.specs.Track.{seen_by}
use Rattle.told_rows.proofs.links.show_rows.Given as goal

abbrev pub invariant-loop-place : goal.invariant-loop-place
invariant-loop-place l = rows_shown l.tree.scene l.tree.nodes l.peer (seen_by l.peer (drop l.place l.track.rows) (drop l.place l.track.sights.rows)) l.told ≡ rows_shown l.tree.scene l.tree.nodes l.peer (seen_by l.peer l.track.rows l.track.sights.rows) l.fn.told
