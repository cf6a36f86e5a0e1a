use Rattle.std.proofs.Common.{◌≡◌, drop}
use Rattle.peer_steps.specs.Tellings.{told_shifts}
use Rattle.told_rows.proofs.rows.shift_row.Given as goal

abbrev pub invariant-loop-peer : goal.invariant-loop-peer
invariant-loop-peer l = told_shifts l.tree.scene l.tree.nodes l.row l.before l.after (drop l.peer-index l.up) l.told ≡ told_shifts l.tree.scene l.tree.nodes l.row l.before l.after l.up l.fn.told
