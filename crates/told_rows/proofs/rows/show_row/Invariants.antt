use Rattle.std.proofs.Common.{◌≡◌, drop}
use Rattle.peer_steps.specs.Tellings.{shown_to_all}
use Rattle.told_rows.proofs.rows.show_row.Given as goal

abbrev pub invariant-loop-peer : goal.invariant-loop-peer
invariant-loop-peer l = shown_to_all l.tree.scene l.tree.nodes l.row (drop l.peer-index l.peers) l.told ≡ shown_to_all l.tree.scene l.tree.nodes l.row l.peers l.fn.told
