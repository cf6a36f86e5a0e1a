use Rattle.std.proofs.Common.{◌≡◌, drop}
use Rattle.peer_steps.specs.Tellings.{hidden_from_all}
use Rattle.told_rows.proofs.rows.hide_row.Given as goal

abbrev pub invariant-loop-peer : goal.invariant-loop-peer
invariant-loop-peer l = hidden_from_all l.ids (drop l.peer-index l.peers) l.told ≡ hidden_from_all l.ids l.peers l.fn.told
