use Rattle.std.proofs.Common.{◌≡◌, drop}
use Rattle.telling_laws.specs.Telling.{told_all}
use Rattle.peer_steps.specs.Tellings.{row_shown, shown_told, syncers_in}
use Rattle.told_rows.proofs.rows.show_to.Given as goal

abbrev pub invariant-loop-k : goal.invariant-loop-k
invariant-loop-k l = told_all l.peer (shown_told l.tree.scene l.tree.nodes l.row) (drop l.k (syncers_in l.tree.scene l.row)) l.told ≡ row_shown l.tree.scene l.tree.nodes l.row l.peer l.fn.told
