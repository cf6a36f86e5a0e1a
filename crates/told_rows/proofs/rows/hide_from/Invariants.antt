use Rattle.std.proofs.Common.{◌≡◌, drop}
use Rattle.telling_laws.specs.Telling.{told_none}
use Rattle.told_rows.proofs.rows.hide_from.Given as goal

abbrev pub invariant-loop-id : goal.invariant-loop-id
invariant-loop-id l = told_none l.peer (drop l.id-index l.ids) l.told ≡ told_none l.peer l.ids l.fn.told
