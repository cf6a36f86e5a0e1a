use Rattle.std.proofs.Common.{refl}
use Rattle.peer_rows.proofs.faults.rows_are_full.Goals as goal

pub returns : goal.returns
returns c = (refl, refl)
