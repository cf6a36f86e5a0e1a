use Rattle.std.proofs.Common.{refl}
use Rattle.peer_rows.proofs.limits.last_own_row.Goals as goal

pub returns : goal.returns
returns c = (refl, refl)
