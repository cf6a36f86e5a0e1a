use Rattle.std.proofs.Common.{refl}
use Rattle.peer_rows.proofs.limits.last_number.Goals as goal

pub returns : goal.returns
returns c = (refl, refl)
