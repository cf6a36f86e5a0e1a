use Rattle.std.proofs.Common.{refl}
use Rattle.peer_rows.proofs.limits.limit_before_rows.Goals as goal

pub returns : goal.returns
returns c = (refl, refl)
