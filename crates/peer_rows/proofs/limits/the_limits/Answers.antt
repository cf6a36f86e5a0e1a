use Rattle.std.proofs.Common.{refl}
use Rattle.peer_rows.proofs.limits.the_limits.Goals as goal

pub returns : goal.returns
returns c = (refl, refl, refl, refl, refl, refl, refl, refl)
