use Rattle.std.proofs.Common.{refl}
use Rattle.peer_rows.proofs.limits.call_sizes.Goals as goal

pub returns : goal.returns
returns c = (refl, refl, refl, refl, refl)
