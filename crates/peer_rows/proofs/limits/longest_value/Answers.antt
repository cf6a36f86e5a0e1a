use Rattle.std.proofs.Common.{refl}
use Rattle.peer_rows.proofs.limits.longest_value.Goals as goal

pub returns : goal.returns
returns c = (refl, refl)
