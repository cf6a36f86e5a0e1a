use Rattle.std.proofs.Common.{refl}
use Rattle.peer_rows.proofs.limits.widen_tie.Goals as goal

pub returns : goal.returns
returns c = refl
