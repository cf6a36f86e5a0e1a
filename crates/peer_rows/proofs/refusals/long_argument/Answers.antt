use Rattle.std.proofs.Common.{refl}
use Rattle.peer_rows.proofs.refusals.long_argument.Goals as goal

pub returns : goal.returns
returns c = refl
