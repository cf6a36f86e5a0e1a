use Rattle.std.proofs.Common.{refl}
use Rattle.peer_rows.proofs.faults.long_argument_came.Goals as goal

pub returns : goal.returns
returns c = refl
