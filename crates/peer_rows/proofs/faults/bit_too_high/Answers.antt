use Rattle.std.proofs.Common.{refl}
use Rattle.peer_rows.proofs.faults.bit_too_high.Goals as goal

pub returns : goal.returns
returns c = refl
