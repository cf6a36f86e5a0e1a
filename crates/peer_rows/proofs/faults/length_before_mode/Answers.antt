use Rattle.std.proofs.Common.{refl}
use Rattle.peer_rows.proofs.faults.length_before_mode.Goals as goal

pub returns : goal.returns
returns c = refl
