use Rattle.std.proofs.Common.{refl}
use Rattle.peer_rows.proofs.faults.count_before_length.Goals as goal

pub returns : goal.returns
returns c = refl
