use Rattle.std.proofs.Common.{refl}
use Rattle.peer_rows.proofs.faults.one_number_twice.Goals as goal

pub returns : goal.returns
returns c = refl
