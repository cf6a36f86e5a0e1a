use Rattle.std.proofs.Common.{refl}
use Rattle.peer_rows.proofs.faults.number_of_a_synchronizer.Goals as goal

pub returns : goal.returns
returns c = refl
