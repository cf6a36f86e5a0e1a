use Rattle.std.proofs.Common.{refl}
use Rattle.peer_rows.proofs.faults.relay_to_one_that_is_gone.Goals as goal

pub returns : goal.returns
returns c = refl
