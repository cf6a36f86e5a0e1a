use Rattle.std.proofs.Common.{refl}
use Rattle.peer_rows.proofs.faults.relay_to_its_sender.Goals as goal

pub returns : goal.returns
returns c = refl
