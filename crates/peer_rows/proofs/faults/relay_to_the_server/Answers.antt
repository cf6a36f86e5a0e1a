use Rattle.std.proofs.Common.{refl}
use Rattle.peer_rows.proofs.faults.relay_to_the_server.Goals as goal

pub returns : goal.returns
returns c = refl
