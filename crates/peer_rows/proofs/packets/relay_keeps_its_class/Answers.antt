use Rattle.std.proofs.Common.{refl}
use Rattle.peer_rows.proofs.packets.relay_keeps_its_class.Goals as goal

pub returns : goal.returns
returns c = refl
