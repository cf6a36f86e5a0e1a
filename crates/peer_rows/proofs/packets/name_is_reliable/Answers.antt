use Rattle.std.proofs.Common.{refl}
use Rattle.peer_rows.proofs.packets.name_is_reliable.Goals as goal

pub returns : goal.returns
returns c = refl
