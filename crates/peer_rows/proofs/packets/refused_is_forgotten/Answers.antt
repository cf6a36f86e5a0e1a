use Rattle.std.proofs.Common.{refl}
use Rattle.peer_rows.proofs.packets.refused_is_forgotten.Goals as goal

pub returns : goal.returns
returns c = refl
