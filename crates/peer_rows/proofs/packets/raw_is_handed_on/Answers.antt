use Rattle.std.proofs.Common.{refl}
use Rattle.peer_rows.proofs.packets.raw_is_handed_on.Goals as goal

pub returns : goal.returns
returns c = refl
