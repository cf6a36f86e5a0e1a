use Rattle.std.proofs.Common.{refl}
use Rattle.peer_rows.proofs.packets.second_entry_is_stale.Goals as goal

pub returns : goal.returns
returns c = refl
