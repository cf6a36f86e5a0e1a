use Rattle.std.proofs.Common.{refl}
use Rattle.peer_rows.proofs.Texts.{text_eq-same}
use Rattle.peer_rows.specs.Packets.{digest_b}
use Rattle.peer_rows.proofs.packets.relayed_name_is_confirmed.Goals as goal

pub returns : goal.returns
returns c = rw (text_eq-same digest_b) refl
