use Rattle.std.proofs.Common.{refl}
use Rattle.peer_rows.proofs.sights.late_client_is_told.Goals as goal

pub returns : goal.returns
returns c = refl
