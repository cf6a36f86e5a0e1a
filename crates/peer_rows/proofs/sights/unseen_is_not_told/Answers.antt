use Rattle.std.proofs.Common.{refl}
use Rattle.peer_rows.proofs.sights.unseen_is_not_told.Goals as goal

pub returns : goal.returns
returns c = refl
