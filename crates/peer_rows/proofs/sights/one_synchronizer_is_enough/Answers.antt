use Rattle.std.proofs.Common.{refl}
use Rattle.peer_rows.proofs.sights.one_synchronizer_is_enough.Goals as goal

pub returns : goal.returns
returns c = refl
