use Rattle.std.proofs.Common.{refl}
use Rattle.peer_rows.proofs.refusals.no_third_synchronizer.Goals as goal

pub returns : goal.returns
returns c = refl
