use Rattle.std.proofs.Common.{refl}
use Rattle.peer_rows.proofs.sights.fixed_before_rows.Goals as goal

pub returns : goal.returns
returns c = refl
