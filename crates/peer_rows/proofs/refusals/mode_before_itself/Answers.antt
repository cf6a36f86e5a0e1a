use Rattle.std.proofs.Common.{refl}
use Rattle.peer_rows.proofs.refusals.mode_before_itself.Goals as goal

pub returns : goal.returns
returns c = refl
