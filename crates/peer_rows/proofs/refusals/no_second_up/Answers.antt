use Rattle.std.proofs.Common.{refl}
use Rattle.peer_rows.proofs.refusals.no_second_up.Goals as goal

pub returns : goal.returns
returns c = refl
