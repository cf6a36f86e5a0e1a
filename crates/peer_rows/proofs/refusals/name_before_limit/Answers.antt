use Rattle.std.proofs.Common.{refl}
use Rattle.peer_rows.proofs.refusals.name_before_limit.Goals as goal

pub returns : goal.returns
returns c = refl
