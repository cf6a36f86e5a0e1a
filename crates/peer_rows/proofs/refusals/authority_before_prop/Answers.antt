use Rattle.std.proofs.Common.{refl}
use Rattle.peer_rows.proofs.refusals.authority_before_prop.Goals as goal

pub returns : goal.returns
returns c = refl
