use Rattle.std.proofs.Common.{refl}
use Rattle.peer_rows.proofs.refusals.wrong_name_first.Goals as goal

pub returns : goal.returns
returns c = refl
