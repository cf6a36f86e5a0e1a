use Rattle.std.proofs.Common.{refl}
use Rattle.peer_rows.proofs.faults.greatest_name.Goals as goal

pub returns : goal.returns
returns c = refl
