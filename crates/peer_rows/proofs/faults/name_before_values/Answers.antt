use Rattle.std.proofs.Common.{refl}
use Rattle.peer_rows.proofs.faults.name_before_values.Goals as goal

pub returns : goal.returns
returns c = refl
