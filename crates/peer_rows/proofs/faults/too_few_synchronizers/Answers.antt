use Rattle.std.proofs.Common.{refl}
use Rattle.peer_rows.proofs.faults.too_few_synchronizers.Goals as goal

pub returns : goal.returns
returns c = refl
