use Rattle.std.proofs.Common.{refl}
use Rattle.peer_rows.proofs.refusals.not_spawned_first.Goals as goal

pub returns : goal.returns
returns c = refl
