use Rattle.std.proofs.Common.{refl}
use Rattle.peer_rows.proofs.refusals.limit_is_of_the_spawner.Goals as goal

pub returns : goal.returns
returns c = refl
