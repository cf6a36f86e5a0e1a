use Rattle.std.proofs.Common.{refl}
use Rattle.peer_rows.proofs.faults.no_such_scene.Goals as goal

pub returns : goal.returns
returns c = (refl, refl, refl)
