use Rattle.std.proofs.Common.{refl}
use Rattle.world_rows.proofs.spawns.change_is_reported.Goals as goal

pub returns : goal.returns
returns c = (refl, refl)
