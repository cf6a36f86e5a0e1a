use Rattle.std.proofs.Common.{refl}
use Rattle.world_rows.proofs.spawns.each_update_counts.Goals as goal

pub returns : goal.returns
returns c = (refl, refl)
