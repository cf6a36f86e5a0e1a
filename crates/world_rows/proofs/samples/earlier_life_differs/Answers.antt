use Rattle.std.proofs.Common.{refl}
use Rattle.world_rows.proofs.samples.earlier_life_differs.Goals as goal

pub returns : goal.returns
returns c = (refl, refl, refl, refl)
