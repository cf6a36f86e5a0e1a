use Rattle.std.proofs.Common.{refl}
use Rattle.world_rows.proofs.samples.fault_doesnt_count.Goals as goal

pub returns : goal.returns
returns c = (refl, refl, refl)
