use Rattle.std.proofs.Common.{refl}
use Rattle.world_rows.proofs.spawns.loose_is_no_matter.Goals as goal

pub returns : goal.returns
returns c = refl
