use Rattle.std.proofs.Common.{refl}
use Rattle.world_rows.proofs.samples.relayed_is_tagged.Goals as goal

pub returns : goal.returns
returns c = refl
