use Rattle.std.proofs.Common.{refl}
use Rattle.world_rows.proofs.ways.relay_counts_twice.Goals as goal

pub returns : goal.returns
returns c = refl
