use Rattle.std.proofs.Common.{refl}
use Rattle.world_rows.proofs.ways.refused_doesnt_overflow.Goals as goal

pub returns : goal.returns
returns c bytes h = refl
