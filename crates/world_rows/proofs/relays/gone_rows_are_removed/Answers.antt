use Rattle.std.proofs.Common.{refl}
use Rattle.world_rows.proofs.relays.gone_rows_are_removed.Goals as goal

pub returns : goal.returns
returns c = (refl, refl, refl)
