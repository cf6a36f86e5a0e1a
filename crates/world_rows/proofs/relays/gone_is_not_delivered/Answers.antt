use Rattle.std.proofs.Common.{refl}
use Rattle.world_rows.proofs.relays.gone_is_not_delivered.Goals as goal

pub returns : goal.returns
returns c = (refl, refl)
