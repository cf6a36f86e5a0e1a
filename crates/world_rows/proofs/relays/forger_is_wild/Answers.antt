use Rattle.std.proofs.Common.{refl}
use Rattle.world_rows.proofs.relays.forger_is_wild.Goals as goal

pub returns : goal.returns
returns c = (refl, refl, refl, refl, refl, refl, refl)
