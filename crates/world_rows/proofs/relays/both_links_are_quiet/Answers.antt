use Rattle.std.proofs.Common.{refl}
use Rattle.world_rows.proofs.relays.both_links_are_quiet.Goals as goal

pub returns : goal.returns
returns c = (refl, refl, refl, refl, refl, refl)
