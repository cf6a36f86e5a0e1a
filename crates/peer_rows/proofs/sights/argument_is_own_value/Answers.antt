use Rattle.std.proofs.Common.{refl}
use Rattle.peer_rows.proofs.sights.argument_is_own_value.Goals as goal

pub returns : goal.returns
returns c = refl
