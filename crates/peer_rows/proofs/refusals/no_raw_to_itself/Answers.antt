use Rattle.std.proofs.Common.{refl}
use Rattle.peer_rows.proofs.refusals.no_raw_to_itself.Goals as goal

pub returns : goal.returns
returns c = refl
