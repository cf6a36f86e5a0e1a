use Rattle.std.proofs.Common.{refl}
use Rattle.peer_rows.proofs.calls.named_to_its_target.Goals as goal

pub returns : goal.returns
returns c = refl
