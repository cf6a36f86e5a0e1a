use Rattle.std.proofs.Common.{refl}
use Rattle.peer_rows.proofs.calls.run_elsewhere_sets_nothing.Goals as goal

pub returns : goal.returns
returns c = refl
