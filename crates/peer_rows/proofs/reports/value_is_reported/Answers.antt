use Rattle.std.proofs.Common.{refl}
use Rattle.peer_rows.proofs.reports.value_is_reported.Goals as goal

pub returns : goal.returns
returns c = refl
