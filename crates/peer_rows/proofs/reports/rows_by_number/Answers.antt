use Rattle.std.proofs.Common.{refl}
use Rattle.peer_rows.proofs.reports.rows_by_number.Goals as goal

pub returns : goal.returns
returns c = refl
