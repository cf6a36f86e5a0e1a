use Rattle.std.proofs.Common.{refl}
use Rattle.peer_rows.proofs.reports.fixed_values_stay.Goals as goal

pub returns : goal.returns
returns c = refl
