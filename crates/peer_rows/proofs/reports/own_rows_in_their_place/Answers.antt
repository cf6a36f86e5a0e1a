use Rattle.std.proofs.Common.{refl}
use Rattle.peer_rows.proofs.reports.own_rows_in_their_place.Goals as goal

pub returns : goal.returns
returns c = refl
