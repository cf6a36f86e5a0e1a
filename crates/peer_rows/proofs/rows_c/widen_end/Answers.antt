use Rattle.std.proofs.Common.{refl}
use Rattle.peer_rows.proofs.rows_c.widen_end.Goals as goal

pub returns : goal.returns
returns c = refl
