use Rattle.std.proofs.Common.{refl}
use Rattle.peer_rows.proofs.calls.one_id_for_a_path.Goals as goal

pub returns : goal.returns
returns c = refl
