use Rattle.std.proofs.Common.{refl}
use Rattle.peer_rows.proofs.calls.second_path_is_next.Goals as goal

pub returns : goal.returns
returns c = refl
