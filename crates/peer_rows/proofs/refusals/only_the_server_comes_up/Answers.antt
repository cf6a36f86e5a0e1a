use Rattle.std.proofs.Common.{refl}
use Rattle.peer_rows.proofs.refusals.only_the_server_comes_up.Goals as goal

pub returns : goal.returns
returns c = refl
