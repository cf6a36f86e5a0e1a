use Rattle.std.proofs.Common.{refl}
use Rattle.peer_rows.proofs.calls.self_call_is_not_sent.Goals as goal

pub returns : goal.returns
returns c = refl
