use Rattle.std.proofs.Common.{refl}
use Rattle.peer_rows.proofs.calls.methods_of_the_new_scene.Goals as goal

pub returns : goal.returns
returns c = refl
