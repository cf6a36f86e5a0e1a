use Rattle.std.proofs.Common.{refl}
use Rattle.peer_rows.proofs.sights.setting_of_one_synchronizer.Goals as goal

pub returns : goal.returns
returns c = refl
