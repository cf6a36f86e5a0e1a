use Rattle.std.proofs.Common.{refl}
use Rattle.world_rows.proofs.refusals.last_number.Goals as goal

pub returns : goal.returns
returns c w nobody = (λ h. (rw h refl, rw h (rw nobody refl)), λ h. rw h (rw nobody refl))
