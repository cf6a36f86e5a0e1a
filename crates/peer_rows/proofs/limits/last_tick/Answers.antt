use Rattle.std.proofs.Common.{refl}
use Rattle.peer_rows.proofs.limits.last_tick.Goals as goal

pub returns : goal.returns
returns c es one = (λ h. rw one (rw h refl), λ h. rw one (rw h refl))
