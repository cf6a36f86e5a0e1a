use Rattle.std.proofs.Common.{refl}
use Rattle.peer_rows.proofs.limits.longest_raw.Goals as goal

pub returns : goal.returns
returns c bytes = (λ h. rw h refl, λ h. rw h refl)
