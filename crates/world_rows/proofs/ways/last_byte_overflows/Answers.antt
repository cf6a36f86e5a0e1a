use Rattle.std.proofs.Common.{refl}
use Rattle.world_rows.proofs.ways.last_byte_overflows.Goals as goal

pub returns : goal.returns
returns c bytes = (λ h. rw h refl, λ h. rw h refl)
