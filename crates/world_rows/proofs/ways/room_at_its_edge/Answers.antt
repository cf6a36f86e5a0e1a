use Rattle.std.proofs.Common.{refl}
use Rattle.world_rows.proofs.ways.room_at_its_edge.Goals as goal

pub returns : goal.returns
returns c bytes = (λ h. rw h refl, λ h. rw h refl)
