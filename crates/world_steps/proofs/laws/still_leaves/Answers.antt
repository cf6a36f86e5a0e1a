use Rattle.world_steps.proofs.Framed.{still_leaves}
use Rattle.world_steps.proofs.laws.still_leaves.Goals as goal

pub returns : goal.returns
returns c = still_leaves
