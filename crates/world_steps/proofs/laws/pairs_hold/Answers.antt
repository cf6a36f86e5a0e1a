use Rattle.world_steps.proofs.Pairs.{pairs_hold}
use Rattle.world_steps.proofs.laws.pairs_hold.Goals as goal

pub returns : goal.returns
returns c = pairs_hold
