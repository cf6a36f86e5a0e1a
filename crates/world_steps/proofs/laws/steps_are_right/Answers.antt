use Rattle.world_steps.proofs.Calls.{steps_are_right}
use Rattle.world_steps.proofs.laws.steps_are_right.Goals as goal

pub returns : goal.returns
returns c = steps_are_right
