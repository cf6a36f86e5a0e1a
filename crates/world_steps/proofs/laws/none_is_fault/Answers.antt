use Rattle.world_steps.proofs.Pairs.{none_is_fault}
use Rattle.world_steps.proofs.laws.none_is_fault.Goals as goal

pub returns : goal.returns
returns c = none_is_fault
