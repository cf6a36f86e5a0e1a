use Rattle.world_steps.proofs.Reports.{replicas_settle}
use Rattle.world_steps.proofs.laws.replicas_settle.Goals as goal

pub returns : goal.returns
returns c = replicas_settle
