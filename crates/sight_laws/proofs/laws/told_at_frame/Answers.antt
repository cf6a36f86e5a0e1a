use Rattle.sight_laws.proofs.Frames.{told_at_frame}
use Rattle.sight_laws.proofs.laws.told_at_frame.Goals as goal

pub returns : goal.returns
returns c = told_at_frame
