use Rattle.sight_laws.proofs.Frames.{sends_frame}
use Rattle.sight_laws.proofs.laws.sends_frame.Goals as goal

pub returns : goal.returns
returns c = sends_frame
