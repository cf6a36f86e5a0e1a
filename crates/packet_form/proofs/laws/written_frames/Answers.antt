use Rattle.packet_form.proofs.Written.{written_frames}
use Rattle.packet_form.proofs.laws.written_frames.Goals as goal

pub returns : goal.returns
returns c = written_frames
