use Rattle.scene_lines.proofs.Printed.{reads_printed}
use Rattle.scene_lines.proofs.laws.printed_scenes_are_read.Goals as goal

pub returns : goal.returns
returns c = reads_printed
