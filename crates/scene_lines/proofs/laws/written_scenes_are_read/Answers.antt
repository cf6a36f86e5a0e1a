use Rattle.scene_lines.proofs.Entries.{reads_scenes}
use Rattle.scene_lines.proofs.laws.written_scenes_are_read.Goals as goal

pub returns : goal.returns
returns c = reads_scenes
