use Rattle.line_text.proofs.ReadBack.{reads_written}
use Rattle.line_text.proofs.values.written_values_are_read.Goals as goal

pub returns : goal.returns
returns c = reads_written
