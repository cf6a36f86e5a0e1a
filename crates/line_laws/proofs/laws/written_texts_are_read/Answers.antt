use Rattle.line_laws.proofs.Texts.{reads_texts}
use Rattle.line_laws.proofs.laws.written_texts_are_read.Goals as goal

pub returns : goal.returns
returns c = reads_texts
