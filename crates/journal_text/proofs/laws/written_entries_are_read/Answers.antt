use Rattle.journal_text.proofs.Back.{reads_journals}
use Rattle.journal_text.proofs.laws.written_entries_are_read.Goals as goal

pub returns : goal.returns
returns c = reads_journals
