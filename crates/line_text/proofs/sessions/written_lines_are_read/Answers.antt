use Rattle.line_text.proofs.SessionsBack.{reads_sessions}
use Rattle.line_text.proofs.sessions.written_lines_are_read.Goals as goal

pub returns : goal.returns
returns c = reads_sessions
