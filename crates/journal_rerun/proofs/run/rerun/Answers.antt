use Rattle.journal_rerun.proofs.run.rerun.Goals as goal

pub returns-clause-output : goal.returns-clause-output
returns-clause-output g c = λ input held left put. (c.run_lines.ensures.output c.new-journal.ensures input held left put).ends
