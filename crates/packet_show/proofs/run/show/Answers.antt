use Rattle.packet_show.proofs.run.show.Goals as goal

pub returns-clause-output : goal.returns-clause-output
returns-clause-output g c = λ input held left put. (c.run_lines.ensures.output tt input held left put).ends
