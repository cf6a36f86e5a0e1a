use Rattle.mp_replay.proofs.commands.replay.Goals as goal

pub returns-clause-output : goal.returns-clause-output
returns-clause-output g c = λ input before left put. c.run_lines.ensures.output c.new-replayer.ensures input before left put
