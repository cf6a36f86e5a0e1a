use Rattle.journal_rerun.proofs.Stages.{first_taken, second_taken}
use Rattle.journal_rerun.proofs.run.RerunnerLineTaker.take.Goals as goal

pub returns-in_ok-peer-in-Alone-clause-takes : goal.returns-in_ok-peer-in-Alone-clause-takes
returns-in_ok-peer-in-Alone-clause-takes c = λ ls took number.
    second_taken c.args.self.now.stage ls c.args.line.now c.in-Alone.read c.in_ok-peer-in-Alone.peer c.args.text.now.items c.in-Alone.is took c.in_ok-peer-in-Alone.ensures

pub returns-in_ok-read-in-Start-clause-takes : goal.returns-in_ok-read-in-Start-clause-takes
returns-in_ok-read-in-Start-clause-takes c = λ ls took number.
    first_taken c.args.self.now.stage ls c.args.line.now c.in_ok-read-in-Start.read c.args.text.now.items c.in-Start.is took c.in_ok-read-in-Start.ensures
