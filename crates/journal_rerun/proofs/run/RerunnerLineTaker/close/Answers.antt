use Rattle.journal_rerun.proofs.Stages.{peer_closed}
use Rattle.journal_rerun.proofs.run.RerunnerLineTaker.close.Goals as goal

pub returns-in_ok-close_peer-in-Running-clause-closes : goal.returns-in_ok-close_peer-in-Running-clause-closes
returns-in_ok-close_peer-in-Running-clause-closes c = λ ls took number.
    peer_closed c.args.self.now.stage ls c.in-Running.peer c.args.text.now.items c.close_peer.new.text.items c.in-Running.is took c.in_ok-close_peer-in-Running.ensures.added
