use Rattle.shared_hub.specs.Peer.{answered, Stands}
use Rattle.shared_hub.proofs.Stands.{stands_more}
use Rattle.shared_hub.proofs.machine.PeerMachineMachine.step.Goals as goal

pub returns-in-Ok-clause-stands : goal.returns-in-Ok-clause-stands
unfolding Stands
returns-in-Ok-clause-stands c = λ es h.
    let old = c.args.self.now.peer in
    let s = c.in-Ok.ensures in
    stands_more old c.step.new.self c.args.event es c.in-Ok.outcome s.same_who h (s.answer (answered old.who es) h) (s.stands (answered old.who es) h) s.unchanged
