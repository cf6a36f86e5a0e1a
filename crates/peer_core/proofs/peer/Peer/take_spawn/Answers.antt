use Rattle.std.proofs.Common.{ap, ◌∙◌}
use Rattle.std.specs.Ordering.{int_eq}
use Rattle.peer_steps.specs.Kept.{Kept}
use Rattle.peer_core.proofs.Taken.{shown_right}
use Rattle.peer_core.proofs.peer.Peer.take_spawn.Goals as goal

pub invariant_of-self-2 : goal.invariant_of-self-2
invariant_of-self-2 c = λ _. shown_right c.self.inside.peers c.self.inside.tree c.apply_spawn.new.tree c.self.inside.track c.args.from.now c.args.spawn c.in_ok-fault.fault
    (ap (λ (k : Kept). int_eq c.args.from.now k.peers.me) c.self.view_is ∙ c.requires.other) c.requires.sound c.in_ok-fault.ensures (c.self.invariant (ap (λ (k : Kept). k.spent) c.self.view_is ∙ c.requires.live))
