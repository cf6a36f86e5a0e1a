use Rattle.std.proofs.Common.{◌∙◌, rules, w32}
use Rattle.std.proofs.lemmas.Int.{to_z-of_z}
use Rattle.peer_core.proofs.Taken.{assign_right}
use Rattle.peer_core.proofs.peer.Peer.assign.Goals as goal

pub invariant_of-self : goal.invariant_of-self
invariant_of-self c = λ live. assign_right c.self.inside.peers c.self.inside.tree c.set-refused.new.tree c.self.inside.track _ c.args.path.now c.args.prop.now c.args.value c.set-refused.result (to_z-of_z w32 c.me-me.result (search rules) ∙ c.me-me.ensures) c.requires.sound c.set-refused.ensures.judged c.set-refused.ensures.tree (c.self.invariant live)
