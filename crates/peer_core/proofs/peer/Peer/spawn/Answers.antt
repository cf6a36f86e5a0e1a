use Rattle.std.proofs.Common.{ap, ◌∙◌, rules, w32}
use Rattle.std.proofs.lemmas.Int.{to_z-of_z}
use Rattle.peer_steps.specs.Kept.{Kept}
use Rattle.peer_core.proofs.Taken.{spawn_right, if_spawned}
use Rattle.peer_core.proofs.peer.Peer.spawn.Goals as goal

pub invariant_of-self-in-None : goal.invariant_of-self-in-None
invariant_of-self-in-None c = λ _. spawn_right c.self.inside.peers c.self.inside.tree c.spawn.new.tree c.self.inside.track c.spawn.new.self _ c.up_now.result.now c.args.op.now c.in_ok-refused.refused
    (to_z-of_z w32 c.me-me.result (search rules) ∙ c.me-me.ensures) c.up_now.ensures c.requires.right c.requires.sound c.requires.argument c.in_ok-refused.ensures (c.self.invariant (ap (λ (k : Kept). k.spent) c.self.view_is ∙ c.requires.live))

pub returns-in_ok-note_newest-in-None-clause-taken : goal.returns-in_ok-note_newest-in-None-clause-taken
returns-in_ok-note_newest-in-None-clause-taken c = if_spawned c.show_newest.result c.args.self.now c.self.inside.spent c.self.inside.peers c.self.inside.tree c.spawn.new.tree c.self.inside.track c.spawn.new.self c.self.inside.told c.note_newest.new.told _ c.up_now.result.now c.args.op.now c.in_ok-refused.refused
    c.self.view_is c.requires.live (to_z-of_z w32 c.me-me.result (search rules) ∙ c.me-me.ensures) c.up_now.ensures c.in_ok-refused.ensures c.in-None.is c.in_ok-note_newest-in-None.ensures c.show_newest.ensures

pub note_newest-requires : goal.note_newest-requires
note_newest-requires c = (spawn_right c.self.inside.peers c.self.inside.tree c.spawn.new.tree c.self.inside.track c.spawn.new.self _ c.up_now.result.now c.args.op.now c.in_ok-refused.refused
    (to_z-of_z w32 c.me-me.result (search rules) ∙ c.me-me.ensures) c.up_now.ensures c.requires.right c.requires.sound c.requires.argument c.in_ok-refused.ensures (c.self.invariant (ap (λ (k : Kept). k.spent) c.self.view_is ∙ c.requires.live))).tracked
