use Rattle.std.proofs.Common.{ap, ◌∙◌, rules, w32}
use Rattle.std.proofs.lemmas.Int.{to_z-of_z}
use Rattle.peer_core.specs.Parts.{gone_told}
use Rattle.peer_core.proofs.Taken.{despawn_kept, if_despawned}
use Rattle.peer_core.proofs.peer.Peer.despawn.Goals as goal

pub invariant_of-self : goal.invariant_of-self
invariant_of-self c = λ live. despawn_kept c.despawn-despawned.result c.self.inside.peers c.self.inside.tree c.despawn-despawned.new.tree c.self.inside.track c.despawn-despawned.new.self _ c.args.path.now (to_z-of_z w32 c.me-me.result (search rules) ∙ c.me-me.ensures) c.despawn-despawned.ensures (c.self.invariant live)

pub returns-clause-taken : goal.returns-clause-taken
returns-clause-taken c = if_despawned c.answer_despawn.result c.despawn-despawned.result c.args.self.now c.self.inside.spent c.self.inside.peers c.self.inside.tree c.despawn-despawned.new.tree c.self.inside.track c.despawn-despawned.new.self c.self.inside.told c.note_gone.new.told _ c.args.path.now
    c.self.view_is c.requires (to_z-of_z w32 c.me-me.result (search rules) ∙ c.me-me.ensures) c.despawn-despawned.ensures
    (c.note_gone.ensures ∙ ap (λ ids. gone_told ids c.despawn-despawned.result c.self.inside.told) (c.as_slice.ensures ∙ c.in_ok-ids.ensures)) c.answer_despawn.ensures
