use Rattle.std.proofs.Common.{sym, ap, ◌∙◌, rules, w32}
use Rattle.std.proofs.lemmas.Int.{to_z-of_z}
use Rattle.peer_steps.specs.Judged.{lacks_server}
use Rattle.peer_steps.specs.Kept.{Kept}
use Rattle.peer_core.proofs.Taken.{if_linked, up_right}
use Rattle.peer_core.proofs.peer.Peer.take_up.Goals as goal

pub returns-clause-taken : goal.returns-clause-taken
returns-clause-taken c = if_linked c.answer_up.result c.args.self.now c.self.inside.spent c.self.inside.peers c.come_up.new.peers c.self.inside.tree c.self.inside.track c.come_up.new.track c.self.inside.told c.come_up.new.told c.args.peer.now c.in_ok-refused.refused
    c.self.view_is c.requires (ap (λ me. lacks_server me c.args.peer.now) (sym (to_z-of_z w32 c.me-me.result (search rules) ∙ c.me-me.ensures)) ∙ sym c.lacks_server.ensures ∙ c.if-lacks_server.false) c.in_ok-refused.ensures.taken c.in_ok-refused.ensures.track c.in_ok-refused.ensures.told c.answer_up.ensures

pub invariant_of-self-2 : goal.invariant_of-self-2
invariant_of-self-2 c = λ _. up_right c.self.inside.peers c.come_up.new.peers c.self.inside.tree c.self.inside.track c.come_up.new.track c.args.peer.now c.in_ok-refused.refused c.in_ok-refused.ensures.me c.in_ok-refused.ensures.track (c.self.invariant (ap (λ (k : Kept). k.spent) c.self.view_is ∙ c.requires))

pub come_up-requires : goal.come_up-requires
come_up-requires c = (c.self.invariant (ap (λ (k : Kept). k.spent) c.self.view_is ∙ c.requires)).fits.valid
