use Rattle.std.proofs.Common.{ap, ap₂, refl, sym, ◌∙◌, rules, w32}
use Rattle.std.proofs.lemmas.Int.{to_z-of_z}
use Rattle.peer_steps.specs.Kept.{Kept}
use Rattle.spawn_track.specs.Numbers.{row_at}
use Rattle.visibility.specs.Settings.{change_of}
use Rattle.peer_core.specs.Parts.{shift_told}
use Rattle.peer_core.proofs.Taken.{sight_right, sight_no, if_sighted}
use Rattle.peer_core.proofs.peer.Peer.set_sight.Goals as goal

pub invariant_of-self-in-Some : goal.invariant_of-self-in-Some
invariant_of-self-in-Some c = λ _. sight_right c.self.inside.peers c.self.inside.tree c.self.inside.track c.set.new.self _ c.up_now.result.now c.args.path.now c.args.k (change_of c.args.setting.now) c.in_ok-refused.refused c.in_ok-refused.ensures (c.self.invariant (ap (λ (k : Kept). k.spent) c.self.view_is ∙ c.requires))

pub returns-in-Some-clause-taken : goal.returns-in-Some-clause-taken
returns-in-Some-clause-taken c = sight_no c.args.self.now c.self.inside.spent c.self.inside.peers c.self.inside.tree c.self.inside.track c.set.new.self c.self.inside.told c.self.inside.told _ c.up_now.result.now c.args.path.now c.args.k (change_of c.args.setting.now) c.in_ok-refused.refused c.in-Some.refusal
    c.self.view_is c.requires (to_z-of_z w32 c.me-me.result (search rules) ∙ c.me-me.ensures) c.up_now.ensures c.in_ok-refused.ensures c.in-Some.is refl

pub invariant_of-self-in-None : goal.invariant_of-self-in-None
invariant_of-self-in-None c = λ _. sight_right c.self.inside.peers c.self.inside.tree c.self.inside.track c.set.new.self _ c.up_now.result.now c.args.path.now c.args.k (change_of c.args.setting.now) c.in_ok-refused.refused c.in_ok-refused.ensures (c.self.invariant (ap (λ (k : Kept). k.spent) c.self.view_is ∙ c.requires))

pub note_shift-requires : goal.note_shift-requires
note_shift-requires c = (sight_right c.self.inside.peers c.self.inside.tree c.self.inside.track c.set.new.self _ c.up_now.result.now c.args.path.now c.args.k (change_of c.args.setting.now) c.in_ok-refused.refused c.in_ok-refused.ensures (c.self.invariant (ap (λ (k : Kept). k.spent) c.self.view_is ∙ c.requires))).tracked

pub returns-clause-taken : goal.returns-clause-taken
returns-clause-taken c = if_sighted c.tell_shifts.result c.args.self.now c.self.inside.spent c.self.inside.peers c.self.inside.tree c.self.inside.track c.set.new.self c.self.inside.told c.note_shift.new.told _ c.up_now.result.now c.args.path.now c.args.k (change_of c.args.setting.now) c.in_ok-refused.refused c.in_ok-before.before c.as_slice-in-None.result.now
    c.self.view_is c.requires (to_z-of_z w32 c.me-me.result (search rules) ∙ c.me-me.ensures) c.up_now.ensures c.in_ok-refused.ensures c.in-None.is c.as_slice-in-None.ensures c.in_ok-before.ensures
    (c.in_ok-note_shift-in-None.ensures ∙ ap₂ (λ us bs. shift_told c.self.inside.tree us c.set.new.self bs (row_at c.self.inside.tree.nodes c.args.path.now c.set.new.self.rows) c.self.inside.told) c.up_now-in-None.ensures (c.as_slice.ensures ∙ sym c.as_slice-in-None.ensures))
    c.tell_shifts.ensures
