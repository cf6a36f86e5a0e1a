use Rattle.std.proofs.Common.{true, false, ◌≡◌, sym, subst, ap, ◌∙◌}
use Rattle.std.specs.Prelude.{IfOk}
use Rattle.scene_model.specs.Valid.{IsValidScene}
use Rattle.world_steps.specs.Steps.{live_parts, is_over, made}
use Rattle.world_steps.proofs.Calls.{step_answers, step_over, step_scene, step_stands, step_unchanged, sound_event}
use Rattle.mp_world.proofs.Fields.{live_is, step_is}
use Rattle.mp_world.proofs.world.World.step.Goals as goal

pub invariant_of-self : goal.invariant_of-self
invariant_of-self c = λ live. subst IsValidScene (sym (step_scene (live_parts c.self.inside.server c.self.inside.come c.self.inside.put c.self.inside.clients.items) (live_parts c.take_within.new.server c.take_within.new.come c.take_within.new.put c.take_within.new.clients.items) c.args.event c.in-Ok.outcome c.in-Ok.ensures.made)) (c.self.invariant live)

pub returns-in-Ok-clause-answer : goal.returns-in-Ok-clause-answer
returns-in-Ok-clause-answer c = λ es h.
    step_answers c.args.self.now _ es c.args.event c.in-Ok.outcome (step_is c.args.self.now _ _ _ _ _ _ _ _ _ c.args.event c.in-Ok.outcome c.self.view_is c.if-self.false c.in-Ok.ensures.made) h c.requires.built

pub returns-in-Ok-clause-stands : goal.returns-in-Ok-clause-stands
returns-in-Ok-clause-stands c = λ es h done.
    step_stands c.args.self.now _ es c.args.event c.in-Ok.outcome (step_is c.args.self.now _ _ _ _ _ _ _ _ _ c.args.event c.in-Ok.outcome c.self.view_is c.if-self.false c.in-Ok.ensures.made) h c.requires.built (sound_event c.args.event c.names_are_texts.ensures c.requires.sound)
    (sym (ap (λ v. is_over (made v c.args.event)) (live_is c.args.self.now _ _ _ _ _ c.self.view_is c.if-self.false)) ∙ c.in-Ok.ensures.room) done

pub returns-in-Ok-clause-unchanged : goal.returns-in-Ok-clause-unchanged
returns-in-Ok-clause-unchanged c = λ no_event. step_unchanged c.args.self.now _ c.args.event c.in-Ok.outcome (step_is c.args.self.now _ _ _ _ _ _ _ _ _ c.args.event c.in-Ok.outcome c.self.view_is c.if-self.false c.in-Ok.ensures.made) no_event

pub returns-in-Ok-clause-scene : goal.returns-in-Ok-clause-scene
returns-in-Ok-clause-scene c = step_scene c.args.self.now _ c.args.event c.in-Ok.outcome (step_is c.args.self.now _ _ _ _ _ _ _ _ _ c.args.event c.in-Ok.outcome c.self.view_is c.if-self.false c.in-Ok.ensures.made)

pub returns-in-Ok-clause-room : goal.returns-in-Ok-clause-room
returns-in-Ok-clause-room c = λ es h.
    sym (step_over c.args.self.now es c.args.event h c.requires.built) ∙ sym (ap (λ v. is_over (made v c.args.event)) (live_is c.args.self.now _ _ _ _ _ c.self.view_is c.if-self.false)) ∙ c.in-Ok.ensures.room

pub returns-in-Err-clause-full : goal.returns-in-Err-clause-full
returns-in-Err-clause-full c = λ es h full.
    sym (step_over c.args.self.now es c.args.event h c.requires.built) ∙ sym (ap (λ v. is_over (made v c.args.event)) (live_is c.args.self.now _ _ _ _ _ c.self.view_is c.if-self.false)) ∙ c.in-Err.ensures.full full

pub take_within-requires : goal.take_within-requires
take_within-requires c = record { built = c.requires.built; sound = c.requires.sound; valid = c.self.invariant c.if-self.false }
