use Rattle.std.proofs.Common.{ap, sym, ◌∙◌}
use Rattle.peer_steps.specs.Kept.{Kept}
use Rattle.peer_core.specs.Forms.{packet_form}
use Rattle.peer_steps.proofs.Clauses.{step_answers, step_stands, step_unchanged, step_who, step_spent}
use Rattle.peer_core.proofs.peer.Peer.step.Goals as goal

pub returns-in-Ok-clause-answer : goal.returns-in-Ok-clause-answer
returns-in-Ok-clause-answer c = λ es h. step_answers packet_form c.args.self.now _ es c.args.event c.in-Ok.outcome c.in-Ok.ensures.taken h c.requires.built

pub returns-in-Ok-clause-stands : goal.returns-in-Ok-clause-stands
returns-in-Ok-clause-stands c = λ es h a. step_stands packet_form c.args.self.now _ es c.args.event c.in-Ok.outcome c.in-Ok.ensures.taken h c.requires.built a

pub returns-in-Ok-clause-unchanged : goal.returns-in-Ok-clause-unchanged
returns-in-Ok-clause-unchanged c = λ h. step_unchanged packet_form c.args.self.now _ c.args.event c.in-Ok.outcome c.in-Ok.ensures.taken h

pub returns-in-Ok-clause-same_who : goal.returns-in-Ok-clause-same_who
returns-in-Ok-clause-same_who c = step_who packet_form c.args.self.now _ c.args.event c.in-Ok.outcome c.in-Ok.ensures.taken

pub returns-in-Ok-clause-kept : goal.returns-in-Ok-clause-kept
returns-in-Ok-clause-kept c = c.in-Ok.ensures.taken

pub returns-in-Ok-clause-lives : goal.returns-in-Ok-clause-lives
returns-in-Ok-clause-lives c = step_spent packet_form c.args.self.now _ c.args.event c.in-Ok.outcome c.in-Ok.ensures.taken ∙ sym (ap (λ (k : Kept). k.spent) c.self.view_is) ∙ c.if-self.false
