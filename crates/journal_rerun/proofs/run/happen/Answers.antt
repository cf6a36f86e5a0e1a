use Rattle.std.proofs.Common.{rules, to_z-of_z, ◌∙◌}
use Rattle.std.specs.Int.{w32}
use Rattle.journal_rerun.proofs.Happened.{happened}
use Rattle.journal_rerun.proofs.run.happen.Goals as goal

pub returns-in-Ok-clause-takes : goal.returns-in-Ok-clause-takes
returns-in-Ok-clause-takes c = λ who es holds.
    happened c.args.n who es c.args.event c.in-Ok.outcome c.args.peer.now c.step.new.self _ c.args.text.now.items c.add_outcome.result c.add_outcome.new.text.items
    holds (c.in-Ok.ensures.answer es holds.stands) (c.in-Ok.ensures.stands es holds.stands) c.in-Ok.ensures.same_who (to_z-of_z {w = w32} {z = c.id.result} (search rules) ∙ c.id.ensures) c.add_outcome.ensures.takes
