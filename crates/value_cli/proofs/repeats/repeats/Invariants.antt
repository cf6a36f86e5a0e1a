use Rattle.std.proofs.Common.{map}
use Rattle.value_cli.specs.Answers.{AnswersEach}
use Rattle.value_cli.specs.Works.{Works}
use Rattle.value_cli.proofs.repeats.repeats.Given as goal

abbrev pub invariant-loop-line : goal.invariant-loop-line
invariant-loop-line l = AnswersEach (Works l.work) (map (λ x. x.now) l.yielded) l.out.items
