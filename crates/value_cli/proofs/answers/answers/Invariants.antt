use Rattle.std.proofs.Common.{map}
use Rattle.value_cli.specs.Answers.{Answers, AnswersEach}
use Rattle.value_cli.proofs.answers.answers.Given as goal

abbrev pub invariant-loop-line : goal.invariant-loop-line
invariant-loop-line l = AnswersEach Answers (map (λ x. x.now) l.yielded) l.out.items
