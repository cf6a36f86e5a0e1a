use Rattle.std.proofs.Common.{ap, ◌∙◌, sym, arith}
use Rattle.program_edge.specs.declared.status.Status.TheVariants as status
use Rattle.line_runs.specs.Output.{stops}
use Rattle.line_runs.proofs.Reading.{long_reads, long_late}
use Rattle.line_runs.proofs.run.long_end.Goals as goal

pub returns-then-longest-judged-clause-long : goal.returns-then-longest-judged-clause-long
returns-then-longest-judged-clause-long c = λ k ls bytes at h. long_reads k ls c.args.longest c.args.judged bytes h (omega (arith, c.if-longest-judged.true)) ∙ ap (λ i. stops (status.LineLong i)) (sym at)

pub returns-else-longest-judged-clause-long : goal.returns-else-longest-judged-clause-long
returns-else-longest-judged-clause-long c = λ k ls bytes at h. long_late k ls c.args.longest c.args.judged bytes h (omega (arith, c.if-longest-judged.false))
