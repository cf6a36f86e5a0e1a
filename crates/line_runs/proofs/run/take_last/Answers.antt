use Rattle.std.proofs.Common.{◌+◌, ◌≤◌, ◌∷◌, [], length, ap, ◌∙◌, arith}
use Rattle.program_edge.specs.declared.status.Status.TheVariants as status
use Rattle.line_runs.proofs.Reading.{last_judged, last_late, last_reads}
use Rattle.line_runs.proofs.Runs.{gave_of, last_step, one_line_more, refused_step, stopped_step}
use Rattle.line_runs.proofs.run.take_last.Goals as goal

pub returns-then-line-judged-clause-last : goal.returns-then-line-judged-clause-last
returns-then-line-judged-clause-last g c = λ longest ls bytes took at h.
    stopped_step g.T.LineTaker.known g.T.LineTaker.command longest c.args.judged ls bytes _ status.InputLong (g.met.T.LineTaker.knows c.args.taker.now ls took) (last_late g.T.LineTaker.command ls longest c.args.judged bytes c.args.line.now h (omega (arith, c.if-line-judged.true)))

pub returns-in-Ok-clause-last : goal.returns-in-Ok-clause-last
returns-in-Ok-clause-last g c = λ longest ls bytes took at h.
    let line = c.args.line.now in
    let within : length line ≤ c.args.judged = omega (arith, c.if-line-judged.false) in
    let gave = gave_of c.args.n (g.T.LineTaker.command.told ls line) (g.T.LineTaker.command.is_last ls line) c.args.text.now.items c.take_text.new.text.items (g.T.LineTaker.took c.take_text.new.taker (line ∷ ls)) c.in-Ok.field-0 (c.in-Ok.ensures.takes ls took at) in
    last_step g.T.LineTaker.known g.T.LineTaker.command longest c.args.judged ls bytes line c.args.text.now.items c.take_text.new.text.items c.close.new.text.items [] c.close.result (g.T.LineTaker.took c.take_text.new.taker (line ∷ ls))
    (g.met.T.LineTaker.knows c.take_text.new.taker (line ∷ ls) gave.took)
    (last_judged longest c.args.judged bytes line h within).1
    (last_reads g.T.LineTaker.command ls longest c.args.judged bytes line h within)
    gave
    (c.close.ensures.closes (line ∷ ls) gave.took (ap (λ m. m + 1) at ∙ one_line_more line ls))

pub returns-in-Err-clause-last : goal.returns-in-Err-clause-last
returns-in-Err-clause-last g c = λ longest ls bytes took at h.
    let line = c.args.line.now in
    refused_step g.T.LineTaker.known g.T.LineTaker.command longest c.args.judged c.args.n ls bytes line c.args.text.now.items c.take_text.new.text.items (g.T.LineTaker.command.closing (line ∷ ls)) c.in-Err.status (g.T.LineTaker.command.is_last ls line) (g.T.LineTaker.took c.take_text.new.taker (line ∷ ls))
    (g.met.T.LineTaker.knows c.args.taker.now ls took) at
    (last_reads g.T.LineTaker.command ls longest c.args.judged bytes line h (omega (arith, c.if-line-judged.false)))
    (c.in-Err.ensures.takes ls took at)
