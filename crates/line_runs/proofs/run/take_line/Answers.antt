use Rattle.std.proofs.Common.{◌+◌, ◌-◌, ◌<◌, ◌∷◌, length, ap, ◌∙◌, arith}
use Rattle.program_edge.specs.declared.status.Status.TheVariants as status
use Rattle.line_runs.specs.Output.{behind_line, read_from}
use Rattle.line_runs.proofs.Reading.{fed_judged, fed_late, fed_reads}
use Rattle.line_runs.proofs.Runs.{ends_of, goes_of, line_closes, line_goes, one_line_more, refused_step, stopped_step}
use Rattle.line_runs.proofs.run.take_line.Goals as goal

pub returns-then-line-judged-clause-steps : goal.returns-then-line-judged-clause-steps
returns-then-line-judged-clause-steps g c = λ longest ls bytes rest took at h.
    stopped_step g.T.LineTaker.known g.T.LineTaker.command longest c.args.judged ls bytes _ status.InputLong (g.met.T.LineTaker.knows c.args.taker.now ls took) (fed_late g.T.LineTaker.command ls longest c.args.judged bytes c.args.line.now rest h c.if-line-judged.true)

pub returns-in-Ok-Lines-clause-steps : goal.returns-in-Ok-Lines-clause-steps
returns-in-Ok-Lines-clause-steps g c = λ longest ls bytes rest took at h.
    let line = c.args.line.now in
    let within : length line < c.args.judged = omega (arith, c.if-line-judged.false) in
    line_goes g.T.LineTaker.command (g.T.LineTaker.took c.take_text.new.taker) longest c.args.judged (c.args.judged - (length line + 1)) ls bytes line rest c.args.text.now.items c.take_text.new.text.items
    (fed_judged longest c.args.judged bytes line rest h within)
    (fed_reads g.T.LineTaker.command ls longest c.args.judged bytes line rest h within)
    (goes_of c.args.n (g.T.LineTaker.command.told ls line) (g.T.LineTaker.command.is_last ls line) c.args.text.now.items c.take_text.new.text.items (g.T.LineTaker.took c.take_text.new.taker (line ∷ ls)) c.in-Ok-Lines.field-0 c.in-Ok-Lines.field-0-is (c.in-Ok-Lines.ensures.takes ls took at))

pub returns-in-Ok-End-clause-steps : goal.returns-in-Ok-End-clause-steps
returns-in-Ok-End-clause-steps g c = λ longest ls bytes rest took at h.
    let line = c.args.line.now in
    let within : length line < c.args.judged = omega (arith, c.if-line-judged.false) in
    let ended = ends_of c.args.n (g.T.LineTaker.command.told ls line) (g.T.LineTaker.command.is_last ls line) c.args.text.now.items c.take_text.new.text.items (g.T.LineTaker.took c.take_text.new.taker (line ∷ ls)) c.in-Ok-End.field-0 c.in-Ok-End.field-0-is (c.in-Ok-End.ensures.takes ls took at) in
    line_closes g.T.LineTaker.known g.T.LineTaker.command longest c.args.judged (c.args.judged - (length line + 1)) ls bytes line rest c.args.text.now.items c.take_text.new.text.items c.close.new.text.items c.close.result (g.T.LineTaker.took c.take_text.new.taker (line ∷ ls))
    (g.met.T.LineTaker.knows c.take_text.new.taker (line ∷ ls) ended.1.took)
    (fed_judged longest c.args.judged bytes line rest h within)
    (fed_reads g.T.LineTaker.command ls longest c.args.judged bytes line rest h within)
    ended
    (c.close.ensures.closes (line ∷ ls) ended.1.took (ap (λ m. m + 1) at ∙ one_line_more line ls))

pub returns-in-Err-clause-steps : goal.returns-in-Err-clause-steps
returns-in-Err-clause-steps g c = λ longest ls bytes rest took at h.
    let line = c.args.line.now in
    refused_step g.T.LineTaker.known g.T.LineTaker.command longest c.args.judged c.args.n ls bytes line c.args.text.now.items c.take_text.new.text.items (behind_line g.T.LineTaker.command ls line (read_from g.T.LineTaker.command longest (c.args.judged - (length line + 1)) (line ∷ ls) rest)) c.in-Err.status (g.T.LineTaker.command.is_last ls line) (g.T.LineTaker.took c.take_text.new.taker (line ∷ ls))
    (g.met.T.LineTaker.knows c.args.taker.now ls took) at
    (fed_reads g.T.LineTaker.command ls longest c.args.judged bytes line rest h (omega (arith, c.if-line-judged.false)))
    (c.in-Err.ensures.takes ls took at)
