use Rattle.std.proofs.Common.{subst, sym, ◌≡◌}
use Rattle.program_edge.specs.Lines.{first_line, last_line, unread}
use Rattle.line_runs.proofs.Reading.{end_reads}
use Rattle.line_runs.proofs.Runs.{closing_step, end_found, fed_found, fed_steps, last_found, long_found, stopped_step, unread_step}
use Rattle.line_runs.proofs.run.take_next.Goals as goal

pub returns-in-Ok-Line-clause-steps : goal.returns-in-Ok-Line-clause-steps
returns-in-Ok-Line-clause-steps g c = λ ls bytes took at left.
    let run = c.args.run.now in
    fed_steps g.T.LineTaker.command (g.T.LineTaker.took c.take_line.new.taker) g.T.LineTaker.known run.longest run.judged ls bytes c.in-Ok-Line.line c.as_slice.result.now run.text.items c.take_line.new.text.items c.take_line.result (unread c.next.new.self (g.S.Source.left c.next.new.source)) c.as_slice.ensures
    (fed_found run.reader.most run.longest bytes c.in-Ok-Line.line c.in-Ok-Line.field-0 (unread c.next.new.self (g.S.Source.left c.next.new.source)) run.most c.in-Ok-Line.field-0-is (c.in-Ok-Line.ensures.line bytes left))
    (λ rest f. c.take_line.ensures.steps run.longest ls bytes rest took at f)

pub returns-in-Ok-Last-clause-steps : goal.returns-in-Ok-Last-clause-steps
returns-in-Ok-Last-clause-steps g c = λ ls bytes took at left.
    let run = c.args.run.now in
    c.take_last.ensures.last run.longest ls bytes took at
    (subst (λ x. first_line run.longest bytes ≡ last_line x) (sym c.as_slice-in-Ok-Last.ensures) (last_found run.reader.most run.longest bytes c.in-Ok-Last.line c.in-Ok-Last.field-0 (unread c.next.new.self (g.S.Source.left c.next.new.source)) run.most c.in-Ok-Last.field-0-is (c.in-Ok-Last.ensures.line bytes left)))

pub returns-in-Ok-Long-clause-steps : goal.returns-in-Ok-Long-clause-steps
returns-in-Ok-Long-clause-steps g c = λ ls bytes took at left.
    let run = c.args.run.now in
    stopped_step g.T.LineTaker.known g.T.LineTaker.command run.longest run.judged ls bytes run.text.items c.long_end.result (g.met.T.LineTaker.knows c.args.taker.now ls took)
    (c.long_end.ensures.long g.T.LineTaker.command ls bytes at (long_found run.reader.most run.longest bytes c.in-Ok-Long.field-0 (unread c.next.new.self (g.S.Source.left c.next.new.source)) run.most c.in-Ok-Long.field-0-is (c.in-Ok-Long.ensures.line bytes left)))

pub returns-in-Ok-End-clause-steps : goal.returns-in-Ok-End-clause-steps
returns-in-Ok-End-clause-steps g c = λ ls bytes took at left.
    let run = c.args.run.now in
    closing_step g.T.LineTaker.known g.T.LineTaker.command run.longest run.judged ls bytes run.text.items c.close.new.text.items c.close.result (g.met.T.LineTaker.knows c.args.taker.now ls took)
    (end_reads g.T.LineTaker.command ls run.longest run.judged bytes (end_found run.reader.most run.longest bytes c.in-Ok-End.field-0 (unread c.next.new.self (g.S.Source.left c.next.new.source)) run.most c.in-Ok-End.field-0-is (c.in-Ok-End.ensures.line bytes left)))
    (c.close.ensures.closes ls took at)

pub returns-in-Err-clause-steps : goal.returns-in-Err-clause-steps
returns-in-Err-clause-steps g c = λ ls bytes took at left.
    let run = c.args.run.now in
    unread_step g.T.LineTaker.known g.T.LineTaker.command run.longest run.judged ls bytes run.text.items c.read_status.result c.in-Err.stop c.read_status.ensures (g.met.T.LineTaker.knows c.args.taker.now ls took)
