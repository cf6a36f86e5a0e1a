use Rattle.std.proofs.Common.{◌+◌, ◌∙◌, ap, arith}
use Rattle.program_edge.specs.Lines.{Reader, unread}
use Rattle.line_runs.specs.declared.run.Step.TheVariants.{Goes, Ends}
use Rattle.line_runs.proofs.Runs.{kept_broke, kept_first, kept_on, kept_written, says_at, stop_broke, stop_written, unread_fresh}
use Rattle.line_runs.proofs.run.run_lines.Goals as goal

pub loop-left-init : goal.loop-left-init
loop-left-init g c =
    let run = c.in-Ok.run' in
    let numbers = c.in-Ok.ensures.numbers in
    record {
      reads = omega arith;
      writes = omega arith;
      prompt = λ more. c.in-Ok.ensures.text;
      longest = numbers.2;
      kept = λ took input held left put.
          kept_first g.T.LineTaker.command (g.T.LineTaker.took c.args.taker.now) c.args.longest c.args.limit run.judged run.n input held run.text.items (unread run.reader (g.S.Source.left c.args.source.now)) (g.K.Sink.held c.args.sink.now) took numbers.1 numbers.0 c.in-Ok.ensures.text
          (unread_fresh c.args.longest run.reader (g.S.Source.left c.args.source.now) input c.in-Ok.ensures.reader left) put;
    }

pub returns-in-None-clause-output : goal.returns-in-None-clause-output
returns-in-None-clause-output g c = λ took input held left put.
    let run = c.loop-left.run in
    let next = c.take_next.new.run in
    let before = unread run.reader (g.S.Source.left c.loop-left.source) in
    let behind = unread next.reader (g.S.Source.left c.take_next.new.source) in
    stop_written g.T.LineTaker.command (g.T.LineTaker.took c.loop-left.taker) (g.T.LineTaker.took c.take_next.new.taker) g.T.LineTaker.known c.args.longest c.args.limit run.judged run.n input held run.text.items next.text.items c.write_text.new.text.items before behind (g.K.Sink.held c.loop-left.sink) (g.K.Sink.held c.write_text.new.sink) c.write_text.result c.in-Ends.status c.in-None.is (c.write_text.ensures.empties c.in-None.is) c.write_text.ensures.puts
    (c.loop-left.invariant.kept took input held left put)
    (says_at g.T.LineTaker.command (g.T.LineTaker.took c.loop-left.taker) (g.T.LineTaker.took c.take_next.new.taker) g.T.LineTaker.known run.longest c.args.longest run.judged run.n before run.text.items (Ends c.in-Ends.status) next.text.items behind c.loop-left.invariant.longest c.in-Ends.ensures.steps)

pub returns-in-Some-clause-output : goal.returns-in-Some-clause-output
returns-in-Some-clause-output g c = λ took input held left put.
    let run = c.loop-left.run in
    let next = c.take_next.new.run in
    let before = unread run.reader (g.S.Source.left c.loop-left.source) in
    let behind = unread next.reader (g.S.Source.left c.take_next.new.source) in
    stop_broke g.T.LineTaker.command (g.T.LineTaker.took c.loop-left.taker) (g.T.LineTaker.took c.take_next.new.taker) g.T.LineTaker.known c.args.longest c.args.limit run.judged run.n input held run.text.items next.text.items c.write_text.new.text.items before behind (g.K.Sink.held c.loop-left.sink) (g.K.Sink.held c.write_text.new.sink) c.write_text.result c.in-Ends.status c.in-Some.fault c.in-Some.is c.write_text.ensures.puts
    (c.loop-left.invariant.kept took input held left put)
    (says_at g.T.LineTaker.command (g.T.LineTaker.took c.loop-left.taker) (g.T.LineTaker.took c.take_next.new.taker) g.T.LineTaker.known run.longest c.args.longest run.judged run.n before run.text.items (Ends c.in-Ends.status) next.text.items behind c.loop-left.invariant.longest c.in-Ends.ensures.steps)

pub loop-left-preserved : goal.loop-left-preserved
loop-left-preserved g c =
    let run = c.loop-left.run in
    let next = c.take_next.new.run in
    let passed = c.pass.new.self in
    let numbers = c.pass.ensures.numbers in
    let stays = c.write_waiting.ensures.stays in
    let source = g.S.Source.left c.take_next.new.source in
    record {
      reads = omega (arith, c.loop-left.invariant.reads, c.take_next.ensures.reads);
      writes = omega (arith, c.loop-left.invariant.writes, c.write_waiting.ensures.later);
      prompt = c.write_waiting.ensures.prompt c.in-None-write_waiting.is;
      longest = stays.2 ∙ numbers.2 ∙ c.take_next.ensures.stays.2 ∙ c.loop-left.invariant.longest;
      kept = λ took input held left put.
          kept_written g.T.LineTaker.command (g.T.LineTaker.took c.take_next.new.taker) c.args.longest c.args.limit passed.judged c.write_waiting.new.run.judged passed.n c.write_waiting.new.run.n input held passed.text.items c.write_waiting.new.run.text.items (unread passed.reader source) (unread c.write_waiting.new.run.reader source) (g.K.Sink.held c.loop-left.sink) (g.K.Sink.held c.write_waiting.new.sink) c.write_waiting.result stays.1 stays.0 (ap (λ (r : Reader). unread r source) c.write_waiting.ensures.reader) c.in-None-write_waiting.is c.write_waiting.ensures.puts
          (kept_on g.T.LineTaker.command (g.T.LineTaker.took c.loop-left.taker) (g.T.LineTaker.took c.take_next.new.taker) g.T.LineTaker.known c.args.longest c.args.limit run.judged c.in-Goes.left passed.judged run.n passed.n input held run.text.items next.text.items passed.text.items (unread run.reader (g.S.Source.left c.loop-left.source)) (unread next.reader source) (unread passed.reader source) (g.K.Sink.held c.loop-left.sink) numbers.1 (numbers.0 ∙ ap (λ m. m + 1) c.take_next.ensures.stays.0) c.pass.ensures.text (ap (λ (r : Reader). unread r source) c.pass.ensures.reader)
          (says_at g.T.LineTaker.command (g.T.LineTaker.took c.loop-left.taker) (g.T.LineTaker.took c.take_next.new.taker) g.T.LineTaker.known run.longest c.args.longest run.judged run.n (unread run.reader (g.S.Source.left c.loop-left.source)) run.text.items (Goes c.in-Goes.left) next.text.items (unread next.reader source) c.loop-left.invariant.longest c.in-Goes.ensures.steps)
          (c.loop-left.invariant.kept took input held left put));
    }

pub returns-in-Some-write_waiting-clause-output : goal.returns-in-Some-write_waiting-clause-output
returns-in-Some-write_waiting-clause-output g c = λ took input held left put.
    let run = c.loop-left.run in
    let next = c.take_next.new.run in
    let passed = c.pass.new.self in
    let numbers = c.pass.ensures.numbers in
    let source = g.S.Source.left c.take_next.new.source in
    kept_broke g.T.LineTaker.command (g.T.LineTaker.took c.take_next.new.taker) g.T.LineTaker.known c.args.longest c.args.limit passed.judged passed.n input held passed.text.items c.write_waiting.new.run.text.items (unread passed.reader source) (g.K.Sink.held c.loop-left.sink) (g.K.Sink.held c.write_waiting.new.sink) c.write_waiting.result c.in-Some-write_waiting.fault (g.met.T.LineTaker.knows c.take_next.new.taker) c.in-Some-write_waiting.is c.write_waiting.ensures.puts
    (kept_on g.T.LineTaker.command (g.T.LineTaker.took c.loop-left.taker) (g.T.LineTaker.took c.take_next.new.taker) g.T.LineTaker.known c.args.longest c.args.limit run.judged c.in-Goes.left passed.judged run.n passed.n input held run.text.items next.text.items passed.text.items (unread run.reader (g.S.Source.left c.loop-left.source)) (unread next.reader source) (unread passed.reader source) (g.K.Sink.held c.loop-left.sink) numbers.1 (numbers.0 ∙ ap (λ m. m + 1) c.take_next.ensures.stays.0) c.pass.ensures.text (ap (λ (r : Reader). unread r source) c.pass.ensures.reader)
    (says_at g.T.LineTaker.command (g.T.LineTaker.took c.loop-left.taker) (g.T.LineTaker.took c.take_next.new.taker) g.T.LineTaker.known run.longest c.args.longest run.judged run.n (unread run.reader (g.S.Source.left c.loop-left.source)) run.text.items (Goes c.in-Goes.left) next.text.items (unread next.reader source) c.loop-left.invariant.longest c.in-Goes.ensures.steps)
    (c.loop-left.invariant.kept took input held left put))
