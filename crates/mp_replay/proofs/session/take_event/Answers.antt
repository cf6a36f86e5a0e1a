use Rattle.mp_replay.proofs.Given.{acted_takes}
use Rattle.mp_replay.proofs.session.take_event.Goals as goal

pub returns-in-Ok-clause-takes : goal.returns-in-Ok-clause-takes
returns-in-Ok-clause-takes c = λ s holds.
    acted_takes c.args.n s _ c.in_ok-line.line c.args.text.now.items c.act.new.text.items c.in-Ok.behind c.act.new.world c.in_ok-line.ensures.exact (c.in-Ok.ensures.behind s holds) (c.in-Ok.ensures.added s holds) (c.in-Ok.ensures.holds s holds)
