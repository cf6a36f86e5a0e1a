use Rattle.peer_steps.proofs.Numbering.{count_step}
use Rattle.spawn_track.proofs.making.ids_from.Goals as goal

pub loop-def-preserved : goal.loop-def-preserved
loop-def-preserved c = count_step c.args.first c.loop-def._def-index c.loop-def.next c.args.defs.now c.loop-def.ids c.push.new.self c.loop-def-test.true c.loop-def.invariant.0 c.loop-def.invariant.1 c.in_ok-push.ensures.ok
