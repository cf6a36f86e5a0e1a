use Rattle.std.proofs.Common.{arith}
use Rattle.mp_world.proofs.Puts.{put_step}
use Rattle.mp_world.proofs.client.put_packets.Goals as goal

pub loop-place-preserved : goal.loop-place-preserved
loop-place-preserved c =
    put_step c.args.packets.now c.args.clients.now.items c.loop-place.clients.items c.loop-place.place c.index_mut.result.now _ (omega (arith, c.loop-place-test.true, c.len-place-end.ensures, c.args.clients.now.ok.0)) c.loop-place.invariant c.index_mut.ensures.value c.in_ok-put_down.ensures
