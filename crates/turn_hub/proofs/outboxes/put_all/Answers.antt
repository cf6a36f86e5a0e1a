use Rattle.std.proofs.Common.{arith}
use Rattle.turn_hub.proofs.Boxes.{put_more}
use Rattle.turn_hub.proofs.outboxes.put_all.Goals as goal

pub loop-count-preserved : goal.loop-count-preserved
loop-count-preserved g c = record {
  within = omega (arith, c.loop-count-test.true);
  apart = c.put.ensures.apart;
  put = put_more g.M.Machine.words c.args.boxes.now.items c.loop-count.boxes.items c.put.new.boxes.items c.args.packets.now c.loop-count.count c.index-packets-count.result c.loop-count-test.true c.index-packets-count.is c.loop-count.invariant.put
      (c.put.ensures.put c.if-not-put.false);
}
