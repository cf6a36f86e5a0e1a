use Rattle.std.proofs.Common.{arith}
use Rattle.packet_writer.proofs.Puts.{part_short}
use Rattle.packet_writer.proofs.parts.put_parts.Goals as goal

pub put-requires : goal.put-requires
put-requires g c =
    let one = part_short g.T.Writable.written c.args.parts.now c.loop-part.part-index c.part-item.result c.loop-part-test.true c.part-item.is in
    omega (arith, one, c.requires)
