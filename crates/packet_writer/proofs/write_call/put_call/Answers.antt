use Rattle.packet_writer.proofs.Puts.{put_call_bytes}
use Rattle.packet_writer.proofs.write_call.put_call.Goals as goal

pub returns-clause-put : goal.returns-clause-put
returns-clause-put c =
    put_call_bytes c.put_target.result c.args.target.now c.args.method c.args.args.now c.head_for-head.result c.call_byte.result c.offset_of-offset.result
    c.args.out.now.items c.put_u8.new.out.items c.put_node.new.out.items c.put_method.new.out.items c.put_args.new.out.items c.put_target.new.out.items
    c.head_for-head.ensures c.call_byte.ensures c.offset_of-offset.ensures
    c.in_ok-put_u8.ensures c.in_ok-put_node.ensures c.in_ok-put_method.ensures c.in_ok-put_args.ensures c.put_target.ensures.put
