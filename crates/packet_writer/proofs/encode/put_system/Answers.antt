use Rattle.packet_writer.proofs.Puts.{put_system_bytes}
use Rattle.packet_writer.proofs.encode.put_system.Goals as goal

pub returns-clause-put : goal.returns-clause-put
returns-clause-put c =
    put_system_bytes c.put_peer.result c.args.sub c.args.peer.now c.args.out.now.items c.put_u8.new.out.items c.put_u8-2.new.out.items c.put_peer.new.out.items c.in_ok-put_u8.ensures c.in_ok-put_u8-2.ensures c.put_peer.ensures.put
