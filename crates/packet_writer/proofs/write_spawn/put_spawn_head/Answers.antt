use Rattle.packet_writer.proofs.Puts.{put_spawn_bytes}
use Rattle.packet_writer.proofs.write_spawn.put_spawn_head.Goals as goal

pub returns-clause-put : goal.returns-clause-put
returns-clause-put c =
    let s = c.args.spawn.now in
    put_spawn_bytes c.put_path.result s.scene s.spawner s.net s.syncs.now s.name.now
    c.args.out.now.items c.put_u8.new.out.items c.put_u8-2.new.out.items c.put_u32.new.out.items c.put_u32-2.new.out.items c.put_u32-3.new.out.items c.put_u32-4.new.out.items c.put_ids.new.out.items c.put_path.new.out.items
    c.in_ok-put_u8.ensures c.in_ok-put_u8-2.ensures c.in_ok-put_u32.ensures c.in_ok-put_u32-2.ensures c.in_ok-put_u32-3.ensures c.in_ok-put_u32-4.ensures c.in_ok-put_ids.ensures.put
    c.put_path.ensures.put
