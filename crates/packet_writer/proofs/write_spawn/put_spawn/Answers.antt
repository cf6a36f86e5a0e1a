use Rattle.packet_form.specs.Written.{written_values, arg_bytes}
use Rattle.packet_writer.proofs.Puts.{put_spawn_tail}
use Rattle.packet_writer.proofs.write_spawn.put_spawn.Goals as goal

pub returns-clause-put : goal.returns-clause-put
returns-clause-put c =
    let s = c.args.spawn.now in
    put_spawn_tail c.put_values.result s.scene s.spawner s.net s.syncs.now s.name.now (arg_bytes s.arg.now) (written_values s.values.now)
    c.args.out.now.items c.put_spawn_head.new.out.items c.put_arg.new.out.items c.put_values.new.out.items
    c.in_ok-put_spawn_head.ensures.put c.in_ok-put_arg.ensures c.put_values.ensures
