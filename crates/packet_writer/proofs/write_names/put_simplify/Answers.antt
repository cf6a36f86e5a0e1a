use Rattle.packet_form.specs.Written.{simplify_bytes}
use Rattle.packet_writer.proofs.Puts.{put_five}
use Rattle.packet_writer.proofs.write_names.put_simplify.Goals as goal

pub returns-clause-put : goal.returns-clause-put
unfolding simplify_bytes
returns-clause-put c =
    put_five c.put_path.result c.args.out.now.items c.put_u8.new.out.items c.put_digest.new.out.items c.put_u8-2.new.out.items c.put_u32.new.out.items c.put_path.new.out.items _ _ _ _ _
    c.in_ok-put_u8.ensures c.in_ok-put_digest.ensures.put c.in_ok-put_u8-2.ensures c.in_ok-put_u32.ensures c.put_path.ensures.put
