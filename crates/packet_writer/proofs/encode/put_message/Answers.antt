use Rattle.std.proofs.Common.{◌≡◌, ℕ, List, ◌++◌, subst, sym}
use Rattle.std.specs.Prelude.{OnOk}
use Rattle.gd_variant.specs.declared.message.Message.{Message}
use Rattle.packet_form.specs.Written.{written_plain, written_packet}
use Rattle.packet_writer.proofs.Puts.{put_payload}
use Rattle.packet_writer.proofs.encode.put_message.Goals as goal

pub returns-in_ok-put_system-in-Auth-clause-put : goal.returns-in_ok-put_system-in-Auth-clause-put
returns-in_ok-put_system-in-Auth-clause-put c =
    subst (λ (m : Message). OnOk c.put_bytes.result (c.put_bytes.new.out.items ≡ c.args.out.now.items ++ written_packet m)) (sym c.in-Auth.is)
    (put_payload c.put_bytes.result 0 c.in-Auth.peer c.in-Auth.bytes c.args.out.now.items c.put_system.new.out.items c.put_bytes.new.out.items c.in_ok-put_system-in-Auth.ensures.put
    (subst (λ (b : List ℕ). OnOk c.put_bytes.result (c.put_bytes.new.out.items ≡ c.put_system.new.out.items ++ b)) c.as_slice.ensures c.put_bytes.ensures))

pub returns-in_ok-put_system-in-Relay-clause-put : goal.returns-in_ok-put_system-in-Relay-clause-put
returns-in_ok-put_system-in-Relay-clause-put c =
    subst (λ (m : Message). OnOk c.put_plain-in-Relay.result (c.put_plain-in-Relay.new.out.items ≡ c.args.out.now.items ++ written_packet m)) (sym c.in-Relay.is)
    (put_payload c.put_plain-in-Relay.result 3 c.in-Relay.peer (written_plain c.in-Relay.inner) c.args.out.now.items c.put_system-in-Relay.new.out.items c.put_plain-in-Relay.new.out.items c.in_ok-put_system-in-Relay.ensures.put c.put_plain-in-Relay.ensures.put)
