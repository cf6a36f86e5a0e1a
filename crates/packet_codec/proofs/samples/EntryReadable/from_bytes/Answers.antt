use Rattle.std.proofs.Common.{arith}
use Rattle.packet_form.specs.Reading.{entry_at}
use Rattle.packet_codec.proofs.Places.{gives_shorter, entry_goes}
use Rattle.packet_codec.proofs.samples.EntryReadable.from_bytes.Goals as goal

pub returns-clause-shorter : goal.returns-clause-shorter
returns-clause-shorter c = gives_shorter entry_at entry_goes c.entry_from.result c.args.bytes.now (λ i. omega (arith, c.type_inv.bytes i)) c.entry_from.ensures
