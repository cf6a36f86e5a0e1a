use Rattle.std.proofs.Common.{arith}
use Rattle.packet_form.specs.Reading.{delta_entry_at}
use Rattle.packet_codec.proofs.Places.{gives_shorter, delta_entry_goes}
use Rattle.packet_codec.proofs.samples.DeltaEntryReadable.from_bytes.Goals as goal

pub returns-clause-shorter : goal.returns-clause-shorter
returns-clause-shorter c = gives_shorter delta_entry_at delta_entry_goes c.delta_entry_from.result c.args.bytes.now (λ i. omega (arith, c.type_inv.bytes i)) c.delta_entry_from.ensures
