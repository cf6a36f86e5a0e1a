use Rattle.std.proofs.Common.{arith}
use Rattle.packet_form.specs.Reading.{value_at}
use Rattle.packet_codec.proofs.Places.{gives_shorter, value_goes}
use Rattle.packet_codec.proofs.fields.VariantReadable.from_bytes.Goals as goal

pub returns-clause-shorter : goal.returns-clause-shorter
returns-clause-shorter c = gives_shorter value_at value_goes c.value_from.result c.args.bytes.now (λ i. omega (arith, c.type_inv.bytes i)) c.value_from.ensures
