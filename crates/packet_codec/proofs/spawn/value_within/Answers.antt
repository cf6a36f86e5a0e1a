use Rattle.gd_variant.specs.declared.message.Why.TheVariants.{Size}
use Rattle.packet_form.specs.Wholes.{ending_by}
use Rattle.std.proofs.Common.{arith}
use Rattle.packet_form.specs.Reading.{value_at}
use Rattle.packet_codec.proofs.Places.{breaks_inside, only_value_within}
use Rattle.packet_codec.proofs.spawn.value_within.Goals as goal

pub behind-requires-clause-within : goal.behind-requires-clause-within
behind-requires-clause-within c = rw c.in-Err-Fault.field-0-is (breaks_inside (ending_by Size value_at) only_value_within c.args.len c.args.bytes.now c.in_ok-front.front.now c.in_ok-front.after.now c.in-Err-Fault.inside c.in-Err-Fault.field-0 (λ i. omega (arith, c.type_inv.bytes i)) c.in_ok-front.ensures c.in-Err-Fault.field-0-is c.in-Err-Fault.ensures).within

pub behind-requires-clause-front : goal.behind-requires-clause-front
behind-requires-clause-front c = (breaks_inside (ending_by Size value_at) only_value_within c.args.len c.args.bytes.now c.in_ok-front.front.now c.in_ok-front.after.now c.in-Err-Fault.inside c.in-Err-Fault.field-0 (λ i. omega (arith, c.type_inv.bytes i)) c.in_ok-front.ensures c.in-Err-Fault.field-0-is c.in-Err-Fault.ensures).shorter
