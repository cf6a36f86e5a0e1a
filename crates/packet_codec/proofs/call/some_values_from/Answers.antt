use Rattle.std.proofs.Common.{[]}
use Rattle.variant_codec.proofs.Loop.{goes_on}
use Rattle.packet_form.specs.Reading.{value_at}
use Rattle.packet_codec.proofs.call.some_values_from.Goals as goal

pub loop-preserved : goal.loop-preserved
loop-preserved c =
    goes_on (λ _. value_at) c.loop.values c.push.new.self c.args.count c.loop.counter c.loop.rest.now c.in_ok-value.value c.in_ok-value.after.now [] c.args.bytes.now c.loop-test.true c.in_ok-value.ensures c.in_ok-push.ensures.ok c.loop.invariant
