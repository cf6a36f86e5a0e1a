use Rattle.std.proofs.Common.{[]}
use Rattle.std.specs.Int.{w32}
use Rattle.variant_codec.specs.Reading.{short_at}
use Rattle.variant_codec.proofs.Loop.{goes_on}
use Rattle.variant_codec.proofs.Pushed.{pushed}
use Rattle.variant_codec.proofs.parts.vector_of.Goals as goal

pub loop-preserved : goal.loop-preserved
loop-preserved c =
    goes_on (λ _. short_at) c.loop.items c.push.new.self c.args.count c.loop.counter c.loop.rest.now c.in_ok-item.item c.in_ok-item.after.now [] c.args.bytes.now c.loop-test.true c.in_ok-item.ensures.gives
    (pushed w32 c.in_ok-item.item c.loop.items c.push.new.self c.in_ok-item.ensures.fits c.in_ok-push.ensures.ok) c.loop.invariant
