use Rattle.std.proofs.Common.{[]}
use Rattle.std.specs.Int.{w32}
use Rattle.std.proofs.lemmas.Result.{err_from_is_err_and}
use Rattle.byte_fields.specs.Fields.{number_at}
use Rattle.variant_codec.proofs.Loop.{goes_on, ends}
use Rattle.packet_form.specs.Reading.{ids_at}
use Rattle.packet_codec.proofs.fields.ids_from.Goals as goal

pub returns-in_err-id : goal.returns-in_err-id
unfolding ids_at
returns-in_err-id c =
    let p = err_from_is_err_and c.from_residual.result c.from_residual.ensures.1 in
    rw (p.1, p.2) (ends c.in_err-id.field-0.0 (λ _. number_at w32) c.loop.ids c.args.count c.loop.counter c.loop.rest.now [] c.args.bytes.now c.loop-test.true c.in_err-id.ensures c.loop.invariant)

pub loop-preserved : goal.loop-preserved
loop-preserved c =
    goes_on (λ _. number_at w32) c.loop.ids c.push.new.self c.args.count c.loop.counter c.loop.rest.now c.in_ok-id.id c.in_ok-id.after.now [] c.args.bytes.now c.loop-test.true c.in_ok-id.ensures c.in_ok-push.ensures.ok c.loop.invariant
