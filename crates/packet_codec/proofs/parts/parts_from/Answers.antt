use Rattle.std.proofs.Common.{length}
use Rattle.std.proofs.lemmas.Result.{err_from_is_err_and}
use Rattle.packet_form.specs.Wholes.{filling_by}
use Rattle.packet_codec.proofs.Filling.{fills_on, fills_end, fills_done, some_left, none_left}
use Rattle.packet_codec.proofs.parts.parts_from.Goals as goal

pub returns-in_err-part : goal.returns-in_err-part
returns-in_err-part g c =
    let p = err_from_is_err_and c.from_residual.result c.from_residual.ensures.1 in
    rw (p.1, p.2) (fills_end c.in_err-part.field-0.0 g.T.Readable.reading c.loop-rest.parts c.loop-rest.rest.now (filling_by g.T.Readable.reading (length c.args.bytes.now) c.args.bytes.now) (some_left c.loop-rest.rest.now c.loop-rest-test.ensures) c.in_err-part.ensures.read c.loop-rest.invariant)

pub loop-rest-preserved : goal.loop-rest-preserved
loop-rest-preserved g c =
    fills_on g.T.Readable.reading c.loop-rest.parts c.push.new.self c.loop-rest.rest.now c.in_ok-part.part c.in_ok-part.after.now (filling_by g.T.Readable.reading (length c.args.bytes.now) c.args.bytes.now)
    c.in_ok-part.ensures.shorter c.in_ok-part.ensures.read c.in_ok-push.ensures.ok c.loop-rest.invariant

pub returns : goal.returns
returns g c =
    fills_done g.T.Readable.reading c.loop-rest.parts c.loop-rest.rest.now (filling_by g.T.Readable.reading (length c.args.bytes.now) c.args.bytes.now) (none_left c.loop-rest.rest.now c.loop-rest-test.ensures) c.loop-rest.invariant
