use Rattle.std.proofs.lemmas.Result.{err_from_is_err_and}
use Rattle.line_text.proofs.Each.{reads_fail, reads_on, reads_start}
use Rattle.line_text.proofs.lists.each.Goals as goal

pub loop-item-init : goal.loop-item-init
loop-item-init g c = reads_start g.T.FromValue.reading c.new-all.result c.args.items.now c.new-all.ensures

pub returns-in_err-one : goal.returns-in_err-one
returns-in_err-one g c =
    let p = err_from_is_err_and c.from_residual.result c.from_residual.ensures.1 in
    rw (p.1, p.2) (reads_fail c.in_err-one.field-0.0 g.T.FromValue.reading c.loop-item.all c.args.items.now c.loop-item.item-index c.item-item.result c.loop-item-test.true c.item-item.is c.in_err-one.ensures c.loop-item.invariant)

pub loop-item-preserved : goal.loop-item-preserved
loop-item-preserved g c =
    reads_on g.T.FromValue.reading c.loop-item.all c.push.new.self c.args.items.now c.loop-item.item-index c.item-item.result c.in_ok-one.one c.loop-item-test.true c.item-item.is c.in_ok-one.ensures c.in_ok-push.ensures.ok c.loop-item.invariant
