use Rattle.std.proofs.lemmas.Result.{err_from_is_err_and}
use Rattle.line_text.specs.Parts.{i32_read}
use Rattle.line_text.proofs.Each.{reads_fail, reads_on, reads_start}
use Rattle.line_text.proofs.Pushed.{pushed_wide}
use Rattle.line_text.proofs.parts.each_i32_as_i64.Goals as goal

pub loop-item-init : goal.loop-item-init
loop-item-init c = reads_start i32_read c.new-all.result c.args.items.now c.new-all.ensures

pub returns-in_err-n : goal.returns-in_err-n
returns-in_err-n c =
    let p = err_from_is_err_and c.from_residual.result c.from_residual.ensures.1 in
    rw (p.1, p.2) (reads_fail c.in_err-n.field-0.0 i32_read c.loop-item.all c.args.items.now c.loop-item.item-index c.item-item.result c.loop-item-test.true c.item-item.is c.in_err-n.ensures.gives c.loop-item.invariant)

pub loop-item-preserved : goal.loop-item-preserved
loop-item-preserved c =
    reads_on i32_read c.loop-item.all c.push.new.self c.args.items.now c.loop-item.item-index c.item-item.result c.in_ok-n.n c.loop-item-test.true c.item-item.is c.in_ok-n.ensures.gives
    (pushed_wide c.in_ok-n.n c.loop-item.all c.push.new.self c.in_ok-n.ensures.fits c.in_ok-push.ensures.ok) c.loop-item.invariant
