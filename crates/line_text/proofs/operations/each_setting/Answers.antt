use Rattle.std.proofs.lemmas.Result.{err_from_is_err_and}
use Rattle.gd_variant.specs.Sound.{is_text, is_sound}
use Rattle.line_text.specs.Operations.{setting_read}
use Rattle.line_text.proofs.Each.{reads_fail, reads_on, reads_start}
use Rattle.line_text.proofs.Held.{all_none, all_on}
use Rattle.line_text.proofs.operations.each_setting.Goals as goal

pub loop-item-init : goal.loop-item-init
loop-item-init c = (
  reads_start setting_read c.new-all.result c.args.items.now c.new-all.ensures,
  all_none is_text (λ p. p.name) c.new-all.result c.new-all.ensures,
  all_none is_sound (λ p. p.value) c.new-all.result c.new-all.ensures,
)

pub returns-in_err-setting-clause-gives : goal.returns-in_err-setting-clause-gives
returns-in_err-setting-clause-gives c =
    let p = err_from_is_err_and c.from_residual.result c.from_residual.ensures.1 in
    rw (p.1, p.2) (reads_fail c.in_err-setting.field-0.0 setting_read c.loop-item.all c.args.items.now c.loop-item.item-index c.item-item.result c.loop-item-test.true c.item-item.is c.in_err-setting.ensures.gives c.loop-item.invariant.0)

pub loop-item-preserved : goal.loop-item-preserved
loop-item-preserved c =
    let invariant = c.loop-item.invariant in
    let push = c.in_ok-push.ensures.ok in
    let setting = c.in_ok-setting.setting in (
      reads_on setting_read c.loop-item.all c.push.new.self c.args.items.now c.loop-item.item-index c.item-item.result setting c.loop-item-test.true c.item-item.is c.in_ok-setting.ensures.gives push invariant.0,
      all_on is_text (λ p. p.name) c.loop-item.all c.push.new.self setting push c.in_ok-setting.ensures.name invariant.1,
      all_on is_sound (λ p. p.value) c.loop-item.all c.push.new.self setting push c.in_ok-setting.ensures.value invariant.2,
    )
