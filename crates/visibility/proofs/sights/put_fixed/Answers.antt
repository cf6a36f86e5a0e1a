use Rattle.std.proofs.Common.{arith}
use Rattle.visibility.specs.Settings.{change_of, fixed_set}
use Rattle.visibility.proofs.Fronts.{front_step}
use Rattle.visibility.proofs.sights.put_fixed.Goals as goal

pub loop-place-preserved : goal.loop-place-preserved
loop-place-preserved c = front_step (fixed_set c.args.path.now (change_of c.args.setting.now).change) c.args.fixed.now.items c.loop-place.fixed.items c.loop-place.place c.index_mut.result.now _ (omega (arith, c.loop-place-test.true, c.len-place-end.ensures, c.args.fixed.now.ok.0)) c.loop-place.invariant c.index_mut.ensures.value c.in_ok-put_where.ensures
