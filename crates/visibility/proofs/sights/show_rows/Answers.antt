use Rattle.std.proofs.Common.{arith}
use Rattle.sight_laws.specs.Sights.{shown_to_new}
use Rattle.visibility.proofs.Fronts.{front_step}
use Rattle.visibility.proofs.sights.show_rows.Goals as goal

pub loop-place-preserved : goal.loop-place-preserved
loop-place-preserved c = front_step (shown_to_new c.args.peer.now) c.args.rows.now.items c.loop-place.rows.items c.loop-place.place c.index_mut.result.now _ (omega (arith, c.loop-place-test.true, c.len-place-end.ensures, c.args.rows.now.ok.0)) c.loop-place.invariant c.index_mut.ensures.value c.in_ok-show_to.ensures
