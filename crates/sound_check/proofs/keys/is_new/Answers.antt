use Rattle.std.proofs.Common.{sym, ◌∙◌}
use Rattle.gd_variant.specs.Tree.{plain}
use Rattle.gd_variant.proofs.Judged.{new_more, new_stops}
use Rattle.sound_check.proofs.keys.is_new.Goals as goal

pub returns-then-same : goal.returns-then-same
returns-then-same c = new_stops (plain c.args.key.now) c.args.pairs.now c.loop-pair.pair-index c.pair-item.result c.loop-pair-test.true c.pair-item.is (sym c.same.ensures.value ∙ c.if-same.true)

pub loop-pair-preserved : goal.loop-pair-preserved
loop-pair-preserved c = new_more (plain c.args.key.now) c.args.pairs.now c.loop-pair.pair-index c.pair-item.result c.loop-pair-test.true c.pair-item.is c.loop-pair.invariant (sym c.same.ensures.value ∙ c.if-same.false)
