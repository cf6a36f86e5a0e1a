use Rattle.std.proofs.Common.{sym, ◌∙◌}
use Rattle.gd_variant.specs.Tree.{plain}
use Rattle.variant_codec.proofs.NewKeys.{not_new}
use Rattle.variant_codec.proofs.reading.is_new.Goals as goal

pub returns-then-same : goal.returns-then-same
returns-then-same c = not_new (plain c.args.key.now) c.args.pairs.now c.loop-pair.pair-index c.pair-item.result c.loop-pair-test.true c.pair-item.is (sym c.same.ensures.value ∙ c.if-same.true)
