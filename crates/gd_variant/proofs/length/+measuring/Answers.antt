use Rattle.std.proofs.Common.{ap, ◌∙◌, sym, arith}
use Rattle.gd_variant.specs.declared.value.Variant.TheVariants.{Dict, Array}
use Rattle.gd_variant.proofs.Sizes.{size_more, size_pair_more, size_dict, size_array}
use Rattle.gd_variant.proofs.length.+measuring.Goals as goal

pub items_within-loop-item-preserved : goal.items_within-loop-item-preserved
items_within-loop-item-preserved t c =
    omega (arith, size_more c.args.items.now c.loop-item.item-index c.item-item.result c.loop-item-test.true c.item-item.is)

pub pairs_within-loop-pair-preserved : goal.pairs_within-loop-pair-preserved
pairs_within-loop-pair-preserved t c =
    omega (arith, size_pair_more c.args.pairs.now c.loop-pair.pair-index c.pair-item.result c.loop-pair-test.true c.pair-item.is)

pub size_within-returns-else-limit-le8 : goal.size_within-returns-else-limit-le8
size_within-returns-else-limit-le8 t c =
    omega (arith, size_dict c.args.value.now c.as_slice.result.now (c.in-Dict.is ∙ ap Dict (sym c.as_slice.ensures)))

pub size_within-returns-else-limit-le8-2 : goal.size_within-returns-else-limit-le8-2
size_within-returns-else-limit-le8-2 t c =
    omega (arith, size_array c.args.value.now c.as_slice-in-Array.result.now (c.in-Array.is ∙ ap Array (sym c.as_slice-in-Array.ensures)))
