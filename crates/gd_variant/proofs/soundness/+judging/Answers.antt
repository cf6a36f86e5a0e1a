use Rattle.std.proofs.Common.{◌&&◌, ap, sym, ◌∙◌}
use Rattle.std.proofs.lemmas.Bool.{and_from, and_left, and_right}
use Rattle.gd_variant.specs.declared.value.Variant.TheVariants.{Dict, Array}
use Rattle.gd_variant.specs.Tree.{plain, plain_pairs}
use Rattle.gd_variant.specs.Sound.{is_right, are_right, keys_distinct}
use Rattle.gd_variant.proofs.Judged.{right_more, right_stops, right_pair_more, right_pair_stops, right_dict, right_array}
use Rattle.gd_variant.proofs.soundness.+judging.Goals as goal

pub are_right_items-returns-then-not-is_right_value : goal.are_right_items-returns-then-not-is_right_value
are_right_items-returns-then-not-is_right_value t c =
    right_stops c.args.items.now c.loop-item.item-index c.item-item.result c.loop-item-test.true c.item-item.is (sym c.is_right_value.ensures ∙ c.if-not-is_right_value.true)

pub are_right_items-loop-item-preserved : goal.are_right_items-loop-item-preserved
are_right_items-loop-item-preserved t c =
    right_more c.args.items.now c.loop-item.item-index c.item-item.result c.loop-item-test.true c.item-item.is c.loop-item.invariant (sym c.is_right_value.ensures ∙ c.if-not-is_right_value.false)

pub is_right_value-returns-in-Array : goal.is_right_value-returns-in-Array
is_right_value-returns-in-Array t c =
    c.are_right_items.ensures ∙ sym (right_array c.args.value.now c.as_slice.result.now (c.in-Array.is ∙ ap Array (sym c.as_slice.ensures)))

pub are_right_pairs-returns-then-not-is_right_value : goal.are_right_pairs-returns-then-not-is_right_value
are_right_pairs-returns-then-not-is_right_value t c =
    right_pair_stops c.args.pairs.now c.loop-pair.pair-index c.pair-item.result c.loop-pair-test.true c.pair-item.is
    (and_left (is_right (plain c.pair-item.result.key)) (is_right (plain c.pair-item.result.value)) (sym c.is_right_value.ensures ∙ c.if-not-is_right_value.true))

pub are_right_pairs-returns-then-not-is_right_value-2 : goal.are_right_pairs-returns-then-not-is_right_value-2
are_right_pairs-returns-then-not-is_right_value-2 t c =
    right_pair_stops c.args.pairs.now c.loop-pair.pair-index c.pair-item.result c.loop-pair-test.true c.pair-item.is
    (and_right (is_right (plain c.pair-item.result.key)) (is_right (plain c.pair-item.result.value)) (sym c.is_right_value-in-loop-pair.ensures ∙ c.if-not-is_right_value-2.true))

pub are_right_pairs-loop-pair-preserved : goal.are_right_pairs-loop-pair-preserved
are_right_pairs-loop-pair-preserved t c =
    right_pair_more c.args.pairs.now c.loop-pair.pair-index c.pair-item.result c.loop-pair-test.true c.pair-item.is c.loop-pair.invariant
    (and_from (is_right (plain c.pair-item.result.key)) (is_right (plain c.pair-item.result.value)) (sym c.is_right_value.ensures ∙ c.if-not-is_right_value.false) (sym c.is_right_value-in-loop-pair.ensures ∙ c.if-not-is_right_value-2.false))

pub is_right_value-returns-then-not-are_distinct : goal.is_right_value-returns-then-not-are_distinct
is_right_value-returns-then-not-are_distinct t c =
    let ps = c.as_slice-pairs.result.now in
    sym (and_left (keys_distinct (plain_pairs ps)) (are_right (plain_pairs ps)) (sym c.are_distinct.ensures ∙ c.if-not-are_distinct.true))
    ∙ sym (right_dict c.args.value.now ps (c.in-Dict.is ∙ ap Dict (sym c.as_slice-pairs.ensures)))

pub is_right_value-returns-else-not-are_distinct : goal.is_right_value-returns-else-not-are_distinct
is_right_value-returns-else-not-are_distinct t c =
    let ps = c.as_slice-pairs.result.now in
    c.are_right_pairs.ensures ∙ ap (λ b. b && are_right (plain_pairs ps)) (sym (sym c.are_distinct.ensures ∙ c.if-not-are_distinct.false))
    ∙ sym (right_dict c.args.value.now ps (c.in-Dict.is ∙ ap Dict (sym c.as_slice-pairs.ensures)))
