use Rattle.std.proofs.Common.{ap, sym, ◌∙◌}
use Rattle.std.proofs.lemmas.Bool.{and_from, and_left, and_right}
use Rattle.gd_variant.specs.declared.value.Variant.TheVariants.{Dict, Array}
use Rattle.gd_variant.specs.Tree.{plain}
use Rattle.sound_check.specs.Fits.{fits}
use Rattle.sound_check.proofs.Parts.{fit_more, fit_stops, fits_array, fits_dict, pair_more, pair_stops}
use Rattle.sound_check.proofs.soundness.+judging.Goals as goal

pub items_fit-returns-then-not-branch : goal.items_fit-returns-then-not-branch
items_fit-returns-then-not-branch t c = fit_stops c.args.items.now c.loop-item.item-index c.item-item.result c.loop-item-test.true c.item-item.is (sym c.in_ok-value_fits.ensures ∙ c.if-not-branch.true)

pub items_fit-loop-item-preserved : goal.items_fit-loop-item-preserved
items_fit-loop-item-preserved t c =
    fit_more c.args.items.now c.loop-item.item-index c.item-item.result c.loop-item-test.true c.item-item.is c.loop-item.invariant (sym c.in_ok-value_fits.ensures ∙ c.if-not-branch.false)

pub pairs_fit-returns-then-not-branch : goal.pairs_fit-returns-then-not-branch
pairs_fit-returns-then-not-branch t c =
    pair_stops c.args.pairs.now c.loop-pair.pair-index c.pair-item.result c.loop-pair-test.true c.pair-item.is
    (and_left (fits (plain c.pair-item.result.key)) (fits (plain c.pair-item.result.value)) (sym c.in_ok-value_fits.ensures ∙ c.if-not-branch.true))

pub pairs_fit-returns-then-not-branch-2 : goal.pairs_fit-returns-then-not-branch-2
pairs_fit-returns-then-not-branch-2 t c =
    pair_stops c.args.pairs.now c.loop-pair.pair-index c.pair-item.result c.loop-pair-test.true c.pair-item.is
    (and_right (fits (plain c.pair-item.result.key)) (fits (plain c.pair-item.result.value)) (sym c.in_ok-value_fits-2.ensures ∙ c.if-not-branch-2.true))

pub pairs_fit-loop-pair-preserved : goal.pairs_fit-loop-pair-preserved
pairs_fit-loop-pair-preserved t c =
    pair_more c.args.pairs.now c.loop-pair.pair-index c.pair-item.result c.loop-pair-test.true c.pair-item.is c.loop-pair.invariant
    (and_from (fits (plain c.pair-item.result.key)) (fits (plain c.pair-item.result.value)) (sym c.in_ok-value_fits.ensures ∙ c.if-not-branch.false) (sym c.in_ok-value_fits-2.ensures ∙ c.if-not-branch-2.false))

pub value_fits-returns-in_ok-inside-in-Dict : goal.value_fits-returns-in_ok-inside-in-Dict
value_fits-returns-in_ok-inside-in-Dict t c = c.in_ok-inside-in-Dict.ensures ∙ fits_dict c.args.value.now c.as_slice.result.now (c.in-Dict.is ∙ ap Dict (sym c.as_slice.ensures))

pub value_fits-returns-in_ok-inside-in-Array : goal.value_fits-returns-in_ok-inside-in-Array
value_fits-returns-in_ok-inside-in-Array t c = c.in_ok-inside-in-Array.ensures ∙ fits_array c.args.value.now c.as_slice-in-Array.result.now (c.in-Array.is ∙ ap Array (sym c.as_slice-in-Array.ensures))
