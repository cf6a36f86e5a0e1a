use Rattle.std.proofs.Common.{◌≡◌, ◌+◌, ◌-◌, ◌*◌, ◌<◌, sym, ap, subst, ◌∙◌, true, arith}
use Rattle.std.specs.Option.{option_copied}
use Rattle.headless_tree.specs.Nodes.{live}
use Rattle.scene_model.specs.Syncs.{is_on_change}
use Rattle.delta_props.specs.Telling.{value_of, bit_of}
use Rattle.delta_props.proofs.Masks.{IsMasking, masking_place, masking_on, masking_fits}
use Rattle.delta_props.proofs.telling.untold_mask.Goals as goal

pub overflow_sub-at : goal.overflow_sub-at
overflow_sub-at c = masking_place _ _ c.args.props.now c.args.count c.loop-place.place c.loop-place.at c.loop-place.mask c.index-props-place.result c.loop-place.invariant c.requires.count (omega (arith, c.loop-place-test.true)) c.index-props-place.is (sym c.is_on_change.ensures ∙ c.if-is_on_change.true)

pub loop-place-preserved-then-is_on_change : goal.loop-place-preserved-then-is_on_change
loop-place-preserved-then-is_on_change c =
    let some : 0 < c.loop-place.place = omega (arith, c.loop-place-test.true) in
    let on : is_on_change c.index-props-place.result.mode ≡ true = sym c.is_on_change.ensures ∙ c.if-is_on_change.true in
    let one = masking_place _ _ c.args.props.now c.args.count c.loop-place.place c.loop-place.at c.loop-place.mask c.index-props-place.result c.loop-place.invariant c.requires.count some c.index-props-place.is on in
    subst (λ k. IsMasking (value_of (live c.args.node.now)) (option_copied c.args.told) c.args.props.now c.args.count (c.loop-place.place - 1) (c.loop-place.at - 1) (k + 2 * c.loop-place.mask)) (sym (c.bit.ensures ∙ ap bit_of c.is_untold_now.ensures))
    (masking_on (value_of (live c.args.node.now)) (option_copied c.args.told) c.args.props.now c.args.count c.loop-place.place c.loop-place.at c.loop-place.mask c.index-props-place.result c.loop-place.invariant some one c.index-props-place.is on)

pub overflow_add-mask : goal.overflow_add-mask
overflow_add-mask c =
    let some : 0 < c.loop-place.place = omega (arith, c.loop-place-test.true) in
    let on : is_on_change c.index-props-place.result.mode ≡ true = sym c.is_on_change.ensures ∙ c.if-is_on_change.true in
    let one = masking_place _ _ c.args.props.now c.args.count c.loop-place.place c.loop-place.at c.loop-place.mask c.index-props-place.result c.loop-place.invariant c.requires.count some c.index-props-place.is on in
    let made = masking_on (value_of (live c.args.node.now)) (option_copied c.args.told) c.args.props.now c.args.count c.loop-place.place c.loop-place.at c.loop-place.mask c.index-props-place.result c.loop-place.invariant some one c.index-props-place.is on in
    omega (arith, c.bit.ensures ∙ ap bit_of c.is_untold_now.ensures, masking_fits _ _ _ _ _ _ _ made c.requires.few)

pub overflow_mul-mask : goal.overflow_mul-mask
overflow_mul-mask c =
    let some : 0 < c.loop-place.place = omega (arith, c.loop-place-test.true) in
    let on : is_on_change c.index-props-place.result.mode ≡ true = sym c.is_on_change.ensures ∙ c.if-is_on_change.true in
    let one = masking_place _ _ c.args.props.now c.args.count c.loop-place.place c.loop-place.at c.loop-place.mask c.index-props-place.result c.loop-place.invariant c.requires.count some c.index-props-place.is on in
    let made = masking_on (value_of (live c.args.node.now)) (option_copied c.args.told) c.args.props.now c.args.count c.loop-place.place c.loop-place.at c.loop-place.mask c.index-props-place.result c.loop-place.invariant some one c.index-props-place.is on in
    omega (arith, masking_fits _ _ _ _ _ _ _ made c.requires.few)
