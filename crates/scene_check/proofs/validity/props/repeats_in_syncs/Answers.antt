use Rattle.std.proofs.Common.{◌||◌, ◌+◌, sym, ap, ◌∙◌, map, drop}
use Rattle.std.specs.Prelude.{flat_map}
use Rattle.std.specs.List.{list_any}
use Rattle.scene_model.specs.declared.scene.SyncProp.{SyncProp}
use Rattle.scene_model.specs.Valid.{has_twice, synced, shares_prop}
use Rattle.std.proofs.lemmas.List.{take_rest}
use Rattle.scene_check.proofs.RepeatLaws.{syncs_left, first_true, second_true, third_left}
use Rattle.scene_check.proofs.validity.props.repeats_in_syncs.Goals as goal

pub returns-then-repeats_synced : goal.returns-then-repeats_synced
returns-then-repeats_synced c =
    let ds = c.args.syncs.now in
    let d = c.index-syncs-at.result in
    let e = syncs_left ds c.loop-at.at d (has_twice (flat_map synced ds)) c.loop-at-test.true c.index-syncs-at.is c.loop-at.invariant in
    first_true (has_twice (synced d)) (list_any (shares_prop d) (drop (c.loop-at.at + 1) ds) || has_twice (flat_map synced (drop (c.loop-at.at + 1) ds))) (has_twice (flat_map synced ds)) e
    (ap (λ ps. has_twice (map (λ (p : SyncProp). p.prop) ps)) (sym c.as_slice.ensures) ∙ sym c.repeats_synced.ensures ∙ c.if-repeats_synced.true)

pub returns-then-shares_with_any : goal.returns-then-shares_with_any
returns-then-shares_with_any c =
    let ds = c.args.syncs.now in
    let d = c.index-syncs-at.result in
    let e = syncs_left ds c.loop-at.at d (has_twice (flat_map synced ds)) c.loop-at-test.true c.index-syncs-at.is c.loop-at.invariant in
    second_true (has_twice (synced d)) (list_any (shares_prop d) (drop (c.loop-at.at + 1) ds)) (has_twice (flat_map synced (drop (c.loop-at.at + 1) ds))) (has_twice (flat_map synced ds)) e
    (ap (λ ps. has_twice (map (λ (p : SyncProp). p.prop) ps)) (sym c.as_slice.ensures) ∙ sym c.repeats_synced.ensures ∙ c.if-repeats_synced.false)
    (ap (list_any (shares_prop d)) (sym (take_rest ds (c.loop-at.at + 1))) ∙ sym c.shares_with_any.ensures ∙ c.if-shares_with_any.true)

pub loop-at-preserved : goal.loop-at-preserved
loop-at-preserved c =
    let ds = c.args.syncs.now in
    let d = c.index-syncs-at.result in
    let e = syncs_left ds c.loop-at.at d (has_twice (flat_map synced ds)) c.loop-at-test.true c.index-syncs-at.is c.loop-at.invariant in
    third_left (has_twice (synced d)) (list_any (shares_prop d) (drop (c.loop-at.at + 1) ds)) (has_twice (flat_map synced (drop (c.loop-at.at + 1) ds))) (has_twice (flat_map synced ds)) e
    (ap (λ ps. has_twice (map (λ (p : SyncProp). p.prop) ps)) (sym c.as_slice.ensures) ∙ sym c.repeats_synced.ensures ∙ c.if-repeats_synced.false)
    (ap (list_any (shares_prop d)) (sym (take_rest ds (c.loop-at.at + 1))) ∙ sym c.shares_with_any.ensures ∙ c.if-shares_with_any.false)
