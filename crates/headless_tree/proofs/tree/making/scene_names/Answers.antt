use Rattle.std.proofs.Common.{◌<◌, ◌≤◌, List, length, get_or, ap, subst, ◌∙◌}
use Rattle.std.specs.String.{string_bytes}
use Rattle.scene_model.specs.declared.scene.SceneDef.{SceneDef}
use Rattle.headless_tree.proofs.Named.{named_fresh, named_more, named_all}
use Rattle.headless_tree.proofs.tree.making.scene_names.Goals as goal

pub put_text-requires-clause-fresh : goal.put_text-requires-clause-fresh
put_text-requires-clause-fresh c =
    let low = subst (λ (ds : List SceneDef). c.loop-at.at < length ds) c.as_slice-def-items.ensures c.loop-at-test.true in
    let is = c.def-item.is ∙ ap (λ (ds : List SceneDef). get_or ds c.loop-at.at c.def-item.result) c.as_slice-def-items.ensures in
    named_fresh string_bytes c.args.scene.now c.loop-at.at c.loop-at.names.keys c.def-item.result low is c.loop-at.invariant

pub loop-at-preserved : goal.loop-at-preserved
loop-at-preserved c =
    let low = subst (λ (ds : List SceneDef). c.loop-at.at < length ds) c.as_slice-def-items.ensures c.loop-at-test.true in
    let is = c.def-item.is ∙ ap (λ (ds : List SceneDef). get_or ds c.loop-at.at c.def-item.result) c.as_slice-def-items.ensures in
    named_more string_bytes c.args.scene.now c.loop-at.at c.loop-at.names.keys c.put_text.new.texts.keys c.def-item.result low is c.loop-at.invariant c.in_ok-put_text.ensures.ok

pub returns : goal.returns
returns c =
    let past = subst (λ (ds : List SceneDef). length ds ≤ c.loop-at.at) c.as_slice-def-items.ensures c.loop-at-test.false in
    named_all string_bytes c.args.scene.now c.loop-at.at c.loop-at.names.keys past c.loop-at.invariant
