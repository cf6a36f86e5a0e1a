use Rattle.std.proofs.Common.{◌<◌, ◌≤◌, List, map, length, get_or, sym, ap, subst, ◌∙◌}
use Rattle.std.specs.String.{string_bytes}
use Rattle.scene_model.specs.declared.scene.Node.{Node}
use Rattle.scene_model.specs.declared.scene.Scene.{Scene}
use Rattle.scene_model.specs.declared.scene.SceneDef.{SceneDef}
use Rattle.headless_tree.proofs.Made.{made_fresh, made_more, made_all, made_numbered, made_in_order}
use Rattle.headless_tree.specs.Nodes.{live}
use Rattle.headless_tree.proofs.Fixed.{keeps_new}
use Rattle.headless_tree.proofs.Exact.{only_new}
use Rattle.headless_tree.proofs.tree.Tree.new.Goals as goal

pub put_text-requires-clause-fresh : goal.put_text-requires-clause-fresh
put_text-requires-clause-fresh c =
    let low = subst (λ (ns : List Node). c.loop-at.at < length ns) c.as_slice-node-items.ensures c.loop-at-test.true in
    let is = c.node-item.is ∙ ap (λ (ns : List Node). get_or ns c.loop-at.at c.node-item.result) c.as_slice-node-items.ensures in
    made_fresh string_bytes c.args.scene.now c.loop-at.at c.loop-at.nodes.items c.loop-at.paths.keys c.node-item.result low is c.loop-at.invariant

pub loop-at-preserved : goal.loop-at-preserved
loop-at-preserved c =
    let low = subst (λ (ns : List Node). c.loop-at.at < length ns) c.as_slice-node-items.ensures c.loop-at-test.true in
    let is = c.node-item.is ∙ ap (λ (ns : List Node). get_or ns c.loop-at.at c.node-item.result) c.as_slice-node-items.ensures in
    made_more string_bytes c.args.scene.now c.loop-at.at c.loop-at.nodes.items c.push.new.self.items c.loop-at.paths.keys c.put_text.new.texts.keys c.node-item.result c.in_ok-fixed.field-0 low is c.loop-at.invariant c.in_ok-fixed.ensures c.in_ok-push.ensures.items c.in_ok-put_text.ensures.ok

pub invariant_of-result : goal.invariant_of-result
invariant_of-result c =
    let past = subst (λ (ns : List Node). length ns ≤ c.loop-at.at) c.as_slice-node-items.ensures c.loop-at-test.false in
    let all = made_all string_bytes c.args.scene.now c.loop-at.at c.loop-at.nodes.items c.loop-at.paths.keys past c.loop-at.invariant in (
      c.loop-at.invariant.paths,
      c.loop-at.invariant.once,
      made_numbered string_bytes c.args.scene.now c.loop-at.at c.loop-at.nodes.items c.loop-at.paths.keys c.new-numbers.result c.loop-at.invariant,
      made_in_order string_bytes c.args.scene.now c.loop-at.at c.loop-at.nodes.items c.loop-at.paths.keys c.loop-at.invariant,
      keeps_new c.args.scene.now c.in_ok-scene.scene (map live c.loop-at.nodes.items) c.in_ok-scene.ensures all,
      c.in_ok-scenes.ensures ∙ ap (λ (s : Scene). map (λ (d : SceneDef). d.name) s.scenes) (sym c.in_ok-scene.ensures),
      only_new c.new-numbers.result (map live c.loop-at.nodes.items) c.new-numbers.ensures,
    )
