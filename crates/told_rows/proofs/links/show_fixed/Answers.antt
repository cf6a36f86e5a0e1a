use Rattle.std.proofs.Common.{◌≡◌, ◌<◌, List, ap, ◌∙◌, length, get_or, arith}
use Rattle.scene_model.specs.declared.scene.Node.{Node}
use Rattle.scene_model.specs.declared.scene.Scene.{Scene}
use Rattle.peer_steps.specs.Sites.{who_at}
use Rattle.peer_steps.specs.Tellings.{first_told}
use Rattle.peer_steps.proofs.PlacesOf.{nodes_few}
use Rattle.told_rows.proofs.Steps.{fixed_on}
use Rattle.told_rows.proofs.links.show_fixed.Goals as goal

pub show_node-requires : goal.show_node-requires
show_node-requires c =
    let same : c.as_slice-nodes.result.now ≡ c.args.tree.now.scene.nodes = c.as_slice-nodes.ensures ∙ ap (λ (s : Scene). s.nodes) c.scene.ensures in
    omega (arith, c.loop-place-test.true, ap length same, nodes_few c.args.tree.now.scene c.requires)

pub loop-place-preserved : goal.loop-place-preserved
loop-place-preserved c =
    let nodes = c.args.tree.now.scene.nodes in
    let node = c.index-nodes-place.result in
    let same : c.as_slice-nodes.result.now ≡ nodes = c.as_slice-nodes.ensures ∙ ap (λ (s : Scene). s.nodes) c.scene.ensures in
    let low : c.loop-place.place < length nodes = omega (arith, c.loop-place-test.true, ap length same) in
    let here : node ≡ get_or nodes c.loop-place.place node = c.index-nodes-place.is ∙ ap (λ (ns : List Node). get_or ns c.loop-place.place node) same in
    fixed_on c.args.peer.now c.args.me.now (first_told (who_at c.args.me.now c.args.tree.now.scene)) nodes c.loop-place.place node c.loop-place.told c.show_node.new.told _ low here c.loop-place.invariant c.in_ok-show_node.ensures
