use Rattle.std.proofs.Common.{ap, sym, ◌∙◌, List}
use Rattle.std.specs.Prelude.{slice_get}
use Rattle.scene_model.specs.declared.scene.Node.{Node}
use Rattle.scene_model.specs.declared.scene.Scene.{Scene}
use Rattle.delta_props.proofs.Places.{node_found, node_missing}
use Rattle.delta_props.proofs.finding.fixed_node.Goals as goal

pub returns-in-Some : goal.returns-in-Some
returns-in-Some c =
    c.at.ensures ∙ ap (λ (ns : List Node). slice_get ns c.in-Some.place) (c.as_slice.ensures ∙ ap (λ (s : Scene). s.nodes) c.scene.ensures)
    ∙ node_found c.args.tree.now.scene c.args.path.now c.as_str.result.now c.in-Some.place c.as_str.ensures.same (sym c.in-Some.ensures.place)

pub returns-in-None : goal.returns-in-None
returns-in-None c = node_missing c.args.tree.now.scene c.args.path.now c.as_str.result.now c.as_str.ensures.same (sym c.in-None.ensures.place)
