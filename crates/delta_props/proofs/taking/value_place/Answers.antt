use Rattle.std.proofs.Common.{ap, ◌∙◌}
use Rattle.std.specs.Prelude.{position, option_and_then}
use Rattle.gd_variant.specs.Words.{text_eq}
use Rattle.scene_model.specs.declared.scene.Prop.{Prop}
use Rattle.scene_model.specs.declared.scene.Scene.{Scene}
use Rattle.scene_model.specs.Nodes.{Live}
use Rattle.delta_props.specs.Taking.{prop_at, value_place}
use Rattle.delta_props.proofs.taking.value_place.Goals as goal

pub returns-in-Some-row_at : goal.returns-in-Some-row_at
returns-in-Some-row_at c =
    c.place_of.ensures ∙ ap (λ name. position (λ (p : Prop). text_eq p.name name) c.in-Some-row_at.node.now.values) c.as_str.ensures.same
    ∙ ap (option_and_then (λ (n : Live). position (λ (p : Prop). text_eq p.name c.in-Some.prop.now.prop) n.values)) c.in-Some-row_at.ensures
    ∙ ap (value_place c.args.tree.now.nodes c.args.place) c.in-Some.ensures
    ∙ ap (λ (s : Scene). value_place c.args.tree.now.nodes c.args.place (prop_at s c.args.at c.args.j)) c.scene.ensures
