use Rattle.std.proofs.Common.{ap, ◌∙◌}
use Rattle.std.specs.Prelude.{position}
use Rattle.std.specs.String.{string_bytes}
use Rattle.gd_variant.specs.Words.{text_eq}
use Rattle.scene_model.specs.declared.scene.SceneDef.{SceneDef}
use Rattle.headless_tree.specs.Nodes.{TreeOf}
use Rattle.headless_tree.proofs.Named.{name_place}
use Rattle.headless_tree.proofs.tree.Tree.scene_place.Goals as goal

pub returns-clause-place : goal.returns-clause-place
returns-clause-place c = c.get_index_of.ensures.index ∙ name_place string_bytes c.self.inside.scenes.keys c.self.inside.scene.scenes c.args.name.now c.self.invariant.5 ∙ ap (λ (t : TreeOf). position (λ (d : SceneDef). text_eq c.args.name.now d.name) t.scene.scenes) c.self.view_is
