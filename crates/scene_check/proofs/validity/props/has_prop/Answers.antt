use Rattle.std.proofs.Common.{sym, ◌∙◌}
use Rattle.gd_variant.specs.Words.{text_eq}
use Rattle.scene_model.specs.declared.scene.Prop.{Prop}
use Rattle.scene_model.proofs.ListLaws.{any-map}
use Rattle.scene_check.proofs.validity.props.has_prop.Goals as goal

pub returns : goal.returns
returns c = c.is_named.ensures ∙ sym (any-map (text_eq c.args.name.now) (λ (p : Prop). p.name) c.args.props.now)
