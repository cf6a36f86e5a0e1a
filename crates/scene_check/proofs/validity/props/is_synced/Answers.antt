use Rattle.std.proofs.Common.{sym, ◌∙◌}
use Rattle.gd_variant.specs.Words.{text_eq}
use Rattle.scene_model.specs.declared.scene.SyncProp.{SyncProp}
use Rattle.scene_model.proofs.ListLaws.{any-map}
use Rattle.scene_check.proofs.validity.props.is_synced.Goals as goal

pub returns : goal.returns
returns c = c.is_listed.ensures ∙ sym (any-map (text_eq c.args.name.now) (λ (p : SyncProp). p.prop) c.args.props.now)
