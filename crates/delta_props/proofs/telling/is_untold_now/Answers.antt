use Rattle.std.proofs.Common.{◌≡◌, not, sym, ap, ap₂, ◌∙◌, Option}
use Rattle.std.specs.Option.{option_copied}
use Rattle.gd_variant.specs.Words.{some_is, or_else}
use Rattle.gd_variant.specs.Tree.{same_value}
use Rattle.gd_variant.specs.declared.value.Variant.{Variant}
use Rattle.gd_variant.specs.declared.value.Variant.TheVariants.{Nil}
use Rattle.scene_model.specs.Lookup.{value_in}
use Rattle.headless_tree.specs.Nodes.{live}
use Rattle.delta_props.specs.Telling.{value_of}
use Rattle.delta_props.proofs.telling.is_untold_now.Goals as goal

pub returns-in-Some : goal.returns-in-Some
returns-in-Some c =
    let here : c.in-Some.now.now ≡ value_of (live c.args.node.now) c.args.prop.now =
    ap (λ (o : Option Variant). or_else o Nil) (sym (ap option_copied c.in-Some.is) ∙ c.get.ensures ∙ ap (value_in (live c.args.node.now).values) c.as_str.ensures.same) in
    c.differs.ensures ∙ ap₂ (λ (v : Variant) (o : Option Variant). not (some_is (same_value v) o)) here c.told_at.ensures
