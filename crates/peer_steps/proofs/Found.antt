-- What is found among properties and nodes.
use Rattle.std.proofs.Common.{◌≡◌, ℕ, List, refl, sym, ◌∙◌, is_some, Option, Some, None}
use Rattle.std.specs.Prelude.{find, option_map}
use denote.Ref.{Bor}
use Rattle.std.specs.Option.{option_copied}
use Rattle.gd_variant.specs.Words.{text_eq}
use Rattle.scene_model.specs.declared.scene.Prop.{Prop}
use Rattle.scene_model.specs.Lookup.{has_prop, value_in}
use Rattle.scene_model.proofs.ListLaws.{any-map, any_ext, found_is_any}
use Rattle.scene_model.proofs.TextLaws.{text_eq-sym}

pub mapped_is_some : {X Y : Type 0} (f : X → Y) (o : Option X) → is_some (option_map f o) ≡ is_some o
mapped_is_some f None = refl
mapped_is_some f (Some x) = refl

-- a property has a value exactly where it is among them
pub found_named : (props : List Prop) (name : List ℕ) → is_some (value_in props name) ≡ has_prop name props
found_named props name =
    mapped_is_some (λ (p : Prop). p.value) (find (λ (p : Prop). text_eq p.name name) props)
    ∙ found_is_any (λ (p : Prop). text_eq p.name name) props
    ∙ any_ext (λ (p : Prop). text_eq p.name name) (λ (p : Prop). text_eq name p.name) (λ p. text_eq-sym p.name name) props
    ∙ sym (any-map (text_eq name) (λ (p : Prop). p.name) props)

pub copied_is_some : {X : Type 0} (o : Option (Bor X)) → is_some o ≡ is_some (option_copied o)
copied_is_some None = refl
copied_is_some (Some x) = refl
