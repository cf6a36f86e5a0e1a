-- An assignment that a tree refuses changes no node, unless its value is too long.
use Rattle.std.proofs.Common.{◌≡◌, ℕ, Bool, true, false, cond, not, List, [], ◌∷◌, refl, sym, ap, ap₂, ◌∙◌, is_some, Option, Some, None, arith}
use Rattle.std.specs.Prelude.{find, is_none, nat_lt, nat_le}
use Rattle.std.proofs.lemmas.Bool.Decides.{nat_tests}
use Rattle.gd_variant.specs.Words.{text_eq, some_is, when, first_of}
use Rattle.gd_variant.specs.Size.{value_size}
use Rattle.gd_variant.specs.declared.value.Variant.{Variant}
use Rattle.scene_model.specs.declared.scene.Prop.{Prop}
use Rattle.scene_model.specs.Lookup.{has_prop}
use Rattle.peer_model.specs.Updates.{Live, live_at}
use Rattle.peer_model.specs.View.{fits}
use Rattle.headless_tree.specs.declared.node.TreeNo.{TreeNo}
use Rattle.headless_tree.specs.declared.node.TreeNo.TheVariants.{NoNode, NoProp, ValueTooLong}
use Rattle.headless_tree.specs.Lists.{change_first}
use Rattle.headless_tree.specs.Nodes.{is_at, with_value, is_long, lacks_prop, assign_no, assigned, TreeOf}
use Rattle.peer_steps.proofs.Found.{found_named, mapped_is_some}

pub change_none : {X : Type 0} (test : X → Bool) (f : X → X) (xs : List X) → find test xs ≡ None → change_first test f xs ≡ xs
change_none test f [] h = refl
change_none test f (x ∷ xs) h = step (test x) (λ k. change_none test f xs k) h
  where
    step : (b : Bool) → (find test xs ≡ None → change_first test f xs ≡ xs) → cond b (Some x) (find test xs) ≡ None → cond b (f x ∷ xs) (x ∷ change_first test f xs) ≡ x ∷ xs
    step true more k = absurd (cc k)
    step false more k = ap (λ ys. x ∷ ys) (more k)

pub change_same : {X : Type 0} (test : X → Bool) (f : X → X) (xs : List X) (y : X) → find test xs ≡ Some y → f y ≡ y → change_first test f xs ≡ xs
change_same test f [] y h e = refl
change_same test f (x ∷ xs) y h e = step (test x) (λ k. change_same test f xs y k e) h
  where
    step : (b : Bool) → (find test xs ≡ Some y → change_first test f xs ≡ xs) → cond b (Some x) (find test xs) ≡ Some y → cond b (f x ∷ xs) (x ∷ change_first test f xs) ≡ x ∷ xs
    step true more k = let same : x ≡ y = cc in ap (λ z. z ∷ xs) (ap f same ∙ e ∙ sym same)
    step false more k = ap (λ ys. x ∷ ys) (more k)

pub none_from : {X : Type 0} (o : Option X) → is_some o ≡ false → o ≡ None
none_from None h = refl
none_from (Some x) h = absurd (cc h)

pub not_long : (v : Variant) → fits v ≡ true → is_long v ≡ false
not_long v h = sized (value_size v) h
  where
    sized : (n : ℕ) → nat_le n 65536 ≡ true → nat_lt 65536 n ≡ false
    sized n h = grind (arith, nat_tests)

-- a node without the property stays as it is
lacking_same : (n : Live) (prop : List ℕ) (value : Variant) → lacks_prop prop n ≡ true → record n { values = change_first (λ (p : Prop). text_eq p.name prop) (with_value value) n.values } ≡ n
lacking_same n prop value h = ap (λ vs. record n { values = vs }) (change_none (λ (p : Prop). text_eq p.name prop) (with_value value) n.values (none_from (find (λ (p : Prop). text_eq p.name prop) n.values)
    (sym (mapped_is_some (λ (p : Prop). p.value) (find (λ (p : Prop). text_eq p.name prop) n.values)) ∙ found_named n.values prop ∙ lacks (has_prop prop n.values) h)))
  where
    lacks : (b : Bool) → not b ≡ true → b ≡ false
    lacks true h = absurd (cc h)
    lacks false h = refl

pub assign_kept : (nodes : List Live) (path prop : List ℕ) (value : Variant) (e : TreeNo) → fits value ≡ true → assign_no nodes path prop value ≡ Some e → assigned path prop value nodes ≡ nodes
assign_kept nodes path prop value e short h = by_node (live_at nodes path) refl h
  where
    by_long : (n : Live) → live_at nodes path ≡ Some n → (b : Bool) → lacks_prop prop n ≡ b → first_of (when b NoProp ∷ when (is_long value) ValueTooLong ∷ []) ≡ Some e → assigned path prop value nodes ≡ nodes
    by_long n there true lacks k = change_same (is_at path) _ nodes n there (lacking_same n prop value lacks)
    by_long n there false lacks k = absurd (let none : None ≡ Some e = sym (ap (λ b. first_of (when b ValueTooLong ∷ [])) (not_long value short)) ∙ k in cc none)

    by_node : (o : Option Live) → live_at nodes path ≡ o → first_of (when (is_none o) NoNode ∷ when (some_is (lacks_prop prop) o) NoProp ∷ when (is_long value) ValueTooLong ∷ []) ≡ Some e → assigned path prop value nodes ≡ nodes
    by_node None there k = change_none (is_at path) _ nodes there
    by_node (Some n) there k = by_long n there (lacks_prop prop n) refl k

-- the tree after a refused assignment, as a call told it
pub tree_kept : (old new : TreeOf) (path prop told_path told_prop : List ℕ) (value : Variant) (e : TreeNo) → fits value ≡ true → told_path ≡ path → told_prop ≡ prop
    → (assign_no old.nodes told_path told_prop value ≡ Some e) × (new ≡ old) → new ≡ record old { nodes = assigned path prop value old.nodes }
tree_kept old new path prop told_path told_prop value e short p q h =
    h.1 ∙ ap (λ ns. record old { nodes = ns }) (sym (assign_kept old.nodes told_path told_prop value e short h.0) ∙ ap₂ (λ s t. assigned s t value old.nodes) p q)
