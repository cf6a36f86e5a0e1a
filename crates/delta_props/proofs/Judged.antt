-- Masks that are judged, and values that are assigned by their places.
use Rattle.std.proofs.Common.{◌≡◌, ℕ, zero, suc, ◌+◌, ◌*◌, ◌^◌, ◌/◌, inl, inr, Bool, true, false, cond, not, List, [], ◌∷◌, refl, sym, ap, ap₂, ◌∙◌, length, nat_eq, nat_le, nat_lt, Option, Some, None, arith}
use Rattle.std.specs.Prelude.{slice_get, position, find, option_and_then, is_none}
use Rattle.std.specs.List.{slice_set}
use Rattle.std.specs.Option.{option_map_or}
use Rattle.std.proofs.lemmas.Bool.{cases_lt, lt-leb, le-leb}
use Rattle.std.proofs.lemmas.Bool.Decides.{nat_tests}
use Rattle.std.proofs.lemmas.Grind.{pow_more}
use Rattle.gd_variant.specs.Words.{text_eq, some_is, when, first_of}
use Rattle.gd_variant.specs.Size.{value_size}
use Rattle.gd_variant.specs.declared.value.Variant.{Variant}
use Rattle.scene_model.specs.declared.scene.Prop.{Prop}
use Rattle.scene_model.specs.declared.scene.SyncProp.{SyncProp}
use Rattle.scene_model.specs.Limits.{is_long}
use Rattle.scene_model.specs.Nodes.{Live}
use Rattle.peer_model.specs.View.{fits}
use Rattle.headless_tree.specs.declared.node.TreeNo.{TreeNo}
use Rattle.headless_tree.specs.declared.node.TreeNo.TheVariants.{NoNode, NoProp, ValueTooLong}
use Rattle.headless_tree.specs.Lists.{change_at, change_first}
use Rattle.headless_tree.specs.Nodes.{with_value, assigned_at, assign_at_no}
use Rattle.headless_tree.proofs.Places.{first_is, found_within, not_found}
use Rattle.headless_tree.proofs.Changes.{change_by_place, change_same}
use Rattle.delta_props.specs.Taking.{halved, value_place, put_prop, put_where}

-- a number that is 0 after some halvings is below that power of two
pub halved_is : {X : Type 0} (ps : List X) (m : ℕ) → not (nat_eq (halved ps m) 0) ≡ nat_le (2 ^ length ps) m
halved_is [] m = grind (arith, nat_tests)
halved_is (p ∷ ps) m = halved_is ps (m / 2) ∙ elim (cases_lt m (2 ^ suc (length ps))) [
  | inl low ↦ lt-leb (2 ^ length ps) (m / 2) (omega (arith, low, two)) ∙ sym (lt-leb (2 ^ suc (length ps)) m low)
  | inr high ↦ le-leb (2 ^ length ps) (m / 2) (omega (arith, high, two)) ∙ sym (le-leb (2 ^ suc (length ps)) m high)
]
  where
    two : 2 ^ suc (length ps) ≡ 2 ^ length ps * 2
    two = let e : suc (length ps) ≡ length ps + 1 = omega arith in ap (λ k. 2 ^ k) e ∙ pow_more 2 (length ps)

pub not_long : (v : Variant) → fits v ≡ true → is_long v ≡ false
not_long v h = sized (value_size v) h
  where
    sized : (n : ℕ) → nat_le n 65536 ≡ true → nat_lt 65536 n ≡ false
    sized n h = grind (arith, nat_tests)

abbrev named : List ℕ → Prop → Bool
named name x = text_eq x.name name

abbrev place_in : List ℕ → Live → Option ℕ
place_in name n = position (named name) n.values

-- an assignment by places is one by the property's name
found : (nodes : List Live) (place to : ℕ) (name : List ℕ) (value : Variant) (o : Option Live) → slice_get nodes place ≡ o → option_and_then (place_in name) o ≡ Some to → assigned_at place to value nodes ≡ put_prop place name value nodes
found nodes place to name value None e h = absurd (let none : None ≡ Some to = h in cc none)
found nodes place to name value (Some n) e h =
    change_same (λ (m : Live). record m { values = change_at to (with_value value) m.values }) (λ (m : Live). record m { values = change_first (named name) (with_value value) m.values }) nodes place n e
    (ap (λ (vs : List Prop). record n { values = vs }) (ap (λ k. change_at k (with_value value) n.values) (sym (first_is (named name) n.values to h)) ∙ change_by_place (named name) (with_value value) n.values))

pub put_found : (nodes : List Live) (place to : ℕ) (p : Option SyncProp) (value : Variant) → value_place nodes place p ≡ Some to → assigned_at place to value nodes ≡ put_where place p value nodes
put_found nodes place to None value h = absurd (let none : None ≡ Some to = h in cc none)
put_found nodes place to (Some p) value h = found nodes place to p.prop value (slice_get nodes place) refl h

cons_case : {X : Type 0} (xs : List X) (i : ℕ) → change_at i (λ (x : X). x) xs ≡ xs
cons_case [] zero = refl
cons_case [] (suc i) = refl
cons_case (x ∷ xs) zero = refl
cons_case (x ∷ xs) (suc i) = later ∙ ap (λ ys. x ∷ ys) (cons_case xs i)
  where
    later : change_at (suc i) (λ y. y) (x ∷ xs) ≡ x ∷ change_at i (λ y. y) xs
    later = elim (slice_get xs i) as (λ o. option_map_or (λ z. slice_set (x ∷ xs) (suc i) z) o (x ∷ xs) ≡ x ∷ option_map_or (λ z. slice_set xs i z) o xs) [ None ↦ refl | Some z ↦ refl ]

none_changes : {X : Type 0} (p : X → Bool) (f : X → X) (xs : List X) → find p xs ≡ None → change_first p f xs ≡ xs
none_changes p f [] h = refl
none_changes p f (x ∷ xs) h = step (p x) (none_changes p f xs) h
  where
    step : (b : Bool) → (find p xs ≡ None → change_first p f xs ≡ xs) → cond b (Some x) (find p xs) ≡ None → cond b (f x ∷ xs) (x ∷ change_first p f xs) ≡ x ∷ xs
    step true more k = absurd (cc k)
    step false more k = ap (λ ys. x ∷ ys) (more k)

missing : (nodes : List Live) (place : ℕ) (name : List ℕ) (value : Variant) (o : Option Live) → slice_get nodes place ≡ o → option_and_then (place_in name) o ≡ None → nodes ≡ put_prop place name value nodes
missing nodes place name value None e h = sym (ap (λ o. option_map_or (λ (n : Live). slice_set nodes place (record n { values = change_first (named name) (with_value value) n.values })) o nodes) e)
missing nodes place name value (Some n) e h =
    sym (cons_case nodes place) ∙ change_same (λ (m : Live). m) (λ (m : Live). record m { values = change_first (named name) (with_value value) m.values }) nodes place n e
    (ap (λ (vs : List Prop). record n { values = vs }) (sym (none_changes (named name) (with_value value) n.values (not_found (named name) n.values h))))

-- nothing is assigned where there is no such property
pub put_missing : (nodes : List Live) (place : ℕ) (p : Option SyncProp) (value : Variant) → value_place nodes place p ≡ None → nodes ≡ put_where place p value nodes
put_missing nodes place None value h = refl
put_missing nodes place (Some p) value h = missing nodes place p.prop value (slice_get nodes place) refl h

abbrev reasons : ℕ → Variant → Option Live → Option TreeNo
reasons to value o = first_of (when (is_none o) NoNode ∷ when (some_is (λ (n : Live). nat_le (length n.values) to) o) NoProp ∷ when (is_long value) ValueTooLong ∷ [])

no_reason : (to : ℕ) (name : List ℕ) (value : Variant) (o : Option Live) → option_and_then (place_in name) o ≡ Some to → fits value ≡ true → reasons to value o ≡ None
no_reason to name value None h short = absurd (let none : None ≡ Some to = h in cc none)
no_reason to name value (Some n) h short =
    ap₂ (λ a b. first_of (when a NoProp ∷ when b ValueTooLong ∷ [])) (lt-leb (length n.values) to (found_within (named name) n.values to h)) (not_long value short)

-- there is no reason against an assignment to a property that was found
pub put_allowed : (nodes : List Live) (place to : ℕ) (p : Option SyncProp) (value : Variant) → value_place nodes place p ≡ Some to → fits value ≡ true → assign_at_no nodes place to value ≡ None
put_allowed nodes place to None value h short = absurd (let none : None ≡ Some to = h in cc none)
put_allowed nodes place to (Some p) value h short = no_reason to p.prop value (slice_get nodes place) h short
