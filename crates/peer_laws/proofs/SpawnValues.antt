-- The values with which a spawned node begins: its scene's, then the argument, and then the settings in order.
use Rattle.std.proofs.Common.{◌≡◌, ℕ, zero, suc, Bool, true, false, cond, List, [], ◌∷◌, ◌++◌, refl, sym, ap, ap₂, ◌∙◌, map, reverse, Option, Some, None}
use Rattle.std.specs.Prelude.{find, slice_get, option_map, if◌then◌else◌}
use Rattle.std.proofs.lemmas.Grind.{reverse_onto}
use Rattle.std.proofs.lemmas.Bool.{or_parts}
use Rattle.gd_variant.specs.Words.{text_eq, has_text, some_is, or_else, first_some}
use Rattle.gd_variant.specs.declared.value.Variant.{Variant}
use Rattle.gd_variant.specs.declared.value.Variant.TheVariants.{Nil}
use Rattle.scene_model.specs.declared.scene.Prop.{Prop}
use Rattle.scene_model.specs.declared.event.SpawnOp.{SpawnOp}
use Rattle.scene_model.specs.Lookup.{value_in, prop_names}
use Rattle.scene_model.specs.Valid.{has_twice}
use Rattle.peer_model.specs.Heard.{Who}
use Rattle.peer_model.specs.Values.{start_value, scene_made, props_in, argument_prop, argument_for}
use Rattle.peer_model.specs.Updates.{assign, assign_all, assign_argument}
use Rattle.scene_model.proofs.TextLaws.{text_eq-sym, text_eq-same}
use Rattle.scene_model.proofs.ListLaws.{any-map}
use Rattle.peer_laws.specs.Shown.{settings}
use Rattle.peer_laws.proofs.Joined.{map-map, map_each}
use Rattle.headless_tree.proofs.Numbered.{none_at}

-- maps that agree on what stands in the list
pub map_in : {X Y : Type 0} (f g : X → Y) (xs : List X) → ((i : ℕ) (x : X) → slice_get xs i ≡ Some x → f x ≡ g x) → map f xs ≡ map g xs
map_in f g [] h = refl
map_in f g (x ∷ xs) h = ap₂ (λ y ys. y ∷ ys) (h 0 x refl) (map_in f g xs (λ i y e. h (suc i) y e))

-- a property is found by its name, where no name stands twice
pub value_of_prop : (props : List Prop) (i : ℕ) (p : Prop) → has_twice (prop_names props) ≡ false → slice_get props i ≡ Some p → value_in props p.name ≡ Some p.value
value_of_prop [] i p h e = absurd (cc e)
value_of_prop (q ∷ qs) zero p h e =
    let same : q ≡ p = cc in
    ap (λ (r : Prop). option_map (λ (x : Prop). x.value) (cond (text_eq q.name r.name) (Some q) (find (λ (x : Prop). text_eq x.name r.name) qs))) (sym same)
    ∙ ap (λ b. option_map (λ (x : Prop). x.value) (cond b (Some q) (find (λ (x : Prop). text_eq x.name q.name) qs))) (text_eq-same q.name)
    ∙ ap (λ (r : Prop). Some r.value) same
value_of_prop (q ∷ qs) (suc i) p h e =
    let parts = or_parts (has_text q.name (prop_names qs)) (has_twice (prop_names qs)) h in
    let other = none_at (λ (x : Prop). text_eq q.name x.name) qs i p e (sym (any-map (text_eq q.name) (λ (x : Prop). x.name) qs) ∙ parts.0) in
    ap (λ b. option_map (λ (x : Prop). x.value) (cond b (Some q) (find (λ (x : Prop). text_eq x.name p.name) qs))) other ∙ value_of_prop qs i p parts.1 e

-- a search through one list and then another
find-append : {X : Type 0} (p : X → Bool) (xs ys : List X) → find p (xs ++ ys) ≡ first_some (find p xs) (find p ys)
find-append p [] ys = refl
find-append p (x ∷ xs) ys = elim (p x) as (λ b. cond b (Some x) (find p (xs ++ ys)) ≡ first_some (cond b (Some x) (find p xs)) (find p ys)) [ true ↦ refl | false ↦ find-append p xs ys ]

value-append : (xs ys : List Prop) (name : List ℕ) → value_in (xs ++ ys) name ≡ first_some (value_in xs name) (value_in ys name)
value-append xs ys name = ap (option_map (λ (p : Prop). p.value)) (find-append (λ (p : Prop). text_eq p.name name) xs ys) ∙ step (find (λ (p : Prop). text_eq p.name name) xs)
  where
    step : (o : Option Prop) → option_map (λ (p : Prop). p.value) (first_some o (find (λ (p : Prop). text_eq p.name name) ys)) ≡ first_some (option_map (λ (p : Prop). p.value) o) (value_in ys name)
    step None = refl
    step (Some q) = refl

-- a property with the last of some settings of it
abbrev pub last_set : List Prop → Prop → Prop
last_set sets p = record p { value = or_else (value_in (reverse sets) p.name) p.value }

one_more : (s : Prop) (ss : List Prop) (p : Prop) → last_set ss (if text_eq p.name s.name then record p { value = s.value } else p) ≡ last_set (s ∷ ss) p
one_more s ss p =
    step (text_eq p.name s.name)
    ∙ ap (λ b. record p { value = or_else (first_some (value_in (reverse ss) p.name) (option_map (λ (x : Prop). x.value) (cond b (Some s) None))) p.value }) (text_eq-sym p.name s.name)
    ∙ sym (ap (λ o. record p { value = or_else o p.value }) (ap (λ xs. value_in xs p.name) (reverse_onto ss s []) ∙ value-append (reverse ss) (s ∷ []) p.name))
  where
    set_last : (u : Option Variant) → or_else u s.value ≡ or_else (first_some u (Some s.value)) p.value
    set_last None = refl
    set_last (Some v) = refl

    not_set : (u : Option Variant) → or_else u p.value ≡ or_else (first_some u None) p.value
    not_set None = refl
    not_set (Some v) = refl

    step : (b : Bool) → last_set ss (if b then record p { value = s.value } else p) ≡ record p { value = or_else (first_some (value_in (reverse ss) p.name) (option_map (λ (x : Prop). x.value) (cond b (Some s) None))) p.value }
    step true = ap (λ v. record p { value = v }) (set_last (value_in (reverse ss) p.name))
    step false = ap (λ v. record p { value = v }) (not_set (value_in (reverse ss) p.name))

same_props : (props : List Prop) → map (last_set []) props ≡ props
same_props [] = refl
same_props (p ∷ ps) = ap (λ qs. p ∷ qs) (same_props ps)

-- settings in order give each property its last one
pub assigned_last : (sets props : List Prop) → assign_all (settings sets) props ≡ map (last_set sets) props
assigned_last [] props = sym (same_props props)
assigned_last (s ∷ ss) props =
    assigned_last ss (assign s.name s.value props)
    ∙ map-map (last_set ss) (λ (p : Prop). if text_eq p.name s.name then record p { value = s.value } else p) props
    ∙ map_each (λ (p : Prop). last_set ss (if text_eq p.name s.name then record p { value = s.value } else p)) (last_set (s ∷ ss)) props (one_more s ss)

-- a property with a custom spawn's argument, where it is the one that takes it
abbrev pub with_argument : Option (List ℕ) → Option Variant → Prop → Prop
with_argument name arg p = record p { value = or_else (if some_is (text_eq p.name) name then arg else None) p.value }

unargued : (name : Option (List ℕ)) (props : List Prop) → props ≡ map (with_argument name None) props
unargued name [] = refl
unargued name (p ∷ ps) = ap₂ (λ v qs. record p { value = v } ∷ qs) (step (some_is (text_eq p.name) name)) (unargued name ps)
  where
    step : (b : Bool) → p.value ≡ or_else (if b then None else None) p.value
    step true = refl
    step false = refl

unnamed : (arg : Option Variant) (props : List Prop) → props ≡ map (with_argument None arg) props
unnamed arg [] = refl
unnamed arg (p ∷ ps) = ap (λ qs. p ∷ qs) (unnamed arg ps)

-- an argument gives its value to the property that takes it
pub argument_given : (name : Option (List ℕ)) (arg : Option Variant) (props : List Prop) → assign_argument name arg props ≡ map (with_argument name arg) props
argument_given (Some name) (Some value) props = map_each (λ (p : Prop). if text_eq p.name name then record p { value = value } else p) (with_argument (Some name) (Some value)) props (λ p. step p (text_eq p.name name))
  where
    step : (p : Prop) (b : Bool) → ◌≡◌ {A = Prop} (if b then record p { value = value } else p) (record p { value = or_else (if b then Some value else None) p.value })
    step p true = refl
    step p false = refl
argument_given (Some name) None props = unargued (Some name) props
argument_given None (Some value) props = unnamed (Some value) props
argument_given None None props = unnamed None props

begins : (u a : Option Variant) (v : Variant) → or_else (first_some u (first_some a (Some v))) Nil ≡ or_else u (or_else a v)
begins None None v = refl
begins None (Some w) v = refl
begins (Some w) a v = refl

-- a property of a spawned node begins with its last setting, else with the argument, else with the scene's value
pub start_is : (who : Who) (o : SpawnOp) → has_twice (prop_names (props_in (scene_made who o))) ≡ false → (i : ℕ) (p : Prop) → slice_get (props_in (scene_made who o)) i ≡ Some p
    → start_value who o p.name ≡ or_else (value_in (reverse o.sets) p.name) (or_else (argument_for who o p.name) p.value)
start_is who o apart i p here =
    ap (λ v. or_else (first_some (value_in (reverse o.sets) p.name) (first_some (argument_for who o p.name) v)) Nil) (value_of_prop (props_in (scene_made who o)) i p apart here)
    ∙ begins (value_in (reverse o.sets) p.name) (argument_for who o p.name) p.value

-- a property with the value with which it begins
abbrev pub started : Who → SpawnOp → Prop → Prop
started who o p = record { name = p.name; value = start_value who o p.name }

-- the values with which a spawned node begins
pub starts_are : (who : Who) (o : SpawnOp) → has_twice (prop_names (props_in (scene_made who o))) ≡ false
    → map (started who o) (props_in (scene_made who o)) ≡ assign_all (settings o.sets) (assign_argument (argument_prop who o) o.arg (props_in (scene_made who o)))
starts_are who o apart =
    let props = props_in (scene_made who o) in
    let given = with_argument (argument_prop who o) o.arg in
    map_in (started who o) (λ p. last_set o.sets (given p)) props (λ i p here. ap (λ v. record p { value = v }) (start_is who o apart i p here))
    ∙ sym (map-map (last_set o.sets) given props)
    ∙ ap (map (last_set o.sets)) (sym (argument_given (argument_prop who o) o.arg props))
    ∙ sym (assigned_last o.sets (assign_argument (argument_prop who o) o.arg props))
