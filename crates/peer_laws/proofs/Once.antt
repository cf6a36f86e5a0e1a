-- Texts of a list's elements, of which none stands twice.
use Rattle.std.proofs.Common.{◌≡◌, ℕ, Bool, true, false, cond, not, ◌&&◌, ◌||◌, List, [], ◌∷◌, ◌++◌, refl, sym, ap, ap₂, ◌∙◌, map, filter, is_some, Some}
use Rattle.std.specs.Prelude.{find}
use Rattle.std.specs.List.{list_any, list_all}
use Rattle.std.proofs.lemmas.Bool.{and_from, or_parts, or_from}
use Rattle.std.proofs.lemmas.List.Folds.{list_any-append}
use Rattle.gd_variant.specs.Words.{text_eq, has_text, some_is, put_by}
use Rattle.scene_model.specs.Valid.{has_twice}
use Rattle.scene_model.proofs.ListLaws.{any-put_by, found_is_any, any-map, any_ext}
use Rattle.scene_model.proofs.TextLaws.{text_eq-true, text_eq-sym}
use Rattle.headless_tree.specs.Lists.{change_first, without_first}

-- a search by a text finds something where the text stands
pub found_is_has : {X : Type 0} (key : X → List ℕ) (t : List ℕ) (xs : List X) → is_some (find (λ x. text_eq (key x) t) xs) ≡ has_text t (map key xs)
found_is_has key t xs = found_is_any (λ x. text_eq (key x) t) xs ∙ any_ext (λ x. text_eq (key x) t) (λ x. text_eq t (key x)) (λ x. text_eq-sym (key x) t) xs ∙ sym (any-map (text_eq t) key xs)

-- texts that stand once, of which some are taken away or one is added

-- a filter adds no text
pub filter_lacks : {X : Type 0} (key : X → List ℕ) (p : X → Bool) (t : List ℕ) (xs : List X) → has_text t (map key xs) ≡ false → has_text t (map key (filter p xs)) ≡ false
filter_lacks key p t [] h = refl
filter_lacks key p t (x ∷ xs) h =
    let parts = or_parts (text_eq t (key x)) (has_text t (map key xs)) h in
    elim (p x) as (λ b. has_text t (map key (cond b (x ∷ filter p xs) (filter p xs))) ≡ false) [
      | true ↦ or_from (text_eq t (key x)) (has_text t (map key (filter p xs))) parts.0 (filter_lacks key p t xs parts.1)
      | false ↦ filter_lacks key p t xs parts.1
    ]

-- what a filter leaves has no text twice, where the list has none
pub filter_once : {X : Type 0} (key : X → List ℕ) (p : X → Bool) (xs : List X) → has_twice (map key xs) ≡ false → has_twice (map key (filter p xs)) ≡ false
filter_once key p [] h = refl
filter_once key p (x ∷ xs) h =
    let parts = or_parts (has_text (key x) (map key xs)) (has_twice (map key xs)) h in
    elim (p x) as (λ b. has_twice (map key (cond b (x ∷ filter p xs) (filter p xs))) ≡ false) [
      | true ↦ or_from (has_text (key x) (map key (filter p xs))) (has_twice (map key (filter p xs))) (filter_lacks key p (key x) xs parts.0) (filter_once key p xs parts.1)
      | false ↦ filter_once key p xs parts.1
    ]

-- a text is new among those of a list into which an element was put
put_lacks : {X : Type 0} (key : X → List ℕ) (before : X → X → Bool) (t : List ℕ) (x : X) (ys : List X) → text_eq t (key x) ≡ false → has_text t (map key ys) ≡ false → has_text t (map key (put_by before x ys)) ≡ false
put_lacks key before t x ys other h =
    any-map (text_eq t) key (put_by before x ys)
    ∙ any-put_by (λ y. text_eq t (key y)) before x ys
    ∙ or_from (text_eq t (key x)) (list_any (λ y. text_eq t (key y)) ys) other (sym (any-map (text_eq t) key ys) ∙ h)

-- an element with a new text, put into a list that has none twice
pub put_once : {X : Type 0} (key : X → List ℕ) (before : X → X → Bool) (x : X) (ys : List X) → has_text (key x) (map key ys) ≡ false → has_twice (map key ys) ≡ false → has_twice (map key (put_by before x ys)) ≡ false
put_once key before x [] n h = refl
put_once key before x (y ∷ ys) n h =
    let new = or_parts (text_eq (key x) (key y)) (has_text (key x) (map key ys)) n in
    let parts = or_parts (has_text (key y) (map key ys)) (has_twice (map key ys)) h in
    elim (before y x) as (λ b. has_twice (map key (cond b (y ∷ put_by before x ys) (x ∷ y ∷ ys))) ≡ false) [
      | true ↦ or_from (has_text (key y) (map key (put_by before x ys))) (has_twice (map key (put_by before x ys))) (put_lacks key before (key y) x ys (text_eq-sym (key y) (key x) ∙ new.0) parts.0) (put_once key before x ys new.1 parts.1)
      | false ↦ or_from (text_eq (key x) (key y) || has_text (key x) (map key ys)) (has_text (key y) (map key ys) || has_twice (map key ys)) n h
    ]

-- texts that are new, one after another

-- each element's text is none of those before it
abbrev pub EachNew : {X : Type 0} → (X → List ℕ) → List X → List X → Type 0
EachNew f earlier [] = Unit {0}
EachNew f earlier (x ∷ xs) = (list_any (λ e. text_eq (f e) (f x)) earlier ≡ false) × EachNew f (earlier ++ x ∷ []) xs

-- what no earlier element is, this text isn't
abbrev AmongThose : {X : Type 0} → (X → List ℕ) → List ℕ → List X → Type 0
AmongThose f t earlier = (u : List ℕ) → list_any (λ e. text_eq (f e) u) earlier ≡ false → text_eq t u ≡ false

later_other : {X : Type 0} (f : X → List ℕ) (t : List ℕ) (earlier xs : List X) → AmongThose f t earlier → EachNew f earlier xs → has_text t (map f xs) ≡ false
later_other f t earlier [] among h = refl
later_other f t earlier (x ∷ xs) among h = or_from (text_eq t (f x)) (has_text t (map f xs)) (among (f x) h.0)
    (later_other f t (earlier ++ x ∷ []) xs (λ u k. among u (or_parts (list_any (λ e. text_eq (f e) u) earlier) (text_eq (f x) u || false) (sym (list_any-append (λ e. text_eq (f e) u) earlier (x ∷ [])) ∙ k)).0) h.1)

pub each_new_apart : {X : Type 0} (f : X → List ℕ) (earlier xs : List X) → EachNew f earlier xs → has_twice (map f xs) ≡ false
each_new_apart f earlier [] h = refl
each_new_apart f earlier (x ∷ xs) h = or_from (has_text (f x) (map f xs)) (has_twice (map f xs))
    (later_other f (f x) (earlier ++ x ∷ []) xs (λ u k. (or_parts (text_eq (f x) u) false (or_parts (list_any (λ e. text_eq (f e) u) earlier) (text_eq (f x) u || false) (sym (list_any-append (λ e. text_eq (f e) u) earlier (x ∷ [])) ∙ k)).1).0) h.1)
    (each_new_apart f (earlier ++ x ∷ []) xs h.1)

-- one element changed

-- a change that keeps the texts
pub change_keeps : {X : Type 0} (key : X → List ℕ) (test : X → Bool) (f : X → X) → ((x : X) → key (f x) ≡ key x) → (xs : List X) → map key (change_first test f xs) ≡ map key xs
change_keeps key test f k [] = refl
change_keeps key test f k (x ∷ xs) = elim (test x) as (λ b. map key (cond b (f x ∷ xs) (x ∷ change_first test f xs)) ≡ key x ∷ map key xs) [
  | true ↦ ap (λ t. t ∷ map key xs) (k x)
  | false ↦ ap (λ ts. key x ∷ ts) (change_keeps key test f k xs)
]

-- an element with its change, where its text is the one that is meant
abbrev pub change_if : {X : Type 0} → (X → List ℕ) → List ℕ → (X → X) → X → X
change_if key t f x = cond (text_eq (key x) t) (f x) x

unchanged : {X : Type 0} (key : X → List ℕ) (t : List ℕ) (f : X → X) (xs : List X) → has_text t (map key xs) ≡ false → map (change_if key t f) xs ≡ xs
unchanged key t f [] h = refl
unchanged key t f (x ∷ xs) h =
    let parts = or_parts (text_eq t (key x)) (has_text t (map key xs)) h in
    ap₂ (λ b ys. cond b (f x) x ∷ ys) (text_eq-sym (key x) t ∙ parts.0) (unchanged key t f xs parts.1)

-- where no text stands twice, the first change is the only one
pub change_once : {X : Type 0} (key : X → List ℕ) (t : List ℕ) (f : X → X) (xs : List X) → has_twice (map key xs) ≡ false → change_first (λ x. text_eq (key x) t) f xs ≡ map (change_if key t f) xs
change_once key t f [] h = refl
change_once key t f (x ∷ xs) h = step (text_eq (key x) t) refl (change_once key t f xs parts.1)
  where
    parts : (has_text (key x) (map key xs) ≡ false) × (has_twice (map key xs) ≡ false)
    parts = or_parts (has_text (key x) (map key xs)) (has_twice (map key xs)) h

    step : (b : Bool) → text_eq (key x) t ≡ b → change_first (λ y. text_eq (key y) t) f xs ≡ map (change_if key t f) xs
        → cond b (f x ∷ xs) (x ∷ change_first (λ y. text_eq (key y) t) f xs) ≡ cond b (f x) x ∷ map (change_if key t f) xs
    step true e more = ap (λ ys. f x ∷ ys) (sym (unchanged key t f xs (ap (λ u. has_text u (map key xs)) (sym (text_eq-true (key x) t e)) ∙ parts.0)))
    step false e more = ap (λ ys. x ∷ ys) more

-- where no text stands twice, the list without the first element with a text has none with it
pub without_once : {X : Type 0} (key : X → List ℕ) (t : List ℕ) (xs : List X) → has_twice (map key xs) ≡ false → without_first (λ x. text_eq (key x) t) xs ≡ filter (λ x. not (text_eq (key x) t)) xs
without_once key t [] h = refl
without_once {X = X} key t (x ∷ xs) h = step (text_eq (key x) t) refl (without_once key t xs parts.1)
  where
    parts : (has_text (key x) (map key xs) ≡ false) × (has_twice (map key xs) ≡ false)
    parts = or_parts (has_text (key x) (map key xs)) (has_twice (map key xs)) h

    left : (ys : List X) → has_text t (map key ys) ≡ false → filter (λ y. not (text_eq (key y) t)) ys ≡ ys
    left [] n = refl
    left (y ∷ ys) n =
        let both = or_parts (text_eq t (key y)) (has_text t (map key ys)) n in
        ap₂ (λ b zs. cond (not b) (y ∷ zs) zs) (text_eq-sym (key y) t ∙ both.0) (left ys both.1)

    step : (b : Bool) → text_eq (key x) t ≡ b → without_first (λ y. text_eq (key y) t) xs ≡ filter (λ y. not (text_eq (key y) t)) xs
        → cond b xs (x ∷ without_first (λ y. text_eq (key y) t) xs) ≡ cond (not b) (x ∷ filter (λ y. not (text_eq (key y) t)) xs) (filter (λ y. not (text_eq (key y) t)) xs)
    step true e more = sym (left xs (ap (λ u. has_text u (map key xs)) (sym (text_eq-true (key x) t e)) ∙ parts.0))
    step false e more = ap (λ ys. x ∷ ys) more

none_there : {X : Type 0} (key : X → List ℕ) (t : List ℕ) (q : X → Bool) (xs : List X) → has_text t (map key xs) ≡ false → list_all (λ x. not (text_eq (key x) t) || q x) xs ≡ true
none_there key t q [] h = refl
none_there key t q (x ∷ xs) h =
    let parts = or_parts (text_eq t (key x)) (has_text t (map key xs)) h in
    and_from (not (text_eq (key x) t) || q x) (list_all (λ y. not (text_eq (key y) t) || q y) xs) (ap (λ b. not b || q x) (text_eq-sym (key x) t ∙ parts.0)) (none_there key t q xs parts.1)

-- where no text stands twice, what holds of the first element with a text holds of each
pub only_there : {X : Type 0} (key : X → List ℕ) (t : List ℕ) (q : X → Bool) (xs : List X) → has_twice (map key xs) ≡ false → some_is q (find (λ x. text_eq (key x) t) xs) ≡ true
    → list_all (λ x. not (text_eq (key x) t) || q x) xs ≡ true
only_there key t q [] h k = refl
only_there key t q (x ∷ xs) h k = step (text_eq (key x) t) refl (only_there key t q xs parts.1) k
  where
    parts : (has_text (key x) (map key xs) ≡ false) × (has_twice (map key xs) ≡ false)
    parts = or_parts (has_text (key x) (map key xs)) (has_twice (map key xs)) h

    step : (b : Bool) → text_eq (key x) t ≡ b → (some_is q (find (λ y. text_eq (key y) t) xs) ≡ true → list_all (λ y. not (text_eq (key y) t) || q y) xs ≡ true)
        → some_is q (cond b (Some x) (find (λ y. text_eq (key y) t) xs)) ≡ true → ((not b || q x) && list_all (λ y. not (text_eq (key y) t) || q y) xs) ≡ true
    step true e more l = and_from (q x) (list_all (λ y. not (text_eq (key y) t) || q y) xs) l (none_there key t q xs (ap (λ u. has_text u (map key xs)) (sym (text_eq-true (key x) t e)) ∙ parts.0))
    step false e more l = more l
