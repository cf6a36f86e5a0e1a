-- What a filter keeps of a list.
use Rattle.std.proofs.Common.{◌≡◌, ◌≤◌, Bool, true, false, cond, not, ◌&&◌, List, [], ◌∷◌, refl, sym, ap, ap₂, ◌∙◌, length, filter, arith}
use Rattle.std.specs.List.{list_any, list_all, All}
use Rattle.std.proofs.lemmas.Bool.{and_parts, and_from, or_parts}
use Rattle.std.proofs.lemmas.List.Elements.{All-head, All-tail}

-- what a filter keeps passes its test
pub all_pass : {X : Type 0} (p : X → Bool) (xs : List X) → list_all p (filter p xs) ≡ true
all_pass p [] = refl
all_pass p (x ∷ xs) = step (p x) refl (all_pass p xs)
  where
    step : (b : Bool) → p x ≡ b → list_all p (filter p xs) ≡ true → list_all p (cond b (x ∷ filter p xs) (filter p xs)) ≡ true
    step true e h = and_from (p x) (list_all p (filter p xs)) e h
    step false e h = h

-- a filter keeps everything where each element passes
pub filter_all : {X : Type 0} (p : X → Bool) (xs : List X) → list_all p xs ≡ true → filter p xs ≡ xs
filter_all p [] h = refl
filter_all p (x ∷ xs) h = ap (λ b. cond b (x ∷ filter p xs) (filter p xs)) (and_parts (p x) (list_all p xs) h).0 ∙ ap (λ ys. x ∷ ys) (filter_all p xs (and_parts (p x) (list_all p xs) h).1)

-- and nothing where none does
pub filter_none : {X : Type 0} (p : X → Bool) (xs : List X) → list_any p xs ≡ false → filter p xs ≡ []
filter_none p [] h = refl
filter_none p (x ∷ xs) h = ap (λ b. cond b (x ∷ filter p xs) (filter p xs)) (or_parts (p x) (list_any p xs) h).0 ∙ filter_none p xs (or_parts (p x) (list_any p xs) h).1

pub keep_others : {X : Type 0} (p : X → Bool) (xs : List X) → list_any p xs ≡ false → filter (λ x. not (p x)) xs ≡ xs
keep_others p [] h = refl
keep_others p (x ∷ xs) h = ap₂ (λ b ys. cond (not b) (x ∷ ys) ys) (or_parts (p x) (list_any p xs) h).0 (keep_others p xs (or_parts (p x) (list_any p xs) h).1)

-- filters agree where the elements pass no test outside of which they agree
pub filter_outside : {X : Type 0} (q p r : X → Bool) (xs : List X) → list_any q xs ≡ false → ((x : X) → q x ≡ false → p x ≡ r x) → filter p xs ≡ filter r xs
filter_outside q p r [] h k = refl
filter_outside q p r (x ∷ xs) h k = ap₂ (λ b ys. cond b (x ∷ ys) ys) (k x (or_parts (q x) (list_any q xs) h).0) (filter_outside q p r xs (or_parts (q x) (list_any q xs) h).1 k)

-- filters agree where they agree at each element
pub keep_agree : {X : Type 0} (p q : X → Bool) (xs : List X) → All (λ x. p x ≡ q x) xs → filter p xs ≡ filter q xs
keep_agree p q [] h = refl
keep_agree p q (x ∷ xs) h = ap₂ (λ b ys. cond b (x ∷ ys) ys) (All-head (λ z. p z ≡ q z) x xs h) (keep_agree p q xs (All-tail (λ z. p z ≡ q z) x xs h))

-- one filter after another
pub filter_both : {X : Type 0} (p q : X → Bool) (xs : List X) → filter (λ x. p x && q x) xs ≡ filter p (filter q xs)
filter_both p q [] = refl
filter_both p q (x ∷ xs) = step (filter_both p q xs) (p x) refl (q x)
  where
    step : filter (λ y. p y && q y) xs ≡ filter p (filter q xs) → (b : Bool) → p x ≡ b → (c : Bool) → cond (b && c) (x ∷ filter (λ y. p y && q y) xs) (filter (λ y. p y && q y) xs) ≡ filter p (cond c (x ∷ filter q xs) (filter q xs))
    step more true e true = ap (λ ys. x ∷ ys) more ∙ sym (ap (λ b. cond b (x ∷ filter p (filter q xs)) (filter p (filter q xs))) e)
    step more false e true = more ∙ sym (ap (λ b. cond b (x ∷ filter p (filter q xs)) (filter p (filter q xs))) e)
    step more true e false = more
    step more false e false = more

pub kept_length : {X : Type 0} (p : X → Bool) (xs : List X) → length (filter p xs) ≤ length xs
kept_length p [] = omega arith
kept_length p (x ∷ xs) = step (p x) (kept_length p xs)
  where
    step : (b : Bool) → length (filter p xs) ≤ length xs → length (cond b (x ∷ filter p xs) (filter p xs)) ≤ length (x ∷ xs)
    step true h = omega (arith, h)
    step false h = omega (arith, h)
