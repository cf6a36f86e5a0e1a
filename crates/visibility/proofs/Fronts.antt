-- Elements that are changed one after the other.
use Rattle.std.proofs.Common.{◌≡◌, ℕ, zero, suc, ◌+◌, ◌<◌, ◌≤◌, List, [], ◌∷◌, ◌++◌, length, map, take, drop, refl, sym, ap, ap₂, ◌∙◌, arith, Some}
use Rattle.std.specs.Prelude.{slice_get, slice_index_or}
use Rattle.std.specs.List.{slice_set}

-- the elements before a place changed, the others as they were
abbrev pub map_front : {X : Type 0} → (X → X) → ℕ → List X → List X
map_front f i xs = map f (take i xs) ++ drop i xs

some_same : {X : Type 0} (a b : X) → Some a ≡ Some b → a ≡ b
some_same a b e = cc

got_at : {X : Type 0} (xs : List X) (i : ℕ) (x : X) → i < length xs → x ≡ slice_index_or xs i x → slice_get xs i ≡ Some x
got_at [] i x below e = absurd (omega (arith, below))
got_at (y ∷ xs) zero x below e = ap Some (sym e)
got_at (y ∷ xs) (suc i) x below e = got_at xs i x (omega (arith, below)) e

front_length : {X : Type 0} (f : X → X) (i : ℕ) (xs : List X) → length (map_front f i xs) ≡ length xs
front_length f zero xs = refl
front_length f (suc i) [] = refl
front_length f (suc i) (x ∷ xs) = ap suc (front_length f i xs)

front_at : {X : Type 0} (f : X → X) (i : ℕ) (xs : List X) → slice_get (map_front f i xs) i ≡ slice_get xs i
front_at f zero xs = refl
front_at f (suc i) [] = refl
front_at f (suc i) (x ∷ xs) = front_at f i xs

front_next : {X : Type 0} (f : X → X) (i : ℕ) (xs : List X) (x : X) → slice_get xs i ≡ Some x → slice_set (map_front f i xs) i (f x) ≡ map_front f (i + 1) xs
front_next f i [] x at = absurd (cc at)
front_next f zero (y ∷ xs) x at = ap (λ z. f z ∷ xs) (sym (some_same y x at))
front_next f (suc i) (y ∷ xs) x at =
    let n : suc i + 1 ≡ suc (i + 1) = omega arith in
    ap (λ ys. f y ∷ ys) (front_next f i xs x at) ∙ sym (ap (λ k. map_front f k (y ∷ xs)) n)

pub front_all : {X : Type 0} (f : X → X) (n : ℕ) (xs : List X) → length xs ≤ n → map_front f n xs ≡ map f xs
front_all f zero [] h = refl
front_all f (suc n) [] h = refl
front_all f zero (x ∷ xs) h = absurd (omega (arith, h))
front_all f (suc n) (x ∷ xs) h = ap (λ ys. f x ∷ ys) (front_all f n xs (omega (arith, h)))

-- the element at a place changed, after those before it
pub front_step : {X : Type 0} (f : X → X) (xs ys : List X) (i : ℕ) (x y : X) → i < length xs → ys ≡ map_front f i xs → x ≡ slice_index_or ys i x → y ≡ f x → slice_set ys i y ≡ map_front f (i + 1) xs
front_step {X} f xs ys i x y below is at now =
    let long : length ys ≡ length xs = ap (λ (zs : List X). length zs) is ∙ front_length f i xs in
    let there : slice_get xs i ≡ Some x = sym (front_at f i xs) ∙ sym (ap (λ zs. slice_get zs i) is) ∙ got_at ys i x (omega (arith, below, long)) at in
    ap₂ (λ zs z. slice_set zs i z) is now ∙ front_next f i xs x there
