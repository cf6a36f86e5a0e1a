-- Lists that are read and changed at places.
use Rattle.std.proofs.Common.{◌≡◌, ℕ, zero, suc, ◌<◌, true, false, List, [], ◌∷◌, ◌++◌, length, refl, sym, ap, ◌∙◌, subst, arith, nat_eq, is_some, Some}
use Rattle.std.specs.Prelude.{slice_get, nat_lt}
use Rattle.std.specs.List.{slice_set}
use Rattle.std.proofs.lemmas.Bool.Decides.{nat_tests}
use Rattle.world_steps.proofs.Links.{some_same}

pub got_below : {X : Type 0} (xs : List X) (i : ℕ) → is_some (slice_get xs i) ≡ nat_lt i (length xs)
got_below [] i = grind (arith, nat_tests)
got_below (x ∷ xs) zero = grind (arith, nat_tests)
got_below (x ∷ xs) (suc i) = got_below xs i ∙ grind (arith, nat_tests)

pub got_within : {X : Type 0} (xs : List X) (i : ℕ) (x : X) → slice_get xs i ≡ Some x → i < length xs
got_within xs i x e = let h : nat_lt i (length xs) ≡ true = sym (got_below xs i) ∙ ap is_some e in grind (arith, nat_tests, h)

-- what holds of each element at its place
abbrev pub EachAt : {X : Type 0} → (ℕ → X → Type 0) → List X → Type 0
EachAt {X} P xs = (i : ℕ) (x : X) → slice_get xs i ≡ Some x → P i x

pub each_more : {X : Type 0} (P : ℕ → X → Type 0) (xs : List X) (y : X) → EachAt P xs → P (length xs) y → EachAt P (xs ++ y ∷ [])
each_more P [] y each last zero x e = subst (P 0) (some_same y x e) last
each_more P [] y each last (suc i) x e = absurd (cc e)
each_more P (z ∷ xs) y each last zero x e = each zero x e
each_more P (z ∷ xs) y each last (suc i) x e = each_more (λ j. P (suc j)) xs y (λ j. each (suc j)) last i x e

pub each_set : {X : Type 0} (P : ℕ → X → Type 0) (xs : List X) (i : ℕ) (y : X) → ((j : ℕ) (x : X) → slice_get xs j ≡ Some x → nat_eq j i ≡ false → P j x) → P i y → EachAt P (slice_set xs i y)
each_set P [] i y others here j x e = absurd (cc e)
each_set P (z ∷ xs) zero y others here zero x e = subst (P 0) (some_same y x e) here
each_set P (z ∷ xs) zero y others here (suc j) x e = others (suc j) x e (grind (arith, nat_tests))
each_set P (z ∷ xs) (suc i) y others here zero x e = others zero x e (grind (arith, nat_tests))
each_set P (z ∷ xs) (suc i) y others here (suc j) x e = each_set (λ k. P (suc k)) xs i y (λ k x f n. others (suc k) x f (grind (arith, nat_tests, n))) here j x e

pub length-set : {X : Type 0} (xs : List X) (i : ℕ) (y : X) → length (slice_set xs i y) ≡ length xs
length-set [] i y = refl
length-set (x ∷ xs) zero y = refl
length-set (x ∷ xs) (suc i) y = ap suc (length-set xs i y)

pub set_same : {X : Type 0} (xs : List X) (i : ℕ) (x : X) → slice_get xs i ≡ Some x → slice_set xs i x ≡ xs
set_same [] i x e = absurd (cc e)
set_same (y ∷ xs) zero x e = ap (λ z. z ∷ xs) (sym (some_same y x e))
set_same (y ∷ xs) (suc i) x e = ap (λ zs. y ∷ zs) (set_same xs i x e)

pub set_again : {X : Type 0} (xs : List X) (i : ℕ) (x y : X) → slice_set (slice_set xs i x) i y ≡ slice_set xs i y
set_again [] i x y = refl
set_again (z ∷ xs) zero x y = refl
set_again (z ∷ xs) (suc i) x y = ap (λ zs. z ∷ zs) (set_again xs i x y)

pub got_set : {X : Type 0} (xs : List X) (i : ℕ) (x : X) → i < length xs → slice_get (slice_set xs i x) i ≡ Some x
got_set [] i x h = absurd (omega (arith, h))
got_set (z ∷ xs) zero x h = refl
got_set (z ∷ xs) (suc i) x h = got_set xs i x (omega (arith, h))
