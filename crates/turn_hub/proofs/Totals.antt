-- Sums over views, and how often a place stands in a list.
use Rattle.std.proofs.Common.{◌≡◌, ◌≢◌, ℕ, zero, suc, ◌+◌, ◌≤◌, List, [], ◌∷◌, ◌++◌, set, refl, sym, ap, arith, if◌then◌else◌, nat_eq}
use mathlib.Core.Option.{some, some-injective, some-ne-none}
use lib.ListN.{get_elem?}
use Rattle.turn_hub.specs.declared.rule.View.{View}
use Rattle.turn_hub.specs.Kept.{times, total}

pub there_set : {A : Type 0} (l : List A) (i : ℕ) (a b : A) → get_elem? l i ≡ some a → get_elem? (set l i b) i ≡ some b
there_set [] i a b e = absurd (some-ne-none a (sym e))
there_set (x ∷ xs) zero a b e = refl
there_set (x ∷ xs) (suc i) a b e = there_set xs i a b e

pub times-append : (p : ℕ) (xs ys : List ℕ) → times p (xs ++ ys) ≡ times p xs + times p ys
times-append p [] ys = omega arith
times-append p (x ∷ xs) ys = let h = times-append p xs ys in let hit : ℕ = if nat_eq x p then 1 else 0 in
    let h' : hit + times p (xs ++ ys) ≡ hit + (times p xs + times p ys) = ap (λ (n : ℕ). hit + n) h in omega (arith, h')

suc-inj : (a b : ℕ) → suc a ≡ suc b → a ≡ b
suc-inj a b q = omega (arith, q)

module _ {E K : Type 0} where
  pub total_set : (f : View E K → ℕ) (vs : List (View E K)) (i : ℕ) (v w : View E K) → get_elem? vs i ≡ some v → total f (set vs i w) + f v ≡ total f vs + f w
  total_set f [] i v w e = absurd (some-ne-none v (sym e))
  total_set f (x ∷ xs) zero v w e = let h : f x ≡ f v = ap f (some-injective x v e) in omega (arith, h)
  total_set f (x ∷ xs) (suc i) v w e = let h = total_set f xs i v w e in omega (arith, h)

  pub total_snoc : (f : View E K → ℕ) (vs : List (View E K)) (w : View E K) → total f (vs ++ w ∷ []) ≡ total f vs + f w
  total_snoc f [] w = omega arith
  total_snoc f (x ∷ xs) w = let h = total_snoc f xs w in omega (arith, h)

  pub total_has : (f : View E K → ℕ) (vs : List (View E K)) (i : ℕ) (v : View E K) → get_elem? vs i ≡ some v → f v ≤ total f vs
  total_has f [] i v e = absurd (some-ne-none v (sym e))
  total_has f (x ∷ xs) zero v e = let h : f x ≡ f v = ap f (some-injective x v e) in omega (arith, h)
  total_has f (x ∷ xs) (suc i) v e = let h = total_has f xs i v e in omega (arith, h)

  pub total_two : (f : View E K → ℕ) (vs : List (View E K)) (i j : ℕ) (v w : View E K) → i ≢ j → get_elem? vs i ≡ some v → get_elem? vs j ≡ some w → f v + f w ≤ total f vs
  total_two f [] i j v w n e d = absurd (some-ne-none v (sym e))
  total_two f (x ∷ xs) zero zero v w n e d = absurd (n refl)
  total_two f (x ∷ xs) zero (suc j) v w n e d = let h : f x ≡ f v = ap f (some-injective x v e) in let k = total_has f xs j w d in omega (arith, h, k)
  total_two f (x ∷ xs) (suc i) zero v w n e d = let h : f x ≡ f w = ap f (some-injective x w d) in let k = total_has f xs i v e in omega (arith, h, k)
  total_two f (x ∷ xs) (suc i) (suc j) v w n e d = let h = total_two f xs i j v w (λ q. n (ap suc q)) e d in omega (arith, h)

  total_none : (f : View E K → ℕ) (vs : List (View E K)) → ((j : ℕ) (w : View E K) → get_elem? vs j ≡ some w → f w ≡ 0) → total f vs ≡ 0
  total_none f [] all = refl
  total_none f (x ∷ xs) all = let h = all 0 x refl in let k = total_none f xs (λ j w e. all (suc j) w e) in omega (arith, h, k)

  -- where the others count for nothing, the sum is that of one view
  pub total_only : (f : View E K → ℕ) (vs : List (View E K)) (i : ℕ) (v : View E K) → get_elem? vs i ≡ some v → ((j : ℕ) (w : View E K) → j ≢ i → get_elem? vs j ≡ some w → f w ≡ 0) → total f vs ≡ f v
  total_only f [] i v e all = absurd (some-ne-none v (sym e))
  total_only f (x ∷ xs) zero v e all =
      let h : f x ≡ f v = ap f (some-injective x v e) in
      let k = total_none f xs (λ j w d. all (suc j) w (λ q. absurd (omega (arith, q))) d) in omega (arith, h, k)
  total_only f (x ∷ xs) (suc i) v e all =
      let h = all 0 x (λ q. absurd (omega (arith, q))) refl in
      let k = total_only f xs i v e (λ j w n d. all (suc j) w (λ q. n (suc-inj j i q)) d) in omega (arith, h, k)
