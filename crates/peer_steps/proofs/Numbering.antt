-- Numbers given one after the other.
use Rattle.std.proofs.Common.{◌≡◌, ℕ, zero, suc, ◌+◌, ◌<◌, List, [], ◌∷◌, ◌++◌, sym, ap, ap₂, ◌∙◌, take, length, arith}
use Rattle.peer_model.specs.Rows.{count_from}

count_next : {X : Type 0} (n i : ℕ) (xs : List X) → i < length xs → count_from n (take (suc i) xs) ≡ count_from n (take i xs) ++ (n + i) ∷ []
count_next n i [] h = absurd (omega (arith, h))
count_next n zero (x ∷ xs) h = ap (λ m. m ∷ []) (same n)
  where
    same : (m : ℕ) → m ≡ m + 0
    same m = omega arith
count_next n (suc i) (x ∷ xs) h = ap (λ ms. n ∷ ms) (count_next (n + 1) i xs (omega (arith, h)) ∙ ap (λ m. count_from (n + 1) (take i xs) ++ m ∷ []) (moved n i))
  where
    moved : (m k : ℕ) → m + 1 + k ≡ m + suc k
    moved m k = omega arith

pub count_more : {X : Type 0} (n i : ℕ) (xs : List X) → i < length xs → count_from n (take (i + 1) xs) ≡ count_from n (take i xs) ++ (n + i) ∷ []
count_more n i xs h = ap (λ k. count_from n (take k xs)) (one_more i) ∙ count_next n i xs h
  where
    one_more : (k : ℕ) → k + 1 ≡ suc k
    one_more k = omega arith

-- one number more, as a loop gives it
pub count_step : {X : Type 0} (n i next : ℕ) (xs : List X) (ids more : List ℕ) → i < length xs → ids ≡ count_from n (take i xs) → next ≡ n + i → more ≡ ids ++ next ∷ [] → (more ≡ count_from n (take (i + 1) xs)) × (next + 1 ≡ n + (i + 1))
count_step n i next xs ids more h a b e = (e ∙ ap₂ (λ ks k. ks ++ k ∷ []) a b ∙ sym (count_more n i xs h), ap (λ k. k + 1) b ∙ moved n i)
  where
    moved : (m k : ℕ) → m + k + 1 ≡ m + (k + 1)
    moved m k = omega arith
