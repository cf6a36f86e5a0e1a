-- The text in front of the first zero byte.
use Rattle.std.proofs.Common.{◌≡◌, ℕ, suc, ◌+◌, Bool, true, false, List, [], ◌∷◌, take, refl, arith}
use Rattle.std.specs.List.{list_all, prefix_len}

one_more : (n : ℕ) → 1 + n ≡ suc n
one_more n = omega arith

front_by : (p : ℕ → Bool) (x : ℕ) (xs : List ℕ) (b : Bool) → p x ≡ b → list_all p (take (prefix_len p xs) xs) ≡ true → list_all p (take (prefix_len p (x ∷ xs)) (x ∷ xs)) ≡ true
front_by p x xs true e h = rw (e, one_more (prefix_len p xs)) (rw e h)
front_by p x xs false e h = rw e refl

-- what is in front of the first that doesn't pass, passes
pub front_passes : (p : ℕ → Bool) (xs : List ℕ) → list_all p (take (prefix_len p xs) xs) ≡ true
front_passes p [] = refl
front_passes p (x ∷ xs) = front_by p x xs (p x) refl (front_passes p xs)
