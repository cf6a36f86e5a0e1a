-- Shuffles of numbers.
use Rattle.std.specs.Prelude.{◌≡◌, ℕ, Bool, true, false, List, [], ◌∷◌, refl}
use Rattle.hub_callers.specs.Shuffle.{entries, firsts, seconds, Shuffle}

-- 1 and 3 by the first, 2 by the second
abbrev pub three : List (Bool × ℕ)
three = (true, 1) ∷ (false, 2) ∷ (true, 3) ∷ []

pub of_first : firsts three ≡ 1 ∷ 3 ∷ []
of_first = refl

pub of_second : seconds three ≡ 2 ∷ []
of_second = refl

pub between : Shuffle {A = ℕ} (1 ∷ 2 ∷ 3 ∷ []) (1 ∷ 3 ∷ []) (2 ∷ [])
between = (three, refl, refl, refl)

-- the same number by both
pub alike : Shuffle {A = ℕ} (7 ∷ 7 ∷ []) (7 ∷ []) (7 ∷ [])
alike = ((true, 7) ∷ (false, 7) ∷ [], refl, refl, refl)

pub nothing : Shuffle {A = ℕ} [] [] []
nothing = ([], refl, refl, refl)
