-- Lists with one element changed or taken away.
use Rattle.std.specs.Prelude.{ℕ, Bool, cond, List, [], ◌∷◌, slice_get}
use Rattle.std.specs.List.{slice_set}
use Rattle.std.specs.Option.{option_map_or}

-- the list with the element at a place changed, where there is one
abbrev pub change_at : {X : Type 0} → ℕ → (X → X) → List X → List X
change_at i f xs = option_map_or (λ x. slice_set xs i (f x)) (slice_get xs i) xs

-- the list with its first element that passes the test changed
abbrev pub change_first : {X : Type 0} → (X → Bool) → (X → X) → List X → List X
change_first test f [] = []
change_first test f (x ∷ xs) = cond (test x) (f x ∷ xs) (x ∷ change_first test f xs)

-- the list without its first element that passes the test
abbrev pub without_first : {X : Type 0} → (X → Bool) → List X → List X
without_first test [] = []
without_first test (x ∷ xs) = cond (test x) xs (x ∷ without_first test xs)
