-- A list that is two others, shuffled.
use Rattle.std.specs.Prelude.{◌≡◌, Bool, not, List, map}
use Rattle.std.specs.List.{filter}

module _ {A : Type 0} where
  abbrev pub entries : List (Bool × A) → List A
  entries s = map (λ e. e.1) s

  -- the entries of the first of two callers, where each entry says whether it is his
  abbrev pub firsts : List (Bool × A) → List A
  firsts s = entries (filter (λ e. e.0) s)

  abbrev pub seconds : List (Bool × A) → List A
  seconds s = entries (filter (λ e. not e.0) s)

  -- each entry of j is of one of two lists, each list's are in its order, and there are no others
  abbrev pub Shuffle : List A → List A → List A → Type 0
  Shuffle j xs ys = (s : List (Bool × A)) × (entries s ≡ j) × (firsts s ≡ xs) × (seconds s ≡ ys)
