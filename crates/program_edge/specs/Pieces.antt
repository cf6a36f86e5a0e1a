-- What a piece takes from a source and adds to a sink. Of an object that tells no bytes nothing is said.
use Rattle.std.specs.Prelude.{◌≡◌, ◌↔◌, ℕ, ◌≤◌, List, [], ◌++◌, length, take, Option, Some, None, Result, Ok, Err}

-- The first n bytes of the buffer came off the front of what was left; none came exactly at the end.
pub record Moves (left : List ℕ) (n : ℕ) (buffer : List ℕ) (after : Option (List ℕ)) : Type 0 where
  pub rest : List ℕ
  pub moved : left ≡ take n buffer ++ rest
  pub remains : after ≡ Some rest
  pub end : (n ≡ 0) ↔ (left ≡ [])

-- what `take` does to the bytes that are left
abbrev pub Takes : {E : Type 0} → Option (List ℕ) → Result ℕ E → List ℕ → Option (List ℕ) → Type 0
Takes None result buffer after = Unit {0}
Takes (Some left) (Ok n) buffer after = Moves left n buffer after
Takes (Some left) (Err e) buffer after = after ≡ Some left

-- what `put` does to the bytes that are held
abbrev pub Puts : {E : Type 0} → Option (List ℕ) → Result ℕ E → List ℕ → Option (List ℕ) → Type 0
Puts None result piece after = Unit {0}
Puts (Some held) (Ok n) piece after = after ≡ Some (held ++ take n piece)
Puts (Some held) (Err e) piece after = after ≡ Some held

-- what `put_all` does to the bytes that are held: all bytes were added, or some of the first
abbrev pub PutsAll : {E : Type 0} → Option (List ℕ) → Result (Unit {0}) E → List ℕ → Option (List ℕ) → Type 0
PutsAll None result bytes after = Unit {0}
PutsAll (Some held) (Ok u) bytes after = after ≡ Some (held ++ bytes)
PutsAll (Some held) (Err e) bytes after = (n : ℕ) × (n ≤ length bytes) × (after ≡ Some (held ++ take n bytes))
