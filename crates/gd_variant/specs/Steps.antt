-- Steps of which one may fail, and what a function's answer has to do with them.
use Rattle.std.specs.Prelude.{◌≡◌, Option, Some, None, Result, Ok, Err}

-- the next step takes what a step gave; the first failure ends it
infixl 10 ◌>>=◌
abbrev pub ◌>>=◌ : {A B E : Type 0} → Result A E → (A → Result B E) → Result B E
(Ok x) >>= f = f x
(Err e) >>= f = Err e

-- why a function stopped is why the steps fail; one that stopped for want of memory has no such reason
abbrev pub FailsWith : {E Y : Type 0} → Option E → Result Y E → Type 0
FailsWith None steps = Unit {0}
FailsWith (Some e) steps = steps ≡ Err e

-- what a function returned, seen by view, is what the steps give, unless memory ran out
abbrev pub GivesBy : {S E X Y : Type 0} → (S → Option E) → (X → Y) → Result X S → Result Y E → Type 0
GivesBy reason view (Ok x) steps = steps ≡ Ok (view x)
GivesBy reason view (Err stop) steps = FailsWith (reason stop) steps
