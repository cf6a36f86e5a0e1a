-- Reading that may find something wrong, and what a function's answer has to do with it.
use Rattle.std.specs.Prelude.{◌≡◌, List, [], ◌∷◌, Result, Ok, Err}
use Rattle.serde_json.specs.Data.{Data, Items, no_items, item}
use Rattle.program_edge.specs.declared.status.LineWhy.{LineWhy}
use Rattle.program_edge.specs.declared.stop.LineStop.{LineStop}
use Rattle.program_edge.specs.declared.stop.LineStop.TheVariants as stops

-- what is read of one JSON value
abbrev pub Reading : Type 0 → Type 0
Reading X = Data → Result X LineWhy

-- the next step takes what a step gave; the first thing wrong ends it
infixl 10 ◌>>=◌
abbrev pub ◌>>=◌ : {A B : Type 0} → Result A LineWhy → (A → Result B LineWhy) → Result B LineWhy
(Ok x) >>= f = f x
(Err why) >>= f = Err why

-- a stop is either that reading finds this wrong, or that memory ran out
abbrev pub Fails : {Y : Type 0} → LineStop → Result Y LineWhy → Type 0
Fails stops.OutOfMemory read = Unit {0}
Fails (stops.LineBad why) read = read ≡ Err why

-- what a function returned, seen by view, is what reading gives, unless memory ran out
abbrev pub Gives : {X Y : Type 0} → (X → Y) → Result X LineStop → Result Y LineWhy → Type 0
Gives view (Ok x) read = read ≡ Ok (view x)
Gives view (Err stop) read = Fails stop read

-- each item of an array, in order
unfoldable pub each_read : {X : Type 0} → Reading X → Items → Result (List X) LineWhy
each_read read no_items = Ok []
each_read read (item d ds) = do
  x ← read d
  xs ← each_read read ds
  Ok (x ∷ xs)
