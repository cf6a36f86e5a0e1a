-- What contracts see of a seat.
use Rattle.std.specs.Prelude.{ℕ, List}
use Rattle.atomic_table.specs.Seated.{TableId}
use Rattle.turn_hub.specs.declared.entry.Did.{Did}

pub record Known (E K : Type 0) : Type 0 where
  pub hub : TableId
  -- the kind of the machine
  pub kind : K
  -- the journal as it was seen last, the oldest entry first
  pub seen : List (Did E)
  -- the places of its own entries, rising
  pub mine : List ℕ
  -- the places of the entries of the seats that were met into it
  pub met : List ℕ
  -- the serving word as its last turn left it
  pub turn : ℕ
  pub units : ℕ
