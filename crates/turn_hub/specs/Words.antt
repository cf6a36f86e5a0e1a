-- The definitions of a machine's answers, and what a hub has to know of its events and packets.
use Rattle.std.specs.Prelude.{ℤ, ℕ, Bool, List}

pub record Words (K E O P : Type 0) : Type 0 where
  -- the answer to an event after these, the newest first
  pub answer : K → List E → E → O
  pub sends : O → List P
  pub link : P → ℤ
  pub size : P → ℕ
  -- what an event counts in the journal
  pub weight : E → ℕ
  pub is_received : E → Bool
