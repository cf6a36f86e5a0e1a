-- The parts of a desk are those that its journal gives.
use Rattle.std.specs.Prelude.{◌≡◌, ℤ, ℕ, ◌≤◌, Bool, List, Option, None, length}
use Rattle.turn_hub.specs.Words.{Words}
use Rattle.turn_hub.specs.declared.entry.Did.{Did}
use Rattle.turn_hub.specs.History.{past, events_of, outbox, ended, lost, lost_at, Legal, event_count, byte_count, received, most_entries, most_bytes}

-- `stands` says which events the machine stands for, `outs` what waits for a peer
pub record Sound {K E O P : Type 0} (w : Words K E O P) (k : K) (stands : List E → Type 0) (spent : Bool) (rows : List (Did E)) (outs : ℤ → List P) (n b r : ℕ) (end : Option ℕ) : Type 0 where
  pub legal : Legal w k rows
  pub stands_for : lost (past rows) ≡ None → stands (events_of (past rows))
  pub lost_is : lost (past rows) ≡ lost_at spent (length rows)
  pub outs_are : (p : ℤ) → outs p ≡ outbox w k (past rows) p
  pub events : event_count w (past rows) ≡ n
  pub bytes : byte_count w (past rows) ≡ b
  pub got : received w (past rows) ≡ r
  pub ended_is : ended (past rows) ≡ end
  pub most : n ≤ most_entries
  pub most_weight : b ≤ most_bytes
  pub got_most : r ≤ n
