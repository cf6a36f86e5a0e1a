-- Which calls of a source or a sink in memory fail.
use Rattle.std.specs.Prelude.{ℕ, ◌+◌, ◌-◌, ◌^◌, min, Bool, List, nat_eq}
use Rattle.std.specs.List.{list_any}

-- the number of the call behind so many calls; the count stops at the greatest number of a u64
abbrev pub next_call : ℕ → ℕ
next_call calls = min (calls + 1) (2 ^ 64 - 1)

-- whether this call is one of those that are to fail
abbrev pub is_failing : List ℕ → ℕ → Bool
is_failing failing call = list_any (λ k. nat_eq k call) failing
