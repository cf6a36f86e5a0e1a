-- The entries of a journal, and what follows from them. `past` has the newest entry first; the other lists of entries have the oldest first.
use Rattle.std.specs.Prelude.{◌≡◌, ℤ, ℕ, ◌+◌, ◌-◌, ◌<◌, Bool, List, [], ◌∷◌, ◌++◌, length, nat_eq, nat_lt, filter, if◌then◌else◌, Option, Some, None, sum_by, ◌||◌, ◌⊎◌, Result, MatchResult}
use Rattle.std.specs.Ordering.{int_eq}
use Rattle.turn_hub.specs.Words.{Words}
use Rattle.turn_hub.specs.declared.entry.Did.{Did}
use Rattle.turn_hub.specs.declared.entry.Did.TheVariants as did
use Rattle.turn_hub.specs.declared.entry.HubStop.{HubStop}
use Rattle.turn_hub.specs.declared.entry.HubStop.TheVariants as stop

-- a history begins with what was seen
abbrev pub StartsWith : {E : Type 0} → List (Did E) → List (Did E) → Type 0
StartsWith {E} log seen = (rest : List (Did E)) × (log ≡ seen ++ rest)

-- the entries, the newest first, before others
abbrev pub turned_onto : {E : Type 0} → List (Did E) → List (Did E) → List (Did E)
turned_onto h [] = h
turned_onto h (d ∷ ds) = turned_onto (d ∷ h) ds

abbrev pub past : {E : Type 0} → List (Did E) → List (Did E)
past log = turned_onto [] log

-- at most one entry more
abbrev pub Grows : {E : Type 0} → List (Did E) → List (Did E) → Type 0
Grows {E} log new = (new ≡ log) ⊎ ((d : Did E) × (new ≡ log ++ d ∷ []))

-- ---- of entries with the newest first

abbrev pub events_of : {E : Type 0} → List (Did E) → List E
events_of [] = []
events_of (did.Event e ∷ h) = e ∷ events_of h
events_of (did.Took p n ∷ h) = events_of h
events_of (did.End ∷ h) = events_of h
events_of (did.Lost ∷ h) = events_of h

-- the place of the End
abbrev pub ended : {E : Type 0} → List (Did E) → Option ℕ
ended [] = None
ended (did.Event e ∷ h) = ended h
ended (did.Took p n ∷ h) = ended h
ended (did.End ∷ h) = Some (length h)
ended (did.Lost ∷ h) = ended h

-- the place of the Lost at the end
abbrev pub lost : {E : Type 0} → List (Did E) → Option ℕ
lost [] = None
lost (did.Event e ∷ h) = None
lost (did.Took p n ∷ h) = None
lost (did.End ∷ h) = None
lost (did.Lost ∷ h) = Some (length h)

-- the place of the Lost of a journal of n entries, where its machine is spent
abbrev pub lost_at : Bool → ℕ → Option ℕ
lost_at spent n = if spent then Some (n - 1) else None

-- ---- why an event is not entered

abbrev pub most_entries : ℕ
most_entries = 1000000

abbrev pub most_bytes : ℕ
most_bytes = 268435456

abbrev pub spent_at : Option ℕ → Option HubStop
spent_at (Some p) = Some (stop.Spent p)
spent_at None = None

abbrev pub full_or : ℕ → ℕ → ℕ → Option HubStop → Option HubStop
full_or n b more other = if (nat_eq n most_entries || nat_lt most_bytes (b + more)) then Some (stop.JournalFull n b) else other

abbrev pub ended_or : Option ℕ → Option HubStop → Option HubStop
ended_or (Some p) other = Some (stop.Ended p)
ended_or None other = other

abbrev pub end_refusal : {E : Type 0} → List (Did E) → Option HubStop
end_refusal h = ended_or (ended h) (spent_at (lost h))

-- a call stops for the stated reason exactly where there is one; else it may still stop for want of memory
abbrev pub Judged : {A : Type 0} → Option HubStop → Result A HubStop → Type 0
Judged why r = MatchResult r (λ _. why ≡ None) (λ e. (why ≡ Some e) ⊎ ((e ≡ stop.OutOfMemory) × (why ≡ None)))

-- ---- by the definitions of a machine

module _ {K E O P : Type 0} (w : Words K E O P) where
  abbrev pub is_for : ℤ → P → Bool
  is_for p x = int_eq (w.link x) p

  -- the bytes of packets
  abbrev pub size_of : List P → ℕ
  size_of xs = sum_by w.size xs

  abbrev pub event_count : List (Did E) → ℕ
  event_count h = length (events_of h)

  -- what the events of a journal count together
  abbrev pub byte_count : List (Did E) → ℕ
  byte_count h = sum_by w.weight (events_of h)

  -- how many events were received
  abbrev pub received : List (Did E) → ℕ
  received h = length (filter w.is_received (events_of h))

  abbrev pub refusal : List (Did E) → E → Option HubStop
  refusal h e = ended_or (ended h) (full_or (event_count h) (byte_count h) (w.weight e) (spent_at (lost h)))

  -- the outcome of an event after these entries
  abbrev pub outcome : K → List (Did E) → E → O
  outcome k h e = w.answer k (events_of h) e

  -- the packets for a peer in the outcomes since it was last taken from, in order
  abbrev pub outbox : K → List (Did E) → ℤ → List P
  outbox k [] p = []
  outbox k (did.Event e ∷ h) p = outbox k h p ++ filter (is_for p) (w.sends (outcome k h e))
  outbox k (did.Took q n ∷ h) p = if int_eq q p then [] else outbox k h p
  outbox k (did.End ∷ h) p = outbox k h p
  outbox k (did.Lost ∷ h) p = outbox k h p

  -- what may stand after these entries
  abbrev pub May : K → List (Did E) → Did E → Type 0
  May k h (did.Event e) = (ended h ≡ None) × (lost h ≡ None)
  May k h (did.Took p n) = (length (outbox k h p) ≡ n) × (0 < n) × (lost h ≡ None)
  May k h did.End = (ended h ≡ None) × (lost h ≡ None)
  May k h did.Lost = lost h ≡ None

  abbrev pub LegalPast : K → List (Did E) → Type 0
  LegalPast k [] = Unit {0}
  LegalPast k (d ∷ h) = May k h d × LegalPast k h

  -- no event stands after an End, a Lost stands last, and each Took counts what was there
  abbrev pub Legal : K → List (Did E) → Type 0
  Legal k log = LegalPast k (past log)
