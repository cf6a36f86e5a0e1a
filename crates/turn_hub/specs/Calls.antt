-- What contracts see of a hub and a seat, and what a call leaves.
use Rattle.std.specs.Prelude.{◌≡◌, ℤ, ℕ, ◌+◌, ◌<◌, List, [], ◌∷◌, ◌++◌, ◌⊎◌, length, Option, Some, Result, MatchResult, if◌then◌else◌, nat_le, map, slice_get}
use Rattle.turn_hub.specs.declared.entry.Did.{Did}
use Rattle.turn_hub.specs.declared.entry.HubStop.{HubStop}
use Rattle.turn_hub.specs.declared.entry.Answer.{Answer}
use Rattle.turn_hub.specs.declared.entry.Did.TheVariants as did
use Rattle.turn_hub.specs.declared.entry.HubStop.TheVariants as stop
use Rattle.turn_hub.specs.Words.{Words}
use Rattle.turn_hub.specs.Known.{Known}
use Rattle.turn_hub.specs.Rises.{Rises}
use Rattle.turn_hub.specs.History.{StartsWith, Legal, Judged, refusal, end_refusal, spent_at, lost, past, outcome, outbox}

-- the entries of the seat's own calls
abbrev pub own : {E : Type 0} → List (Did E) → List ℕ → List (Option (Did E))
own seen mine = map (slice_get seen) mine

module _ {K E O P : Type 0} (x : Words K E O P) where
  -- after a turn: the same hub, kind, units and places of others, a later turn, and a legal journal
  pub record Turned (v w : Known E K) : Type 0 where
    pub hub : w.hub ≡ v.hub
    pub kind : w.kind ≡ v.kind
    pub met : w.met ≡ v.met
    pub units : w.units ≡ v.units
    pub turn : v.turn < w.turn
    pub legal : Legal x w.kind w.seen
    pub rises : Rises 0 w.mine (length w.seen)

module _ {K E : Type 0} where
  -- no entry was made since the turn came, when the journal was this
  pub record Same (v w : Known E K) (before : List (Did E)) : Type 0 where
    pub seen : w.seen ≡ before
    pub mine : w.mine ≡ v.mine

  -- one entry was made, behind these
  pub record Added (v w : Known E K) (before : List (Did E)) (d : Did E) : Type 0 where
    pub seen : w.seen ≡ before ++ d ∷ []
    pub mine : w.mine ≡ v.mine ++ length before ∷ []

  -- the journal that was seen goes on with the one that was seen before, and no entry was made
  pub record Unchanged (v w : Known E K) : Type 0 where
    pub seen : StartsWith w.seen v.seen
    pub mine : w.mine ≡ v.mine

  abbrev pub Ends : Known E K → Known E K → Result ℕ HubStop → Type 0
  Ends v w r =
      (before : List (Did E)) × StartsWith before v.seen × Judged (end_refusal (past before)) r
      × MatchResult r (λ place. Added v w before did.End × (place ≡ length before)) (λ e. Same v w before)

  -- what two seats know together: all that either had seen, the later turn, and the units of both
  pub record Met (v note w : Known E K) : Type 0 where
    pub hub : w.hub ≡ v.hub
    pub kind : w.kind ≡ v.kind
    pub seen : StartsWith w.seen v.seen
    pub told : StartsWith w.seen note.seen
    pub one : (w.seen ≡ v.seen) ⊎ (w.seen ≡ note.seen)
    pub mine : w.mine ≡ v.mine
    pub met : w.met ≡ v.met ++ (note.mine ++ note.met)
    pub turn : w.turn ≡ (if nat_le v.turn note.turn then note.turn else v.turn)
    pub units : w.units ≡ v.units + note.units

module _ {K E O P : Type 0} (x : Words K E O P) where
  -- When its turn came the journal was `before`. There the event was stopped or got its outcome, or memory ran out, with a Lost or none
  abbrev pub Entered : Known E K → Known E K → E → Result (Answer O) HubStop → Type 0
  Entered v w event r =
      (before : List (Did E)) × StartsWith before v.seen × Judged (refusal x (past before) event) r
      × MatchResult r (λ a. Added v w before (did.Event event) × (a.place ≡ length before) × (a.outcome ≡ outcome x v.kind (past before) event))
      (λ e. Same v w before ⊎ ((e ≡ stop.OutOfMemory) × Added v w before did.Lost))

  -- a Took is made exactly where something was taken
  abbrev pub Takes : Known E K → Known E K → ℤ → Result (List P) HubStop → Type 0
  Takes v w peer r =
      (before : List (Did E)) × StartsWith before v.seen × Judged (spent_at (lost (past before))) r
      × MatchResult r
      (λ ks. (ks ≡ outbox x v.kind (past before) peer) × (((ks ≡ []) × Same v w before) ⊎ ((0 < length ks) × Added v w before (did.Took peer (length ks)))))
      (λ e. Same v w before)

-- an entry that was made is one more of its own, behind those that there were
abbrev pub OwnGrows : Type 0 → Type 0 → Type 0
OwnGrows E K =
    (v w : Known E K) (before : List (Did E)) (d : Did E) → Rises 0 v.mine (length v.seen) → StartsWith before v.seen → Added v w before d
    → own w.seen w.mine ≡ own v.seen v.mine ++ Some d ∷ []

-- where none was made, its own are what they were
abbrev pub OwnStays : Type 0 → Type 0 → Type 0
OwnStays E K = (v w : Known E K) → Rises 0 v.mine (length v.seen) → StartsWith w.seen v.seen → w.mine ≡ v.mine → own w.seen w.mine ≡ own v.seen v.mine
