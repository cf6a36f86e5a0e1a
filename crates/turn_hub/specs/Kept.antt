-- What holds of the table between any two steps, and what each step tells.
use Rattle.std.specs.Prelude.{◌≡◌, ◌≢◌, ℕ, zero, suc, ◌+◌, ◌-◌, ◌<◌, ◌≤◌, List, [], ◌∷◌, ◌++◌, ◌⊎◌, length, nat_eq, nat_lt, nat_le, if◌then◌else◌, Option as Option', Some}
use mathlib.Core.Option.{Option, none, some}
use lib.ListN.{get_elem?}
use Rattle.atomic_table.specs.Table.{State, Me, Step}
use Rattle.turn_hub.specs.declared.entry.Did.{Did}
use Rattle.turn_hub.specs.declared.rule.View.{View}
use Rattle.turn_hub.specs.declared.rule.Stage.{Stage}
use Rattle.turn_hub.specs.declared.rule.Stage.TheVariants.{Idle, Waits, Holds, Closed}
use Rattle.turn_hub.specs.History.{StartsWith}

abbrev pub all_units : ℕ
all_units = 4294967296

-- how often p stands in a list
abbrev pub times : ℕ → List ℕ → ℕ
times p [] = 0
times p (x ∷ xs) = (if nat_eq x p then 1 else 0) + times p xs

-- the places below n, the greatest first
abbrev pub upto : ℕ → List ℕ
upto zero = []
upto (suc n) = n ∷ upto n

abbrev pub places_from : ℕ → ℕ → List ℕ
places_from a b = if nat_lt a b then a ∷ [] else []

abbrev pub HasTicket : Stage → Type 0
HasTicket Idle = ⊥
HasTicket Waits = Unit {0}
HasTicket Holds = Unit {0}
HasTicket Closed = ⊥

abbrev pub tickets : Stage → ℕ
tickets Idle = 0
tickets Waits = 1
tickets Holds = 1
tickets Closed = 0

-- the slot is out with this view
abbrev pub IsHolder : Stage → Type 0
IsHolder Idle = ⊥
IsHolder Waits = ⊥
IsHolder Holds = Unit {0}
IsHolder Closed = Unit {0}

-- A number that was drawn is served now or later. Who closes has all units
abbrev pub StageFits : ℕ → ℕ → ℕ → ℕ → Stage → Type 0
StageFits next serving ticket units Idle = Unit {0}
StageFits next serving ticket units Waits = (serving ≤ ticket) × (ticket < next)
StageFits next serving ticket units Holds = (ticket ≡ serving) × (ticket < next)
StageFits next serving ticket units Closed = units ≡ all_units

-- the slot: empty, or the kind of a machine and its journal
abbrev pub Slot : Type 0 → Type 0 → Type 0
Slot E K = Option' (K × List (Did E))

-- a caller: its view, and the slot where it holds it
abbrev pub Caller : Type 0 → Type 0 → Type 0
Caller E K = Me (Slot E K) (View E K)

module _ {E K : Type 0} where
  -- f of each view, added up
  abbrev pub total : (View E K → ℕ) → List (View E K) → ℕ
  total f [] = 0
  total f (v ∷ vs) = f v + total f vs

  -- ---- views

  abbrev pub first_view : K → View E K
  first_view k = record { kind = k; twin = k; stage = Idle; ticket = 0; held = []; seen = []; mine = []; met = []; turn = 0; units = all_units; offer = 0; other = [] }

  abbrev pub spent_view : K → View E K
  spent_view k = record { kind = k; twin = k; stage = Idle; ticket = 0; held = []; seen = []; mine = []; met = []; turn = 0; units = 0; offer = 0; other = [] }

  -- the view at another stage
  abbrev pub moved : Stage → ℕ → List (Did E) → View E K → View E K
  moved st t l v = record { kind = v.kind; twin = v.kind; stage = st; ticket = t; held = l; seen = v.seen; mine = v.mine; met = v.met; turn = v.turn; units = v.units; offer = 0; other = [] }

  -- the view after a turn that leaves this journal
  abbrev pub left : View E K → List (Did E) → View E K
  left v log = record { kind = v.kind; twin = v.kind; stage = Idle; ticket = 0; held = []; seen = log; mine = v.mine ++ places_from (length v.held) (length log); met = v.met; turn = v.ticket + 1; units = v.units; offer = 0; other = [] }

  -- the view that will give some units away
  abbrev pub offering : ℕ → View E K → View E K
  offering n v = record { kind = v.kind; twin = v.kind; stage = Idle; ticket = 0; held = []; seen = v.seen; mine = v.mine; met = v.met; turn = v.turn; units = v.units; offer = n; other = [] }

  -- the view without the units that it gives away, and the one that gets them
  abbrev pub giver : View E K → View E K
  giver v = record { kind = v.kind; twin = v.kind; stage = Idle; ticket = 0; held = []; seen = v.seen; mine = v.mine; met = v.met; turn = v.turn; units = v.units - v.offer; offer = 0; other = [] }

  abbrev pub newcomer : View E K → View E K
  newcomer v = record { kind = v.kind; twin = v.kind; stage = Idle; ticket = 0; held = []; seen = v.seen; mine = []; met = []; turn = v.turn; units = v.offer; offer = 0; other = [] }

  -- what two callers know together: the one with the later turn has seen more
  abbrev pub joined : View E K → View E K → View E K
  joined v w = record {
    kind = v.kind;
    twin = w.kind;
    stage = Idle;
    ticket = 0;
    held = [];
    seen = if nat_le v.turn w.turn then w.seen else v.seen;
    mine = v.mine;
    met = v.met ++ (w.mine ++ w.met);
    turn = if nat_le v.turn w.turn then w.turn else v.turn;
    units = v.units + w.units;
    offer = 0;
    other = if nat_le v.turn w.turn then v.seen else w.seen;
  }

  -- ---- the rule

  pub record Fits (key : K) (log : List (Did E)) (next serving : ℕ) (v : View E K) : Type 0 where
    pub kind : 0 < v.units → v.kind ≡ key
    pub twin : v.twin ≡ v.kind
    pub stage : StageFits next serving v.ticket v.units v.stage
    pub seen : StartsWith log v.seen
    pub turn : v.turn ≤ serving
    pub begins : StartsWith v.seen v.other

  -- a view with no unit stands for nobody
  abbrev pub IsBlank : View E K → Type 0
  IsBlank v = (v.stage ≡ Idle) × (v.mine ≡ []) × (v.met ≡ [])

  -- no two views have one ticket
  abbrev pub Single : List (View E K) → Type 0
  Single vs = (i j : ℕ) (v w : View E K) → get_elem? vs i ≡ some v → get_elem? vs j ≡ some w → HasTicket v.stage → HasTicket w.stage → v.ticket ≡ w.ticket → i ≡ j

  -- of two views that stand for somebody, the one with the later turn has seen what the other has
  abbrev pub Ordered : List (View E K) → Type 0
  Ordered vs = (i j : ℕ) (v w : View E K) → get_elem? vs i ≡ some v → get_elem? vs j ≡ some w → 0 < v.units → 0 < w.units → v.turn ≤ w.turn → StartsWith w.seen v.seen

  -- how often a place stands in a view
  abbrev pub marks : ℕ → View E K → ℕ
  marks p v = times p v.mine + times p v.met

  -- the machine is in its slot, and nobody holds it
  abbrev pub AtHome : K → List (Did E) → List (Option (Slot E K)) → List (View E K) → Type 0
  AtHome key log homes vs = (homes ≡ some (Some (key, log)) ∷ []) × ((by : ℕ) (v : View E K) → get_elem? vs by ≡ some v → ¬ (IsHolder v.stage))

  -- one caller holds it, and knows the journal
  abbrev pub Out : List (Did E) → List (Option (Slot E K)) → List (View E K) → Type 0
  Out log homes vs = (homes ≡ none ∷ []) × ((by : ℕ) × (v : View E K) × (get_elem? vs by ≡ some v) × IsHolder v.stage × (v.held ≡ log))

  pub record IsKept (key : K) (log : List (Did E)) (next serving : ℕ) (s : State (Slot E K) (View E K)) : Type 0 where
    pub words : s.words ≡ next ∷ serving ∷ []
    pub tickets : next ≡ serving + total (λ v. tickets v.stage) s.views
    pub units : total (λ v. v.units) s.views ≡ all_units
    pub places : (p : ℕ) → total (marks p) s.views ≡ times p (upto (length log))
    pub each : (by : ℕ) (v : View E K) → get_elem? s.views by ≡ some v → Fits key log next serving v
    pub blank : (by : ℕ) (v : View E K) → get_elem? s.views by ≡ some v → v.units ≡ 0 → IsBlank v
    pub single : Single s.views
    pub ordered : Ordered s.views
    pub slot : AtHome key log s.homes s.views ⊎ Out log s.homes s.views

  abbrev pub Kept : K → State (Slot E K) (View E K) → Type 0
  Kept key s = (log : List (Did E)) × (next : ℕ) × (serving : ℕ) × IsKept key log next serving s

  -- ---- the steps

  -- where the number found was the one that was asked for, it is drawn
  abbrev pub draws : Step (Slot E K) → Caller E K → ℕ → Caller E K → Type 0
  draws s me found after =
      ((found ≡ s.first) × (after ≡ (moved Waits s.first [] me.0, me.1)))
      ⊎ ((found ≢ s.first) × (after ≡ me))

  -- where the own number is served, the journal is taken
  abbrev pub looks : Step (Slot E K) → Caller E K → ℕ → Caller E K → Type 0
  looks s me found after =
      ((found ≡ me.0.ticket) × ((log : List (Did E)) × StartsWith log me.0.seen × (me.0.turn ≤ found) × (after ≡ (moved Holds me.0.ticket log me.0, (0, Some (me.0.kind, log)) ∷ me.1))))
      ⊎ ((found ≢ me.0.ticket) × (after ≡ me))

  -- what was held is given back, and is what the caller has seen
  abbrev pub leaves : Step (Slot E K) → Caller E K → ℕ → Caller E K → Type 0
  leaves s me found after = (log : List (Did E)) × (me.1 ≡ (0, Some (me.0.kind, log)) ∷ []) × (after ≡ (left me.0 log, []))

  -- the journal is taken for good, and has the places of this caller and of those that it met, each once
  abbrev pub closes : Step (Slot E K) → Caller E K → ℕ → Caller E K → Type 0
  closes s me found after =
      (log : List (Did E)) × StartsWith log me.0.seen × ((p : ℕ) → times p me.0.mine + times p me.0.met ≡ times p (upto (length log)))
      × (after ≡ (moved Closed 0 log me.0, (0, Some (me.0.kind, log)) ∷ []))

  abbrev pub counts : Step (Slot E K) → Caller E K → ℕ → Caller E K → Type 0
  counts s me found after = (me.0.units ≤ all_units) × (me.0.twin ≡ me.0.kind) × StartsWith me.0.seen me.0.other × (after ≡ me)

  abbrev pub offers : Step (Slot E K) → Caller E K → ℕ → Caller E K → Type 0
  offers s me found after = after ≡ (offering s.first me.0, me.1)
