-- A caller's own entries, one event later, and those of two that were met.
use Rattle.std.proofs.Common.{◌≡◌, ℕ, None, take, get_or, zero, suc, ◌+◌, ◌<◌, ◌≤◌, List, [], ◌∷◌, ◌++◌, length, refl, sym, ap, ap₂, subst, ◌∙◌, map, append_assoc, arith, Option, Some, Result, Ok, Err, OnOk, is_err, nat_eq, Bool, if◌then◌else◌, ne_eqb, eqb-true, true, false}
use Rattle.std.proofs.lemmas.Bool.{eqb-false, true≢false}
use Rattle.std.proofs.lemmas.List.{append-nil, map-append, length-append, take_more}
use Rattle.std.specs.List.{slice_get}
use Rattle.turn_hub.specs.declared.entry.Did.{Did}
use Rattle.turn_hub.specs.declared.entry.Did.TheVariants as did
use Rattle.turn_hub.specs.Words.{Words}
use Rattle.turn_hub.specs.History.{StartsWith, lost, past, turned_onto}
use Rattle.turn_hub.specs.Kept.{times, upto}
use Rattle.turn_hub.specs.Known.{Known}
use Rattle.turn_hub.specs.Rises.{Rises}
use Rattle.turn_hub.specs.Calls.{own, Turned, Added, Met}
use Rattle.turn_hub.proofs.Totals.{times-append}
use Rattle.turn_hub.proofs.Turns.{own_grows, own_stays}
use Rattle.hub_callers.specs.Entries.{entry, Entries}
use Rattle.hub_callers.specs.Shuffle.{Shuffle, entries, firsts, seconds}
use Rattle.hub_callers.proofs.Shuffling.{shuffled_at}

pub of_ok : {A E : Type 0} (r : Result A E) (x : A) (X : Type 0) → r ≡ Ok x → OnOk r X → X
of_ok r x X e h = subst (λ (q : Result _ _). OnOk q X) e h

pub not_err : {A E : Type 0} (r : Result A E) (X : Type 0) → is_err r ≡ false → OnOk r X → X
not_err (Ok x) X e h = h
not_err (Err x) X e h = absurd (true≢false e)

-- ---- places below n

upto_from : (n p : ℕ) → n ≤ p → times p (upto n) ≡ 0
upto_from zero p h = refl
upto_from (suc n) p h =
    let z = ap (λ (c : Bool). (if c then 1 else 0) + times p (upto n)) (ne_eqb n p (λ e. absurd (omega (arith, h, e)))) in
    let k = upto_from n p (omega (arith, h)) in omega (arith, z, k)

upto_by : (n p : ℕ) (c : Bool) → nat_eq n p ≡ c → p < suc n → (p < n → times p (upto n) ≡ 1) → (c ≡ true → n ≡ p) → (c ≡ false → n ≡ p → ⊥) → times p (upto (suc n)) ≡ 1
upto_by n p true e h k y o =
    let z = ap (λ (c : Bool). (if c then 1 else 0) + times p (upto n)) e in
    let q = y refl in
    let r = upto_from n p (omega (arith, q)) in omega (arith, z, r)
upto_by n p false e h k y o =
    let z = ap (λ (c : Bool). (if c then 1 else 0) + times p (upto n)) e in
    let q = o refl in
    let r = k (omega (arith, h, q)) in omega (arith, z, r)

-- each place below n stands once among them
upto_has : (n p : ℕ) → p < n → times p (upto n) ≡ 1
upto_has zero p h = absurd (omega (arith, h))
upto_has (suc n) p h = upto_by n p (nat_eq n p) refl h (upto_has n p) (λ e. eqb-true n p e) (λ e. eqb-false n p e)

module _ {E : Type 0} where
  pub chain : (x y z : List (Did E)) → StartsWith y x → StartsWith z y → StartsWith z x
  chain x y z h k = (h.0 ++ k.0, k.1 ∙ ap (λ (l : List (Did E)). l ++ k.0) h.1 ∙ append_assoc x h.0 k.0)

rises_later : (a : ℕ) (ps : List ℕ) (n m : ℕ) → Rises a ps n → n ≤ m → Rises a ps m
rises_later a [] n m h le = omega (arith, h, le)
rises_later a (p ∷ ps) n m h le = (h.0, rises_later (p + 1) ps n m h.1 le)

abbrev row : {E : Type 0} → E → Option (Did E)
row e = Some (entry e)

rows_are : {E : Type 0} (es : List E) → map row es ≡ map (λ d. Some d) (map entry es)
rows_are [] = refl
rows_are (e ∷ es) = ap (λ (l : List (Option (Did _))). row e ∷ l) (rows_are es)

module _ {E K : Type 0} where
  pub begins : (v : Known E K) → Rises 0 v.mine (length v.seen) → Entries v v []
  begins v r = record { hub = refl; kind = refl; met = refl; units = refl; rises = r; own = sym (append-nil (own v.seen v.mine)) }

  longer : (k : Known E K) (j : List (Did E)) → StartsWith j k.seen → Rises 0 k.mine (length k.seen) → own j k.mine ≡ own k.seen k.mine
  longer k j s r = own_stays k record { hub = k.hub; kind = k.kind; seen = j; mine = k.mine; met = k.met; turn = k.turn; units = k.units } r s refl

  within : (k : Known E K) (j : List (Did E)) → StartsWith j k.seen → Rises 0 k.mine (length k.seen) → Rises 0 k.mine (length j)
  within k j s r = rises_later 0 k.mine (length k.seen) (length j) r (omega (arith, ap length s.1, length-append k.seen s.0))

  pub goes_on : {O P : Type 0} (x : Words K E O P) (v u w : Known E K) (es : List E) (before : List (Did E)) (e : E) → Entries v u es → StartsWith before u.seen → Turned x u w → Added u w before (did.Event e) → Entries v w (es ++ e ∷ [])
  goes_on x v u w es before e s st t a = record {
    hub = t.hub ∙ s.hub;
    kind = t.kind ∙ s.kind;
    met = t.met ∙ s.met;
    units = t.units ∙ s.units;
    rises = t.rises;
    own = own_grows u w before (did.Event e) s.rises st a ∙ ap (λ (l : List (Option (Did E))). l ++ row e ∷ []) s.own ∙ append_assoc (own v.seen v.mine) (map row es) (row e ∷ []) ∙ ap (λ (l : List (Option (Did E))). own v.seen v.mine ++ l) (sym (map-append row es (e ∷ [])));
  }

  -- what stands at the places of a caller that had made no entry
  its_entries : (v a : Known E K) (j : List (Did E)) (es : List E) → v.mine ≡ [] → Entries v a es → StartsWith j a.seen → map (slice_get j) a.mine ≡ map (λ d. Some d) (map entry es)
  its_entries v a j es vm s st = longer a j st s.rises ∙ s.own ∙ ap (λ (l : List ℕ). own v.seen l ++ map row es) vm ∙ rows_are es

  -- what two entered, who then were met into a third that made no entry, is shuffled in the journal
  pub shuffled : (one v w a b m all : Known E K) (j : List (Did E)) (es fs : List E) → one.mine ≡ [] → one.met ≡ [] → v.mine ≡ [] → w.mine ≡ [] → v.met ≡ [] → w.met ≡ []
      → Entries v a es → Entries w b fs → Met one a m → Met m b all → StartsWith j all.seen
      → ((p : ℕ) → times p all.mine + times p all.met ≡ times p (upto (length j))) → Shuffle j (map entry es) (map entry fs)
  shuffled one v w a b m all j es fs om on vm wm vn wn s t k l st pl =
      let seen = chain m.seen all.seen j l.seen st in
      let first = chain a.seen m.seen j k.told seen in
      let second = chain b.seen all.seen j l.told st in
      let mine : all.mine ≡ [] = l.mine ∙ k.mine ∙ om in
      let one_met : m.met ≡ a.mine = k.met ∙ ap₂ (λ (x y : List ℕ). x ++ (a.mine ++ y)) on (s.met ∙ vn) ∙ append-nil a.mine in
      let met : all.met ≡ a.mine ++ b.mine = l.met ∙ ap₂ (λ (x y : List ℕ). x ++ (b.mine ++ y)) one_met (t.met ∙ wn) ∙ ap (λ (x : List ℕ). a.mine ++ x) (append-nil b.mine) in
      shuffled_at j a.mine b.mine (map entry es) (map entry fs) (within a j first s.rises) (within b j second t.rises)
      (λ p h below.
      let x : times p all.mine ≡ 0 = ap (times p) mine in
      let y : times p all.met ≡ times p (a.mine ++ b.mine) = ap (times p) met in
      let z = times-append p a.mine b.mine in
      let q = pl p in
      let u = upto_has (length j) p below in omega (arith, x, y, z, q, u))
      (its_entries v a j es vm s first)
      (its_entries w b j fs wm t second)

-- the events so far, and the next
pub next_taken : {E : Type 0} (es : List E) (i : ℕ) (e item : E) → i < length es → item ≡ get_or es i item → e ≡ item → take (i + 1) es ≡ take i es ++ e ∷ []
next_taken {E} es i e item low is same = take_more es i item low ∙ ap (λ (x : E). take i es ++ x ∷ []) (sym is ∙ sym same)

-- ---- a journal of events alone has no Lost

module _ {E : Type 0} where
  abbrev pub IsEvent : Did E → Type 0
  IsEvent (did.Event e) = Unit {0}
  IsEvent (did.Took p n) = ⊥
  IsEvent did.End = ⊥
  IsEvent did.Lost = ⊥

  abbrev pub AreEvents : List (Did E) → Type 0
  AreEvents [] = Unit {0}
  AreEvents (d ∷ ds) = IsEvent d × AreEvents ds

  no_lost : (h : List (Did E)) → AreEvents h → lost h ≡ None
  no_lost [] a = refl
  no_lost (did.Event e ∷ h) a = refl
  no_lost (did.Took p n ∷ h) a = absurd a.0
  no_lost (did.End ∷ h) a = absurd a.0
  no_lost (did.Lost ∷ h) a = absurd a.0

  turned_events : (h ds : List (Did E)) → AreEvents h → AreEvents ds → AreEvents (turned_onto h ds)
  turned_events h [] a b = a
  turned_events h (d ∷ ds) a b = turned_events (d ∷ h) ds (b.0, a) b.1

  entries_are : (es : List E) → AreEvents (map entry es)
  entries_are [] = tt
  entries_are (e ∷ es) = (tt, entries_are es)

  both_are : (s : List (Bool × Did E)) → AreEvents (firsts s) → AreEvents (seconds s) → AreEvents (entries s)
  both_are [] f g = tt
  both_are ((true, d) ∷ s) f g = (f.0, both_are s f.1 g)
  both_are ((false, d) ∷ s) f g = (g.0, both_are s f g.1)

  pub none_lost : (j : List (Did E)) (es fs : List E) → Shuffle j (map entry es) (map entry fs) → lost (past j) ≡ None
  none_lost j es fs s =
      let f = subst AreEvents (sym s.2) (entries_are es) in
      let g = subst AreEvents (sym s.3) (entries_are fs) in
      no_lost (past j) (turned_events [] j tt (subst AreEvents s.1 (both_are s.0 f g)))
