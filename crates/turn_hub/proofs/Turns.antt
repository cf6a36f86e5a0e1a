-- What a turn did.
use Rattle.std.proofs.Common.{◌≡◌, ℤ, ℕ, Bool, true, false, ◌+◌, ◌<◌, ◌≤◌, List, [], ◌∷◌, ◌++◌, length, refl, sym, ap, ap₂, subst, map, append_assoc, ◌∙◌, ◌⊎◌, inl, inr, arith, Option, Some, None, Result, Ok, Err, IfOk, IfErr, OnErr, if◌then◌else◌, nat_lt, nat_le}
use Rattle.std.proofs.lemmas.List.{append-nil, length-append, map-append, get_or_append_left}
use Rattle.std.proofs.lemmas.Option.{slice_get-get_or}
use Rattle.std.proofs.Math.Seq.{get_or-append_seam}
use Rattle.std.specs.List.{slice_get}
use Rattle.std.proofs.lemmas.Bool.{le-ltb, lt-ltb}
use Rattle.atomic_table.specs.Table.{rest}
use Rattle.atomic_table.specs.Seated.{TableId}
use Rattle.turn_hub.specs.Words.{Words}
use Rattle.turn_hub.specs.declared.entry.Answer.{Answer}
use Rattle.turn_hub.specs.declared.entry.Did.{Did}
use Rattle.turn_hub.specs.declared.entry.Did.TheVariants as did
use Rattle.turn_hub.specs.declared.entry.HubStop.{HubStop}
use Rattle.turn_hub.specs.declared.entry.HubStop.TheVariants as stop
use Rattle.turn_hub.specs.declared.rule.View.{View}
use Rattle.turn_hub.specs.declared.rule.Stage.TheVariants.{Holds}
use Rattle.turn_hub.specs.History.{StartsWith, Legal, Judged, Grows, refusal, end_refusal, spent_at, lost, past, outcome, outbox}
use Rattle.turn_hub.specs.Kept.{all_units, Slot, Caller, moved, left, places_from, joined}
use Rattle.turn_hub.specs.Known.{Known}
use Rattle.turn_hub.specs.Ready.{known, Ready}
use Rattle.turn_hub.specs.Rises.{Rises}
use Rattle.turn_hub.specs.Calls.{Turned, Same, Added, Unchanged, Entered, Ends, Takes, own}
use Rattle.turn_hub.proofs.Steps.{both_seen}

-- ---- places that rise

rises_later : (a : ℕ) (ps : List ℕ) (n m : ℕ) → Rises a ps n → n ≤ m → Rises a ps m
rises_later a [] n m h le = omega (arith, h, le)
rises_later a (p ∷ ps) n m h le = (h.0, rises_later (p + 1) ps n m h.1 le)

rises_snoc : (a : ℕ) (ps : List ℕ) (n m : ℕ) → Rises a ps n → n ≤ m → Rises a (ps ++ m ∷ []) (m + 1)
rises_snoc a [] n m h le = (omega (arith, h, le), omega arith)
rises_snoc a (p ∷ ps) n m h le = (h.0, rises_snoc (p + 1) ps n m h.1 le)

rises_below : (a : ℕ) (ps : List ℕ) (b : ℕ) → Rises a ps b → a ≤ b
rises_below a [] b h = h
rises_below a (p ∷ ps) b h = let k = rises_below (p + 1) ps b h.1 in omega (arith, h.0, k)

module _ {E : Type 0} where
  no_place : (mine : List ℕ) (log new : List (Did E)) → new ≡ log → mine ++ places_from (length log) (length new) ≡ mine
  no_place mine log new e =
      let z : nat_lt (length log) (length new) ≡ false = le-ltb (length log) (length new) (omega (arith, ap length e)) in
      ap (λ (b : Bool). mine ++ (if b then length log ∷ [] else [])) z ∙ append-nil mine

  one_place : (mine : List ℕ) (log new : List (Did E)) (d : Did E) → new ≡ log ++ d ∷ [] → mine ++ places_from (length log) (length new) ≡ mine ++ length log ∷ []
  one_place mine log new d e =
      let z : nat_lt (length log) (length new) ≡ true = lt-ltb (length log) (length new) (omega (arith, ap length e, length-append log (d ∷ []))) in
      ap (λ (b : Bool). mine ++ (if b then length log ∷ [] else [])) z

  rises_on : (mine : List ℕ) (seen log new : List (Did E)) → Rises 0 mine (length seen) → StartsWith log seen → Grows log new → Rises 0 (mine ++ places_from (length log) (length new)) (length new)
  rises_on mine seen log new h s g =
      let le : length seen ≤ length log = omega (arith, ap length s.1, length-append seen s.0) in
      elim g [
        | inl e ↦ subst (λ (ps : List ℕ). Rises 0 ps (length new)) (sym (no_place mine log new e)) (rises_later 0 mine (length seen) (length new) h (omega (arith, le, ap length e)))
        | inr d ↦
            let n : length new ≡ length log + 1 = omega (arith, ap length d.1, length-append log (d.0 ∷ [])) in
            subst (λ (m : ℕ). Rises 0 (mine ++ places_from (length log) (length new)) m) (sym n) (subst (λ (ps : List ℕ). Rises 0 ps (length log + 1)) (sym (one_place mine log new d.0 d.1)) (rises_snoc 0 mine (length seen) (length log) h le))
      ]

module _ {E K : Type 0} where
  pub slot_out : (c l : List (ℕ × Slot E K)) (x : Slot E K) → c ≡ (0, x) ∷ l → (y : Slot E K) × (c ≡ (0, y) ∷ rest c)
  slot_out c l x e = (x, e ∙ ap (λ (d : List (ℕ × Slot E K)). (0, x) ∷ rest d) (sym e))

  -- the view once the turn is over
  abbrev pub after : View E K → ℕ → List (Did E) → List (Did E) → View E K
  after v n log new = left (moved Holds n log v) new

  pub after_is : (v : View E K) (n : ℕ) (log new : List (Did E)) (took gave : Caller E K) → took ≡ (moved Holds n log v, (0, None) ∷ []) → gave ≡ (left took.0 new, []) → gave.0 ≡ after v n log new
  after_is v n log new took gave t g = ap (λ (m : Caller E K). m.0) g ∙ ap (λ (m : Caller E K). left m.0 new) t

  abbrev pub on : Known E K → ℕ → List (Did E) → List (Did E) → Known E K
  on v n log new = record { hub = v.hub; kind = v.kind; seen = new; mine = v.mine ++ places_from (length log) (length new); met = v.met; turn = n + 1; units = v.units }

  pub then_is : (hub hub' : TableId) (u : View E K) (units n : ℕ) (log new : List (Did E)) (took gave : Caller E K) (v : Known E K)
      → hub' ≡ hub → took ≡ (moved Holds n log u, (0, None) ∷ []) → gave ≡ (left took.0 new, []) → known hub u units ≡ v → known hub' gave.0 units ≡ on v n log new
  then_is hub hub' u units n log new took gave v h t g e =
      ap (λ (i : TableId). known i gave.0 units) h ∙ ap (λ (x : View E K). known hub x units) (after_is u n log new took gave t g) ∙ ap (λ (x : Known E K). on x n log new) e

  pub same : (v w : Known E K) (n : ℕ) (log new : List (Did E)) → w ≡ on v n log new → new ≡ log → Same v w log
  same v w n log new e eq = subst (λ (x : Known E K). Same v x log) (sym e) (record { seen = eq; mine = no_place v.mine log new eq })

  pub added : (v w : Known E K) (n : ℕ) (log new : List (Did E)) (d : Did E) → w ≡ on v n log new → new ≡ log ++ d ∷ [] → Added v w log d
  added v w n log new d e eq = subst (λ (x : Known E K). Added v x log d) (sym e) (record { seen = eq; mine = one_place v.mine log new d eq })

  pub unchanged : (v w : Known E K) (n : ℕ) (log : List (Did E)) → w ≡ on v n log log → StartsWith log v.seen → Unchanged v w
  unchanged v w n log e s = subst (Unchanged v) (sym e) (record { seen = s; mine = no_place v.mine log log refl })

  -- what the count tells of the two
  pub counted : (key : K) (me : Caller E K) (w : View E K) (met now : Caller E K) → met ≡ (joined me.0 w, me.1) → (met.0.units ≤ all_units) × (met.0.twin ≡ met.0.kind) × StartsWith met.0.seen met.0.other × (now ≡ met)
      → ((joined me.0 w).units ≤ all_units) × (StartsWith (joined me.0 w).seen me.0.seen × StartsWith (joined me.0 w).seen w.seen) × (now ≡ (joined me.0 w, me.1)) × (w.kind ≡ me.0.kind)
  counted key me w met now e t =
      let v = ap (λ (m : Caller E K). m.0) e in (
        subst (λ (x : View E K). x.units ≤ all_units) v t.0,
        both_seen key me.0 w (subst (λ (x : View E K). StartsWith x.seen x.other) v t.2),
        t.3 ∙ e,
        subst (λ (x : View E K). x.twin ≡ x.kind) v t.1,
      )

-- ---- the seat's own entries

module _ {E : Type 0} where
  get_front : (xs ys : List (Did E)) (p : ℕ) → p < length xs → slice_get (xs ++ ys) p ≡ slice_get xs p
  get_front xs ys p h =
      slice_get-get_or (xs ++ ys) p did.Lost (omega (arith, h, length-append xs ys)) ∙ ap (λ (x : Did E). Some x) (get_or_append_left xs ys did.Lost p h) ∙ sym (slice_get-get_or xs p did.Lost h)

  get_last : (xs : List (Did E)) (d : Did E) → slice_get (xs ++ d ∷ []) (length xs) ≡ Some d
  get_last xs d = slice_get-get_or (xs ++ d ∷ []) (length xs) d (omega (arith, length-append xs (d ∷ []))) ∙ ap (λ (x : Did E). Some x) (get_or-append_seam xs d [] d)

  own_longer : (xs ys : List (Did E)) (a : ℕ) (ps : List ℕ) → Rises a ps (length xs) → map (slice_get (xs ++ ys)) ps ≡ map (slice_get xs) ps
  own_longer xs ys a [] h = refl
  own_longer xs ys a (p ∷ ps) h =
      ap₂ (λ (o : Option (Did E)) (os : List (Option (Did E))). o ∷ os) (get_front xs ys p (omega (arith, rises_below (p + 1) ps (length xs) h.1))) (own_longer xs ys (p + 1) ps h.1)

module _ {E K : Type 0} where
  pub own_grows : (v w : Known E K) (before : List (Did E)) (d : Did E) → Rises 0 v.mine (length v.seen) → StartsWith before v.seen → Added v w before d → own w.seen w.mine ≡ own v.seen v.mine ++ Some d ∷ []
  own_grows v w before d rise s a =
      let long : w.seen ≡ v.seen ++ (s.0 ++ d ∷ []) = a.seen ∙ ap (λ (l : List (Did E)). l ++ d ∷ []) s.1 ∙ append_assoc v.seen s.0 (d ∷ []) in
      let one : own w.seen (length before ∷ []) ≡ Some d ∷ [] = ap (λ (l : List (Did E)). own l (length before ∷ [])) a.seen ∙ ap (λ (o : Option (Did E)). o ∷ []) (get_last before d) in
      let old : own w.seen v.mine ≡ own v.seen v.mine = ap (λ (l : List (Did E)). own l v.mine) long ∙ own_longer v.seen (s.0 ++ d ∷ []) 0 v.mine rise in
      ap (own w.seen) a.mine ∙ map-append (slice_get w.seen) v.mine (length before ∷ []) ∙ ap₂ (λ (l m : List (Option (Did E))). l ++ m) old one

  pub own_stays : (v w : Known E K) → Rises 0 v.mine (length v.seen) → StartsWith w.seen v.seen → w.mine ≡ v.mine → own w.seen w.mine ≡ own v.seen v.mine
  own_stays v w rise s m = ap (own w.seen) m ∙ ap (λ (l : List (Did E)). own l v.mine) s.1 ∙ own_longer v.seen s.0 0 v.mine rise

module _ {K E O P : Type 0} (x : Words K E O P) where
  -- what of a seat's invariant a turn keeps
  pub ready_after : (me now : Caller E K) (units : ℕ) → Ready x me units → (n : ℕ) (log new : List (Did E)) (took : Caller E K)
      → took ≡ (moved Holds n log me.0, (0, None) ∷ []) → now ≡ (left took.0 new, []) → StartsWith log me.0.seen → Grows log new → (kind : K) → kind ≡ me.0.kind → Legal x kind new → Ready x now units
  ready_after me now units r n log new took t g s grows kind same legal =
      let v = after_is me.0 n log new took now t g in record {
        idle = ap (λ (y : View E K). y.stage) v;
        empty = ap (λ (m : Caller E K). m.1) g;
        units_are = ap (λ (y : View E K). y.units) v ∙ r.units_are;
        some = r.some;
        most = r.most;
        legal = subst (λ (y : View E K). Legal x y.kind y.seen) (sym v) (subst (λ (k : K). Legal x k new) same legal);
        rises = subst (λ (y : View E K). Rises 0 y.mine (length y.seen)) (sym v) (rises_on me.0.mine me.0.seen log new r.rises s grows);
      }

  legal_of : (c : Bool) (k l : K) (a b : List (Did E)) → l ≡ k → Legal x k a → Legal x l b → Legal x k (if c then b else a)
  legal_of true k l a b e y z = subst (λ (m : K). Legal x m b) e z
  legal_of false k l a b e y z = y

  -- and what a meeting keeps
  pub ready_joined : (me note now : Caller E K) (a b : ℕ) → Ready x me a → Ready x note b → note.0.kind ≡ me.0.kind → now ≡ (joined me.0 note.0, me.1)
      → (joined me.0 note.0).units ≤ all_units → StartsWith (joined me.0 note.0).seen me.0.seen → Ready x now (a + b)
  ready_joined me note now a b r q same e most s =
      let v = ap (λ (m : Caller E K). m.0) e in
      let le : length me.0.seen ≤ length (joined me.0 note.0).seen = omega (arith, ap length s.1, length-append me.0.seen s.0) in
      let n : (joined me.0 note.0).units ≡ a + b = omega (arith, r.units_are, q.units_are) in record {
        idle = ap (λ (y : View E K). y.stage) v;
        empty = ap (λ (m : Caller E K). m.1) e ∙ r.empty;
        units_are = ap (λ (y : View E K). y.units) v ∙ n;
        some = omega (arith, r.some);
        most = omega (arith, n, most);
        legal = subst (λ (y : View E K). Legal x y.kind y.seen) (sym v) (legal_of (nat_le me.0.turn note.0.turn) me.0.kind note.0.kind me.0.seen note.0.seen same r.legal q.legal);
        rises = subst (λ (y : View E K). Rises 0 y.mine (length y.seen)) (sym v) (rises_later 0 me.0.mine (length me.0.seen) (length (joined me.0 note.0).seen) r.rises le);
      }

  pub turned : (v : Known E K) (hub hub' : TableId) (me now : Caller E K) (units : ℕ) → known hub me.0 units ≡ v → Ready x now units → (n : ℕ) (log new : List (Did E)) (took : Caller E K) → hub' ≡ hub
      → took ≡ (moved Holds n log me.0, (0, None) ∷ []) → now ≡ (left took.0 new, []) → me.0.turn ≤ n → Turned x v (known hub' now.0 units)
  turned v hub hub' me now units e r n log new took h t g le =
      let y = after_is me.0 n log new took now t g in
      subst (λ (k : Known E K). Turned x k (known hub' now.0 units)) e (record {
        hub = h;
        kind = ap (λ (z : View E K). z.kind) y;
        met = ap (λ (z : View E K). z.met) y;
        units = refl;
        turn = omega (arith, le, ap (λ (z : View E K). z.turn) y);
        legal = r.legal;
        rises = r.rises;
      })

  -- ---- enter

  module _ (log new : List (Did E)) (event : E) where
    pub grown : (k : K) (r : Result (Answer O) HubStop)
        → IfOk r (λ a. (new ≡ log ++ did.Event event ∷ []) × (a.place ≡ length log) × (a.outcome ≡ outcome x k (past log) event))
        → IfErr r (λ e. (new ≡ log) ⊎ ((e ≡ stop.OutOfMemory) × (new ≡ log ++ did.Lost ∷ [])))
        → Grows log new
    grown k (Ok a) o e = inr (did.Event event, o.0)
    grown k (Err y) o e = elim e [ inl h ↦ inl h | inr h ↦ inr (did.Lost, h.1) ]

    pub entered : (v w : Known E K) (n : ℕ) (k : K) (r : Result (Answer O) HubStop) → w ≡ on v n log new → StartsWith log v.seen → k ≡ v.kind → Judged (refusal x (past log) event) r
        → IfOk r (λ a. (new ≡ log ++ did.Event event ∷ []) × (a.place ≡ length log) × (a.outcome ≡ outcome x k (past log) event))
        → IfErr r (λ e. (new ≡ log) ⊎ ((e ≡ stop.OutOfMemory) × (new ≡ log ++ did.Lost ∷ [])))
        → Entered x v w event r
    entered v w n k (Ok a) e s q j o y = (log, s, j, (added v w n log new (did.Event event) e o.0, o.1, o.2 ∙ ap (λ (z : K). outcome x z (past log) event) q))
    entered v w n k (Err z) e s q j o y = (log, s, j, elim y [ inl h ↦ inl (same v w n log new e h) | inr h ↦ inr (h.0, added v w n log new did.Lost e h.1) ])

  -- ---- take_out

  module _ (log new : List (Did E)) (peer : ℤ) where
    pub grown_took : (r : Result (List P) HubStop) → IfOk r (λ v. ((v ≡ []) × (new ≡ log)) ⊎ ((0 < length v) × (new ≡ log ++ did.Took peer (length v) ∷ []))) → OnErr r (new ≡ log) → Grows log new
    grown_took (Ok a) o e = elim o [ inl h ↦ inl h.1 | inr h ↦ inr (did.Took peer (length a), h.1) ]
    grown_took (Err y) o e = inl e

    pub takes : (v w : Known E K) (n : ℕ) (k : K) (r : Result (List P) HubStop) → w ≡ on v n log new → StartsWith log v.seen → k ≡ v.kind → Judged (spent_at (lost (past log))) r
        → IfOk r (λ v. v ≡ outbox x k (past log) peer)
        → IfOk r (λ v. ((v ≡ []) × (new ≡ log)) ⊎ ((0 < length v) × (new ≡ log ++ did.Took peer (length v) ∷ []))) → OnErr r (new ≡ log) → Takes x v w peer r
    takes v w n k (Ok a) e s q j i o y =
        (log, s, j, (i ∙ ap (λ (z : K). outbox x z (past log) peer) q, elim o [ inl h ↦ inl (h.0, same v w n log new e h.1) | inr h ↦ inr (h.0, added v w n log new (did.Took peer (length a)) e h.1) ]))
    takes v w n k (Err z) e s q j i o y = (log, s, j, same v w n log new e y)

-- ---- end

module _ {E : Type 0} (log new : List (Did E)) where
  pub grown_end : (r : Result ℕ HubStop) → IfOk r (λ place. (new ≡ log ++ did.End ∷ []) × (place ≡ length log)) → OnErr r (new ≡ log) → Grows log new
  grown_end (Ok a) o e = inr (did.End, o.0)
  grown_end (Err x) o e = inl e

  pub ends : {K : Type 0} (v w : Known E K) (n : ℕ) (r : Result ℕ HubStop) → w ≡ on v n log new → StartsWith log v.seen → Judged (end_refusal (past log)) r
      → IfOk r (λ place. (new ≡ log ++ did.End ∷ []) × (place ≡ length log)) → OnErr r (new ≡ log) → Ends v w r
  ends v w n (Ok a) e s j o y = (log, s, j, (added v w n log new did.End e o.0, o.1))
  ends v w n (Err z) e s j o y = (log, s, j, same v w n log new e y)
