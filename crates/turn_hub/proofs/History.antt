-- What an entry does to a history.
use Rattle.std.proofs.Common.{◌≡◌, ℤ, ◌≢◌, ℕ, eq-eqb, Bool, true, false, suc, ◌+◌, ◌-◌, ◌<◌, ◌≤◌, ◌^◌, List, [], ◌∷◌, ◌++◌, length, refl, sym, ap, subst, ◌∙◌, arith, filter, nat_eq, nat_lt, cond, if◌then◌else◌, ◌||◌, Option, Some, None, min}
use Rattle.std.proofs.lemmas.Bool.{true≢false, ltb-false}
use Rattle.std.specs.Ordering.{int_eq}
use Rattle.std.proofs.lemmas.List.{length-append}
use Rattle.std.proofs.lemmas.List.Sums.{sum_by-cons}
use Rattle.std.proofs.Math.Nat.{min-eq_left}
use mir.Val.{bool_byte}
use Rattle.turn_hub.specs.Words.{Words}
use Rattle.turn_hub.specs.declared.entry.Did.{Did}
use Rattle.turn_hub.specs.declared.entry.Did.TheVariants as did
use Rattle.turn_hub.specs.declared.entry.HubStop.{HubStop}
use Rattle.turn_hub.specs.History.{turned_onto, past, events_of, is_for, outbox, outcome, ended, lost, lost_at, LegalPast, event_count, byte_count, received, refusal, end_refusal, ended_or, full_or, spent_at, most_entries, most_bytes}
use Rattle.turn_hub.specs.Sound.{Sound}

module _ {E : Type 0} where
  turned_push : (h ds : List (Did E)) (d : Did E) → turned_onto h (ds ++ d ∷ []) ≡ d ∷ turned_onto h ds
  turned_push h [] d = refl
  turned_push h (x ∷ xs) d = turned_push (x ∷ h) xs d

  pub past_push : (log : List (Did E)) (d : Did E) → past (log ++ d ∷ []) ≡ d ∷ past log
  past_push log d = turned_push [] log d

  turned_length : (h ds : List (Did E)) → length (turned_onto h ds) ≡ length h + length ds
  turned_length h [] = omega arith
  turned_length h (d ∷ ds) = let t = turned_length (d ∷ h) ds in omega (arith, t)

  pub past_length : (log : List (Did E)) → length (past log) ≡ length log
  past_length log = let t = turned_length [] log in omega (arith, t)

  push_length : (log : List (Did E)) (d : Did E) → length (log ++ d ∷ []) - 1 ≡ length (past log)
  push_length log d = let a = length-append log (d ∷ []) in let b = past_length log in omega (arith, a, b)

abbrev is_none : {A : Type 0} → Option A → Type 0
is_none None = Unit {0}
is_none (Some x) = ⊥

no_some : {A : Type 0} (x : A) → Some x ≡ None → ⊥
no_some {A = A} x e = subst (is_none {A = A}) (sym e) tt

none_ended : (end : Option ℕ) (other : Option HubStop) → ended_or end other ≡ None → (end ≡ None) × (other ≡ None)
none_ended None other h = (refl, h)
none_ended (Some p) other h = absurd (no_some _ h)

pub none_spent : (spent : Bool) (len : ℕ) → spent_at (lost_at spent len) ≡ None → spent ≡ false
none_spent false len h = refl
none_spent true len h = absurd (no_some _ h)

none_cond : (c : Bool) (x : HubStop) (other : Option HubStop) → cond c (Some x) other ≡ None → (c ≡ false) × (other ≡ None)
none_cond false x other h = (refl, h)
none_cond true x other h = absurd (no_some _ h)

or_false : (a b : Bool) → (a || b) ≡ false → (a ≡ false) × (b ≡ false)
or_false false b h = (refl, h)
or_false true b h = let x : true ≡ false = h in absurd (true≢false x)

pub none_end : (end : Option ℕ) (spent : Bool) (len : ℕ) → ended_or end (spent_at (lost_at spent len)) ≡ None → (end ≡ None) × (spent ≡ false)
none_end end spent len h = let a = none_ended end (spent_at (lost_at spent len)) h in (a.0, none_spent spent len a.1)

-- nothing stops an event
pub record Free (end : Option ℕ) (n b w : ℕ) (spent : Bool) : Type 0 where
  pub no_end : end ≡ None
  pub few : n ≢ most_entries
  pub light : b + w ≤ most_bytes
  pub live : spent ≡ false

pub free : (end : Option ℕ) (n b w : ℕ) (spent : Bool) (len : ℕ) (seen : Bool) → seen ≡ spent → ended_or end (full_or n b w (spent_at (lost_at seen len))) ≡ None → Free end n b w spent
free end n b w spent len seen same h =
    let a = none_ended end (full_or n b w (spent_at (lost_at seen len))) h in
    let c = none_cond (nat_eq n most_entries || nat_lt most_bytes (b + w)) _ _ a.1 in
    let d = or_false (nat_eq n most_entries) (nat_lt most_bytes (b + w)) c.0 in record {
      no_end = a.0;
      few = λ e. true≢false (sym (eq-eqb n most_entries e) ∙ d.0);
      light = ltb-false most_bytes (b + w) d.1;
      live = sym same ∙ none_spent seen len c.1;
    }

byte_is : (b : Bool) → bool_byte b ≡ (if b then 1 else 0)
byte_is true = refl
byte_is false = refl

module _ {K E O P : Type 0} (w : Words K E O P) where
  filter-append : (f : P → Bool) (xs ys : List P) → filter f (xs ++ ys) ≡ filter f xs ++ filter f ys
  filter-append f [] ys = refl
  filter-append f (x ∷ xs) ys = elim (f x) as (λ b. cond b (x ∷ filter f (xs ++ ys)) (filter f (xs ++ ys)) ≡ cond b (x ∷ filter f xs) (filter f xs) ++ filter f ys) [ true ↦ ap (λ (l : List P). x ∷ l) (filter-append f xs ys) | false ↦ filter-append f xs ys ]

  got_by : (c : Bool) (e : E) (l : List E) → length (cond c (e ∷ l) l) ≡ (if c then 1 else 0) + length l
  got_by true e l = omega arith
  got_by false e l = omega arith

  got_most_by : (c : Bool) → (if c then 1 else 0) ≤ 1
  got_most_by true = omega arith
  got_most_by false = omega arith

  module _ (k : K) (stands : List E → Type 0) (spent : Bool) (rows : List (Did E)) (outs : ℤ → List P) (n b r : ℕ) (end : Option ℕ) (h : Sound w k stands spent rows outs n b r end) where
    pub refusal_is : (e : E) → refusal w (past rows) e ≡ ended_or end (full_or n b (w.weight e) (spent_at (lost_at spent (length rows))))
    refusal_is e =
        ap (λ (o : Option ℕ). ended_or o (full_or (event_count w (past rows)) (byte_count w (past rows)) (w.weight e) (spent_at (lost (past rows))))) h.ended_is
        ∙ ap (λ (m : ℕ). ended_or end (full_or m (byte_count w (past rows)) (w.weight e) (spent_at (lost (past rows))))) h.events
        ∙ ap (λ (m : ℕ). ended_or end (full_or n m (w.weight e) (spent_at (lost (past rows))))) h.bytes
        ∙ ap (λ (o : Option ℕ). ended_or end (full_or n b (w.weight e) (spent_at o))) h.lost_is

    pub end_refusal_is : end_refusal (past rows) ≡ ended_or end (spent_at (lost_at spent (length rows)))
    end_refusal_is = ap (λ (o : Option ℕ). ended_or o (spent_at (lost (past rows)))) h.ended_is ∙ ap (λ (o : Option ℕ). ended_or end (spent_at o)) h.lost_is

    module _ (live : spent ≡ false) where
      pub not_lost : lost (past rows) ≡ None
      not_lost = h.lost_is ∙ ap (λ (c : Bool). lost_at c (length rows)) live

      pub sound_lost : (k' : K) (stands' : List E → Type 0) (spent' : Bool) (rows' : List (Did E)) (outs' : ℤ → List P) → k' ≡ k → spent' ≡ true → rows' ≡ rows ++ did.Lost ∷ [] → ((q : ℤ) → outs' q ≡ outs q)
          → Sound w k' stands' spent' rows' outs' n b r end
      sound_lost k' stands' spent' rows' outs' same gone rs os =
          let push = past_push rows did.Lost in
          let there : lost (past (rows ++ did.Lost ∷ [])) ≡ Some (length (past rows)) = ap lost push in
          subst (λ (x : K). Sound w x stands' spent' rows' outs' n b r end) (sym same)
          (subst (λ (ds : List (Did E)). Sound w k stands' spent' ds outs' n b r end) (sym rs) (record {
            legal = subst (LegalPast w k) (sym push) (not_lost, h.legal);
            stands_for = λ none. absurd (no_some _ (sym there ∙ none));
            lost_is = there ∙ ap (λ (m : ℕ). Some m) (sym (push_length rows did.Lost)) ∙ sym (ap (λ (c : Bool). lost_at c (length (rows ++ did.Lost ∷ []))) gone);
            outs_are = λ q. os q ∙ h.outs_are q ∙ sym (ap (λ (ds : List (Did E)). outbox w k ds q) push);
            events = ap (event_count w) push ∙ h.events;
            bytes = ap (byte_count w) push ∙ h.bytes;
            got = ap (received w) push ∙ h.got;
            ended_is = ap ended push ∙ h.ended_is;
            most = h.most;
            most_weight = h.most_weight;
            got_most = h.got_most;
          }))

      pub sound_event : (k' : K) (stands' : List E → Type 0) (spent' : Bool) (rows' : List (Did E)) (outs' : ℤ → List P) (e : E) (o : O) (x y : ℕ) → k' ≡ k → Free end n b (w.weight e) spent
          → stands' (e ∷ events_of (past rows)) → spent' ≡ false → o ≡ outcome w k (past rows) e → ((q : ℤ) → outs' q ≡ outs q ++ filter (is_for w q) (w.sends o)) → rows' ≡ rows ++ did.Event e ∷ [] → x ≡ w.weight e → y ≡ (if w.is_received e then 1 else 0)
          → Sound w k' stands' spent' rows' outs' (n + 1) (b + x) (r + y) end
      sound_event k' stands' spent' rows' outs' e o x y same fr st li ou os rs xs ys =
          let push = past_push rows (did.Event e) in
          let es = events_of (past rows) in
          subst (λ (z : K). Sound w z stands' spent' rows' outs' (n + 1) (b + x) (r + y) end) (sym same)
          (subst (λ (ds : List (Did E)). Sound w k stands' spent' ds outs' (n + 1) (b + x) (r + y) end) (sym rs) (record {
            legal = subst (LegalPast w k) (sym push) ((h.ended_is ∙ fr.no_end, not_lost), h.legal);
            stands_for = λ none. subst (λ (ds : List (Did E)). stands' (events_of ds)) (sym push) st;
            lost_is = ap lost push ∙ sym (ap (λ (c : Bool). lost_at c (length (rows ++ did.Event e ∷ []))) li);
            outs_are = λ q. os q ∙ ap (λ (z : O). outs q ++ filter (is_for w q) (w.sends z)) ou ∙ ap (λ (l : List P). l ++ filter (is_for w q) (w.sends (outcome w k (past rows) e))) (h.outs_are q) ∙ sym (ap (λ (ds : List (Did E)). outbox w k ds q) push);
            events = let a : event_count w (past (rows ++ did.Event e ∷ [])) ≡ suc (length es) = ap (event_count w) push in let c : length es ≡ n = h.events in omega (arith, a, c);
            bytes = let a : byte_count w (past (rows ++ did.Event e ∷ [])) ≡ w.weight e + byte_count w (past rows) = ap (byte_count w) push ∙ sum_by-cons w.weight e es in let c = h.bytes in omega (arith, a, c, xs);
            got = let a : received w (past (rows ++ did.Event e ∷ [])) ≡ (if w.is_received e then 1 else 0) + length (filter w.is_received es) = ap (received w) push ∙ got_by (w.is_received e) e (filter w.is_received es) in let c : length (filter w.is_received es) ≡ r = h.got in omega (arith, a, c, ys);
            ended_is = ap ended push ∙ h.ended_is;
            most = let f = fr.few in omega (arith, h.most, f);
            most_weight = omega (arith, fr.light, xs);
            got_most = let g = got_most_by (w.is_received e) in omega (arith, h.got_most, ys, g);
          }))

      pub sound_end : (rows' : List (Did E)) (place : ℕ) → end ≡ None → rows' ≡ rows ++ did.End ∷ [] → place ≡ length rows → Sound w k stands spent rows' outs n b r (Some place)
      sound_end rows' place none rs at =
          let push = past_push rows did.End in
          subst (λ (ds : List (Did E)). Sound w k stands spent ds outs n b r (Some place)) (sym rs) (record {
            legal = subst (LegalPast w k) (sym push) ((h.ended_is ∙ none, not_lost), h.legal);
            stands_for = λ no. subst (λ (ds : List (Did E)). stands (events_of ds)) (sym push) (h.stands_for not_lost);
            lost_is = ap lost push ∙ sym (ap (λ (c : Bool). lost_at c (length (rows ++ did.End ∷ []))) live);
            outs_are = λ q. h.outs_are q ∙ sym (ap (λ (ds : List (Did E)). outbox w k ds q) push);
            events = ap (event_count w) push ∙ h.events;
            bytes = ap (byte_count w) push ∙ h.bytes;
            got = ap (received w) push ∙ h.got;
            ended_is = ap ended push ∙ ap (λ (m : ℕ). Some m) (past_length rows ∙ sym at);
            most = h.most;
            most_weight = h.most_weight;
            got_most = h.got_most;
          })

      pub sound_took : (rows' : List (Did E)) (outs' : ℤ → List P) (q : ℤ) (count : ℕ) → count ≡ length (outs q) → 0 < count → rows' ≡ rows ++ did.Took q count ∷ [] → ((x : ℤ) → outs' x ≡ (if int_eq q x then [] else outs x))
          → Sound w k stands spent rows' outs' n b r end
      sound_took rows' outs' q count cs pos rs os =
          let push = past_push rows (did.Took q count) in
          subst (λ (ds : List (Did E)). Sound w k stands spent ds outs' n b r end) (sym rs) (record {
            legal = subst (LegalPast w k) (sym push) ((sym (cs ∙ ap length (h.outs_are q)), pos, not_lost), h.legal);
            stands_for = λ no. subst (λ (ds : List (Did E)). stands (events_of ds)) (sym push) (h.stands_for not_lost);
            lost_is = ap lost push ∙ sym (ap (λ (c : Bool). lost_at c (length (rows ++ did.Took q count ∷ []))) live);
            outs_are = λ x. os x ∙ ap (λ (l : List P). if int_eq q x then [] else l) (h.outs_are x) ∙ sym (ap (λ (ds : List (Did E)). outbox w k ds x) push);
            events = ap (event_count w) push ∙ h.events;
            bytes = ap (byte_count w) push ∙ h.bytes;
            got = ap (received w) push ∙ h.got;
            ended_is = ap ended push ∙ h.ended_is;
            most = h.most;
            most_weight = h.most_weight;
            got_most = h.got_most;
          })

pub got_byte : (c d : Bool) → c ≡ d → bool_byte c ≡ (if d then 1 else 0)
got_byte c d h = byte_is c ∙ ap (λ (x : Bool). if x then 1 else 0) h

-- where it passes no limit it is the weight
pub uncut : (b r v : ℕ) → b + v ≤ most_bytes → r ≡ min v (2 ^ 64 - 1) → r ≡ v
uncut b r v le h = let a : v ≤ 2 ^ 64 - 1 = omega (arith, le) in h ∙ min-eq_left a

pub not_zero : (n : ℕ) → nat_eq n 0 ≡ false → 0 < n
not_zero n h = let ne : n ≢ 0 = λ e. true≢false (sym (eq-eqb n 0 e) ∙ h) in omega (arith, ne)
