-- Each step keeps the rule.
use Rattle.std.proofs.Common.{◌≡◌, ◌≢◌, ℕ, Bool, true, false, zero, suc, ◌+◌, ◌<◌, ◌≤◌, eqb, eq-eqb, ne_eqb, List, [], ◌∷◌, ◌++◌, get_or, set, length, refl, sym, ap, subst, ◌∙◌, ◌⊎◌, inl, inr, arith, append_assoc, nat_lt, nat_le, if◌then◌else◌}
use Rattle.std.specs.Prelude.{slice_index, slice_set, Some}
use mathlib.Core.Option.{Option, none, some, some-injective, some-ne-none}
use mathlib.Core.Logic.{dite}
use native.Mathlib.Decide.{ℕ_discrete}
use prog.Atomic.{either}
use lib.ListN.{get_elem?}
use Rattle.atomic_table.specs.Table.{State, keeps, takes, gives, rest, step, stepped, Allows, Splits, Joins, opening}
use Rattle.std.proofs.lemmas.Bool.{le-ltb, lt-ltb, leb-true, leb-false}
use Rattle.std.proofs.lemmas.List.{append-nil, length-append}
use Rattle.atomic_table.proofs.Lists.{at_set, set_else, set_again, at_snoc, at_longer}
use Rattle.turn_hub.specs.declared.entry.Did.{Did}
use Rattle.turn_hub.specs.declared.rule.View.{View}
use Rattle.turn_hub.specs.declared.rule.Stage.{Stage}
use Rattle.turn_hub.specs.declared.rule.Stage.TheVariants.{Idle, Waits, Holds, Closed}
use Rattle.turn_hub.specs.History.{StartsWith, Grows}
use Rattle.turn_hub.specs.Kept.{all_units, times, upto, total, first_view, spent_view, moved, places_from, left, offering, giver, newcomer, joined, HasTicket, tickets, IsHolder, StageFits, Fits, IsBlank, Single, Ordered, marks, AtHome, Out, IsKept, Kept, Slot, Caller, draws, looks, leaves, closes, counts, offers}
use Rattle.turn_hub.proofs.Totals.{there_set, times-append, total_set, total_snoc, total_has, total_two, total_only}

is_idle : (st : Stage) → st ≡ Idle → ¬ (IsHolder st)
is_idle st e h = let x : IsHolder Idle = subst IsHolder e h in absurd x

no_ticket : (st : Stage) → st ≡ Idle → ¬ (HasTicket st)
no_ticket st e h = let x : HasTicket Idle = subst HasTicket e h in absurd x

ticket_below : (next serving t n : ℕ) (st : Stage) → StageFits next serving t n st → HasTicket st → t < next
ticket_below next serving t n Idle f h = absurd h
ticket_below next serving t n Waits f h = f.1
ticket_below next serving t n Holds f h = f.1
ticket_below next serving t n Closed f h = absurd h

later : (next serving t n : ℕ) (st : Stage) → StageFits next serving t n st → StageFits (next + 1) serving t n st
later next serving t n Idle f = tt
later next serving t n Waits f = (f.0, omega (arith, f.1))
later next serving t n Holds f = (f.0, omega (arith, f.1))
later next serving t n Closed f = f

nat_lt-self : (a : ℕ) → nat_lt a a ≡ false
nat_lt-self a = le-ltb a a (omega arith)

nat_lt-next : (a : ℕ) → nat_lt a (suc a) ≡ true
nat_lt-next a = lt-ltb a (suc a) (omega arith)

-- a list that is no longer has no new place, and one that is longer by one has one
none_from : (p a b : ℕ) → b ≡ a → (n : ℕ) → n ≡ n + times p (places_from a b)
none_from p a b e n = let z : nat_lt a b ≡ false = ap (nat_lt a) e ∙ nat_lt-self a in let t : times p (places_from a b) ≡ 0 = ap (λ c. times p (if c then a ∷ [] else [])) z in omega (arith, t)

one_from : (p a b : ℕ) → b ≡ suc a → times p (upto b) ≡ times p (upto a) + times p (places_from a b)
one_from p a b e =
    let z : nat_lt a b ≡ true = ap (nat_lt a) e ∙ nat_lt-next a in
    let t : times p (places_from a b) ≡ times p (a ∷ []) = ap (λ c. times p (if c then a ∷ [] else [])) z in
    let u : times p (upto b) ≡ times p (a ∷ upto a) = ap (λ (n : ℕ). times p (upto n)) e in omega (arith, t, u)

set_same : (ws : List ℕ) (i : ℕ) → set ws i (get_or ws i 0) ≡ ws
set_same [] i = refl
set_same (w ∷ ws) zero = refl
set_same (w ∷ ws) (suc i) = ap (λ (us : List ℕ). w ∷ us) (set_same ws i)

le_either : (a b : ℕ) (F : ℕ → Type 0) → F a → F b → F (if nat_le a b then b else a)
le_either a b F x y = elim (nat_le a b) as (λ c. F (if c then b else a)) [ true ↦ y | false ↦ x ]

module _ {E K : Type 0} (key : K) where
  -- ---- what one changed view leaves as it was

  -- the view u stands for as much as v
  record Like (v u : View E K) : Type 0 where
    seen : v.seen ≡ u.seen
    mine : v.mine ≡ u.mine
    met : v.met ≡ u.met
    turn : v.turn ≡ u.turn
    units : v.units ≡ u.units

  total_like : (f : View E K → ℕ) (vs : List (View E K)) (id : ℕ) (v u : View E K) → get_elem? vs id ≡ some v → f u ≡ f v → total f (set vs id u) ≡ total f vs
  total_like f vs id v u here e = let h = total_set f vs id v u here in omega (arith, h, e)

  marks_like : (p : ℕ) (v u : View E K) → Like v u → marks p u ≡ marks p v
  marks_like p v u k = ap (λ (xs : List ℕ). times p xs + times p u.met) (sym k.mine) ∙ ap (λ (xs : List ℕ). times p v.mine + times p xs) (sym k.met)

  ordered_back : (vs vs' : List (View E K))
      → ((j : ℕ) (w : View E K) → get_elem? vs' j ≡ some w → 0 < w.units → (i : ℕ) × (x : View E K) × (get_elem? vs i ≡ some x) × (x.seen ≡ w.seen) × (x.turn ≡ w.turn) × (0 < x.units))
      → Ordered vs → Ordered vs'
  ordered_back vs vs' back o i j a b ea eb pa pb le =
      let x = back i a ea pa in
      let y = back j b eb pb in
      let r : StartsWith y.1.seen x.1.seen = o x.0 y.0 x.1 y.1 x.2 y.2 x.5 y.5 (omega (arith, le, x.4, y.4)) in
      subst (λ (z : List (Did E)). StartsWith z a.seen) y.3 (subst (λ (z : List (Did E)). StartsWith y.1.seen z) x.3 r)

  ordered_like : (vs : List (View E K)) (id : ℕ) (v u : View E K) → get_elem? vs id ≡ some v → Like v u → Ordered vs → Ordered (set vs id u)
  ordered_like vs id v u here k o =
      ordered_back vs (set vs id u)
      (λ j w e p. elim (at_set vs id j u w e) [
        | inl h ↦ (id, v, here, k.seen ∙ ap (λ (y : View E K). y.seen) h.1, k.turn ∙ ap (λ (y : View E K). y.turn) h.1, omega (arith, p, k.units, ap (λ (y : View E K). y.units) h.1))
        | inr h ↦ (j, w, h.1, refl, refl, p)
      ])
      o

  blank_but : (vs : List (View E K)) (id : ℕ) (u : View E K) → 0 < u.units → ((by : ℕ) (v : View E K) → get_elem? vs by ≡ some v → v.units ≡ 0 → IsBlank v) → (by : ℕ) (w : View E K) → get_elem? (set vs id u) by ≡ some w → w.units ≡ 0 → IsBlank w
  blank_but vs id u pos b by w e z =
      elim (at_set vs id by u w e) [
        | inl h ↦ absurd (omega (arith, pos, z, ap (λ (y : View E K). y.units) h.1))
        | inr h ↦ b by w h.1 z
      ]

  single_drop : (vs : List (View E K)) (id : ℕ) (u : View E K) → ¬ (HasTicket u.stage) → Single vs → Single (set vs id u)
  single_drop vs id u n o i j a b ea eb pa pb same =
      elim (at_set vs id i u a ea) [
        | inl h ↦ absurd (n (subst (λ (y : View E K). HasTicket y.stage) (sym h.1) pa))
        | inr h ↦ elim (at_set vs id j u b eb) [
          | inl g ↦ absurd (n (subst (λ (y : View E K). HasTicket y.stage) (sym g.1) pb))
          | inr g ↦ o i j a b h.1 g.1 pa pb same
        ]
      ]

  single_same : (vs : List (View E K)) (id : ℕ) (v u : View E K) → get_elem? vs id ≡ some v → HasTicket v.stage → v.ticket ≡ u.ticket → Single vs → Single (set vs id u)
  single_same vs id v u here has t o i j a b ea eb pa pb same =
      elim (at_set vs id i u a ea) [
        | inl h ↦ elim (at_set vs id j u b eb) [
          | inl g ↦ h.0 ∙ sym g.0
          | inr g ↦ h.0 ∙ o id j v b here g.1 has pb (t ∙ ap (λ (y : View E K). y.ticket) h.1 ∙ same)
        ]
        | inr h ↦ elim (at_set vs id j u b eb) [
          | inl g ↦ o i id a v h.1 here pa has (same ∙ sym (t ∙ ap (λ (y : View E K). y.ticket) g.1)) ∙ sym g.0
          | inr g ↦ o i j a b h.1 g.1 pa pb same
        ]
      ]

  slot_stays : (log : List (Did E)) (homes : List (Option (Slot E K))) (vs : List (View E K)) (id : ℕ) (v u : View E K) → get_elem? vs id ≡ some v → ¬ (IsHolder v.stage) → ¬ (IsHolder u.stage)
      → AtHome key log homes vs ⊎ Out log homes vs → AtHome key log homes (set vs id u) ⊎ Out log homes (set vs id u)
  slot_stays log homes vs id v u here nv nu slot =
      elim slot [
        | inl h ↦ inl (
          h.0,
          λ by w e holder. elim (at_set vs id by u w e) [
            | inl a ↦ absurd (nu (subst (λ (y : View E K). IsHolder y.stage) (sym a.1) holder))
            | inr a ↦ absurd (h.1 by w a.1 holder)
          ],
        )
        | inr h ↦ inr (
          h.0,
          (
            h.1.0,
            h.1.1,
            set_else vs id h.1.0 u (λ e. nv (subst (λ (y : View E K). IsHolder y.stage) (some-injective h.1.1 v (sym h.1.2 ∙ ap (get_elem? vs) e ∙ here)) h.1.3)) ∙ h.1.2,
            h.1.3,
            h.1.4,
          ),
        )
      ]

  slot_snoc : (log : List (Did E)) (homes : List (Option (Slot E K))) (vs : List (View E K)) (u : View E K) → ¬ (IsHolder u.stage)
      → AtHome key log homes vs ⊎ Out log homes vs → AtHome key log homes (vs ++ u ∷ []) ⊎ Out log homes (vs ++ u ∷ [])
  slot_snoc log homes vs u nu slot =
      elim slot [
        | inl h ↦ inl (h.0, λ by w e holder. elim (at_snoc vs u w by e) [ inl a ↦ absurd (h.1 by w a holder) | inr a ↦ absurd (nu (subst (λ (y : View E K). IsHolder y.stage) (sym a) holder)) ])
        | inr h ↦ inr (h.0, (h.1.0, h.1.1, at_longer vs (u ∷ []) h.1.0 h.1.1 h.1.2, h.1.3, h.1.4))
      ]

  module _ (log : List (Did E)) (next serving id : ℕ) (s : State (Slot E K) (View E K)) (k : IsKept key log next serving s) (v : View E K) (here : get_elem? s.views id ≡ some v) where
    first_word : slice_index s.words 0 ≡ next
    first_word = ap (λ (ws : List ℕ). slice_index ws 0) k.words

    second_word : slice_index s.words 1 ≡ serving
    second_word = ap (λ (ws : List ℕ). slice_index ws 1) k.words

    -- who waits or holds has units
    has_units : HasTicket v.stage → 0 < v.units
    has_units h = let n : v.units ≢ 0 = λ z. no_ticket v.stage (k.blank id v here z).0 h in omega (arith, n)

    -- ---- a number is drawn

    module _ (idle : v.stage ≡ Idle) (pos : 0 < v.units) where
      drawn_each : (by : ℕ) (w : View E K) → get_elem? (set s.views id (moved Waits next [] v)) by ≡ some w → Fits key log (next + 1) serving w
      drawn_each by w e =
          elim (at_set s.views id by (moved Waits next [] v) w e) [
            | inl h ↦ let f = k.each id v here in subst (Fits key log (next + 1) serving) h.1 (record { kind = f.kind; twin = refl; stage = (omega (arith, k.tickets), omega arith); seen = f.seen; turn = f.turn; begins = (v.seen, refl) })
            | inr h ↦ let f = k.each by w h.1 in record { kind = f.kind; twin = f.twin; stage = later next serving w.ticket w.units w.stage f.stage; seen = f.seen; turn = f.turn; begins = f.begins }
          ]

      drawn_single : Single (set s.views id (moved Waits next [] v))
      drawn_single i j a b ea eb pa pb same =
          elim (at_set s.views id i (moved Waits next [] v) a ea) [
            | inl h ↦ elim (at_set s.views id j (moved Waits next [] v) b eb) [
              | inl g ↦ h.0 ∙ sym g.0
              | inr g ↦ let n : next ≡ a.ticket = ap (λ (y : View E K). y.ticket) h.1 in absurd (omega (arith, n, same, ticket_below next serving b.ticket b.units b.stage (k.each j b g.1).stage pb))
            ]
            | inr h ↦ elim (at_set s.views id j (moved Waits next [] v) b eb) [
              | inl g ↦ let n : next ≡ b.ticket = ap (λ (y : View E K). y.ticket) g.1 in absurd (omega (arith, n, same, ticket_below next serving a.ticket a.units a.stage (k.each i a h.1).stage pa))
              | inr g ↦ k.single i j a b h.1 g.1 pa pb same
            ]
          ]

      pub drawn : IsKept key log (next + 1) serving record { words = slice_set s.words 0 (next + 1); homes = s.homes; views = set s.views id (moved Waits next [] v) }
      drawn =
          let like : Like v (moved Waits next [] v) = record { seen = refl; mine = refl; met = refl; turn = refl; units = refl } in
          record {
            words = ap (λ (ws : List ℕ). slice_set ws 0 (next + 1)) k.words;
            tickets = let h = total_set (λ (y : View E K). tickets y.stage) s.views id v (moved Waits next [] v) here in let z : tickets v.stage ≡ 0 = ap tickets idle in omega (arith, h, z, k.tickets);
            units = total_like (λ (y : View E K). y.units) s.views id v (moved Waits next [] v) here refl ∙ k.units;
            places = λ p. total_like (marks p) s.views id v (moved Waits next [] v) here refl ∙ k.places p;
            each = drawn_each;
            blank = blank_but s.views id (moved Waits next [] v) pos k.blank;
            single = drawn_single;
            ordered = ordered_like s.views id v (moved Waits next [] v) here like k.ordered;
            slot = slot_stays log s.homes s.views id v (moved Waits next [] v) here (is_idle v.stage idle) (λ x. x) k.slot;
          }

    -- ---- the journal is taken

    module _ (waits : v.stage ≡ Waits) (now : serving ≡ v.ticket) where
      nobody : (by : ℕ) (x : View E K) → get_elem? s.views by ≡ some x → (st : Stage) → x.stage ≡ st → ¬ (IsHolder st)
      nobody by x e Idle q h = h
      nobody by x e Waits q h = h
      nobody by x e Holds q h =
          let f : StageFits next serving x.ticket x.units Holds = subst (StageFits next serving x.ticket x.units) q (k.each by x e).stage in
          let i : by ≡ id = k.single by id x v e here (subst HasTicket (sym q) tt) (subst HasTicket (sym waits) tt) (f.0 ∙ now) in
          let same : x ≡ v = some-injective x v (sym e ∙ ap (get_elem? s.views) i ∙ here) in
          let r : IsHolder Waits = subst IsHolder (sym q ∙ ap (λ (y : View E K). y.stage) same ∙ waits) tt in r
      nobody by x e Closed q h =
          let f : x.units ≡ all_units = subst (StageFits next serving x.ticket x.units) q (k.each by x e).stage in
          let ne : by ≢ id = λ i.
          let same : x ≡ v = some-injective x v (sym e ∙ ap (get_elem? s.views) i ∙ here) in
          let r : IsHolder Waits = subst IsHolder (sym q ∙ ap (λ (y : View E K). y.stage) same ∙ waits) tt in r in
          let t = total_two (λ (y : View E K). y.units) s.views by id x v ne e here in
          absurd (omega (arith, f, t, k.units, has_units (subst HasTicket (sym waits) tt)))

      pub at_home : AtHome key log s.homes s.views
      at_home = elim k.slot [ inl h ↦ h | inr h ↦ absurd (nobody h.1.0 h.1.1 h.1.2 h.1.1.stage refl h.1.3) ]

      taken_each : (by : ℕ) (w : View E K) → get_elem? (set s.views id (moved Holds v.ticket log v)) by ≡ some w → Fits key log next serving w
      taken_each by w e =
          elim (at_set s.views id by (moved Holds v.ticket log v) w e) [
            | inl h ↦
                let f = k.each id v here in
                subst (Fits key log next serving) h.1 (record { kind = f.kind; twin = refl; stage = (sym now, ticket_below next serving v.ticket v.units v.stage f.stage (subst HasTicket (sym waits) tt)); seen = f.seen; turn = f.turn; begins = (v.seen, refl) })
            | inr h ↦ k.each by w h.1
          ]

      pub taken_kind : v.kind ≡ key
      taken_kind = (k.each id v here).kind (has_units (subst HasTicket (sym waits) tt))

      pub taken : IsKept key log next serving record { words = s.words; homes = slice_set s.homes 0 none; views = set s.views id (moved Holds v.ticket log v) }
      taken =
          let like : Like v (moved Holds v.ticket log v) = record { seen = refl; mine = refl; met = refl; turn = refl; units = refl } in
          let has : HasTicket v.stage = subst HasTicket (sym waits) tt in
          record {
            words = k.words;
            tickets = let h = total_set (λ (y : View E K). tickets y.stage) s.views id v (moved Holds v.ticket log v) here in let z : tickets v.stage ≡ 1 = ap tickets waits in omega (arith, h, z, k.tickets);
            units = total_like (λ (y : View E K). y.units) s.views id v (moved Holds v.ticket log v) here refl ∙ k.units;
            places = λ p. total_like (marks p) s.views id v (moved Holds v.ticket log v) here refl ∙ k.places p;
            each = taken_each;
            blank = blank_but s.views id (moved Holds v.ticket log v) (has_units has) k.blank;
            single = single_same s.views id v (moved Holds v.ticket log v) here has refl k.single;
            ordered = ordered_like s.views id v (moved Holds v.ticket log v) here like k.ordered;
            slot = inr (ap (λ (hs : List (Option (Slot E K))). slice_set hs 0 none) at_home.0, (id, moved Holds v.ticket log v, there_set s.views id v (moved Holds v.ticket log v) here, tt, refl));
          }

    -- ---- the journal is given back, and the next number served

    module _ (holds : v.stage ≡ Holds) (new more : List (Did E)) (longer : new ≡ v.held ++ more) (one : (more ≡ []) ⊎ (length more ≡ 1)) where
      own_fits : StageFits next serving v.ticket v.units Holds
      own_fits = subst (StageFits next serving v.ticket v.units) holds (k.each id v here).stage

      -- the one that holds is this one
      the_holder : (by : ℕ) (x : View E K) → get_elem? s.views by ≡ some x → (st : Stage) → x.stage ≡ st → IsHolder st → by ≡ id
      the_holder by x e Idle q h = absurd h
      the_holder by x e Waits q h = absurd h
      the_holder by x e Holds q h =
          let f : StageFits next serving x.ticket x.units Holds = subst (StageFits next serving x.ticket x.units) q (k.each by x e).stage in
          k.single by id x v e here (subst HasTicket (sym q) tt) (subst HasTicket (sym holds) tt) (f.0 ∙ sym own_fits.0)
      the_holder by x e Closed q h =
          let f : x.units ≡ all_units = subst (StageFits next serving x.ticket x.units) q (k.each by x e).stage in
          dite (ℕ_discrete by id) (λ i. i)
          (λ ne. absurd (omega (arith, f, total_two (λ (y : View E K). y.units) s.views by id x v ne e here, k.units, has_units (subst HasTicket (sym holds) tt))))

      kind_is : v.kind ≡ key
      kind_is = (k.each id v here).kind (has_units (subst HasTicket (sym holds) tt))

      is_out : Out log s.homes s.views
      is_out = elim k.slot [ inl h ↦ absurd (h.1 id v here (subst IsHolder (sym holds) tt)) | inr h ↦ h ]

      held_is : v.held ≡ log
      held_is =
          let o = is_out in
          let i : o.1.0 ≡ id = the_holder o.1.0 o.1.1 o.1.2 o.1.1.stage refl o.1.3 in
          let same : o.1.1 ≡ v = some-injective o.1.1 v (sym o.1.2 ∙ ap (get_elem? s.views) i ∙ here) in
          sym (ap (λ (y : View E K). y.held) same) ∙ o.1.4

      goes_on : (seen : List (Did E)) → StartsWith log seen → StartsWith new seen
      goes_on seen h = (h.0 ++ more, longer ∙ ap (λ (l : List (Did E)). l ++ more) (held_is ∙ h.1) ∙ append_assoc seen h.0 more)

      past_stage : (by : ℕ) (w : View E K) → get_elem? s.views by ≡ some w → by ≢ id → (st : Stage) → w.stage ≡ st → StageFits next serving w.ticket w.units st → StageFits next (serving + 1) w.ticket w.units st
      past_stage by w e ne Idle q f = tt
      past_stage by w e ne Waits q f =
          let n : serving ≢ w.ticket = λ t. ne (k.single by id w v e here (subst HasTicket (sym q) tt) (subst HasTicket (sym holds) tt) (sym t ∙ sym own_fits.0)) in (omega (arith, f.0, n), f.1)
      past_stage by w e ne Holds q f = absurd (ne (the_holder by w e Holds q tt))
      past_stage by w e ne Closed q f = f

      left_each : (by : ℕ) (w : View E K) → get_elem? (set s.views id (left v new)) by ≡ some w → Fits key new next (serving + 1) w
      left_each by w e =
          elim (at_set s.views id by (left v new) w e) [
            | inl h ↦ subst (Fits key new next (serving + 1)) h.1 (record { kind = (k.each id v here).kind; twin = refl; stage = tt; seen = ([], sym (append-nil new)); turn = omega (arith, own_fits.0); begins = (new, refl) })
            | inr h ↦ let f = k.each by w h.1 in record { kind = f.kind; twin = f.twin; stage = past_stage by w h.1 h.0 w.stage refl f.stage; seen = goes_on w.seen f.seen; turn = omega (arith, f.turn); begins = f.begins }
          ]

      left_ordered : Ordered (set s.views id (left v new))
      left_ordered i j a b ea eb pa pb le =
          elim (at_set s.views id i (left v new) a ea) [
            | inl h ↦ elim (at_set s.views id j (left v new) b eb) [
              | inl g ↦ subst (λ (y : View E K). StartsWith y.seen a.seen) g.1 (subst (λ (y : View E K). StartsWith new y.seen) h.1 ([], sym (append-nil new)))
              | inr g ↦ let t : v.ticket + 1 ≡ a.turn = ap (λ (y : View E K). y.turn) h.1 in absurd (omega (arith, t, le, own_fits.0, (k.each j b g.1).turn))
            ]
            | inr h ↦ elim (at_set s.views id j (left v new) b eb) [
              | inl g ↦ subst (λ (y : View E K). StartsWith y.seen a.seen) g.1 (goes_on a.seen (k.each i a h.1).seen)
              | inr g ↦ k.ordered i j a b h.1 g.1 pa pb le
            ]
          ]

      left_home : (by : ℕ) (w : View E K) → get_elem? (set s.views id (left v new)) by ≡ some w → ¬ (IsHolder w.stage)
      left_home by w e holder =
          elim (at_set s.views id by (left v new) w e) [
            | inl a ↦ let n : IsHolder Idle = subst (λ (y : View E K). IsHolder y.stage) (sym a.1) holder in absurd n
            | inr a ↦ absurd (a.0 (the_holder by w a.1 w.stage refl holder))
          ]

      new_length : length new ≡ length v.held + length more
      new_length = ap length longer ∙ length-append v.held more

      new_places : (p : ℕ) → times p (upto (length new)) ≡ times p (upto (length log)) + times p (places_from (length v.held) (length new))
      new_places p =
          elim one [
            | inl h ↦
                let z : length more ≡ 0 = ap length h in
                let e : length new ≡ length v.held = omega (arith, new_length, z) in
                ap (λ (n : ℕ). times p (upto n)) (e ∙ ap length held_is) ∙ none_from p (length v.held) (length new) e (times p (upto (length log)))
            | inr h ↦
                let e : length new ≡ suc (length v.held) = omega (arith, new_length, h) in
                one_from p (length v.held) (length new) e ∙ ap (λ (n : ℕ). times p (upto n) + times p (places_from (length v.held) (length new))) (ap length held_is)
          ]

      pub left_kept : IsKept key new next (serving + 1) record { words = slice_set s.words 1 (v.ticket + 1); homes = slice_set s.homes 0 (some (Some (v.kind, new))); views = set s.views id (left v new) }
      left_kept = record {
        words = ap (λ (ws : List ℕ). slice_set ws 1 (v.ticket + 1)) k.words ∙ ap (λ (n : ℕ). next ∷ (n + 1) ∷ []) own_fits.0;
        tickets = let h = total_set (λ (y : View E K). tickets y.stage) s.views id v (left v new) here in let z : tickets v.stage ≡ 1 = ap tickets holds in omega (arith, h, z, k.tickets);
        units = total_like (λ (y : View E K). y.units) s.views id v (left v new) here refl ∙ k.units;
        places = λ p.
            let h = total_set (marks p) s.views id v (left v new) here in
            let a = times-append p v.mine (places_from (length v.held) (length new)) in
            let b = new_places p in
            let c = k.places p in omega (arith, h, a, b, c);
        each = left_each;
        blank = blank_but s.views id (left v new) (has_units (subst HasTicket (sym holds) tt)) k.blank;
        single = single_drop s.views id (left v new) (λ x. x) k.single;
        ordered = left_ordered;
        slot = inl (ap (λ (hs : List (Option (Slot E K))). slice_set hs 0 (some (Some (v.kind, new)))) is_out.0 ∙ ap (λ (x : K). some (Some (x, new)) ∷ []) kind_is, left_home);
      }

    -- ---- the whole caller closes

    module _ (idle : v.stage ≡ Idle) (whole : v.units ≡ all_units) where
      others_blank : (j : ℕ) (w : View E K) → j ≢ id → get_elem? s.views j ≡ some w → IsBlank w
      others_blank j w ne e = let t = total_two (λ (y : View E K). y.units) s.views j id w v ne e here in k.blank j w e (omega (arith, t, whole, k.units))

      pub close_home : AtHome key log s.homes s.views
      close_home =
          elim k.slot [
            | inl h ↦ h
            | inr h ↦ absurd (dite (ℕ_discrete h.1.0 id)
                (λ i. let same : h.1.1 ≡ v = some-injective h.1.1 v (sym h.1.2 ∙ ap (get_elem? s.views) i ∙ here) in is_idle h.1.1.stage (ap (λ (y : View E K). y.stage) same ∙ idle) h.1.3)
                (λ ne. is_idle h.1.1.stage (others_blank h.1.0 h.1.1 ne h.1.2).0 h.1.3))
          ]

      no_marks : (p : ℕ) (j : ℕ) (w : View E K) → j ≢ id → get_elem? s.views j ≡ some w → marks p w ≡ 0
      no_marks p j w ne e = let b = others_blank j w ne e in let a : times p w.mine ≡ 0 = ap (times p) b.1 in let c : times p w.met ≡ 0 = ap (times p) b.2 in omega (arith, a, c)

      pub all_places : (p : ℕ) → times p v.mine + times p v.met ≡ times p (upto (length log))
      all_places p = sym (total_only (marks p) s.views id v here (no_marks p)) ∙ k.places p

      closed_each : (by : ℕ) (w : View E K) → get_elem? (set s.views id (moved Closed 0 log v)) by ≡ some w → Fits key log next serving w
      closed_each by w e =
          elim (at_set s.views id by (moved Closed 0 log v) w e) [
            | inl h ↦ let f = k.each id v here in subst (Fits key log next serving) h.1 (record { kind = f.kind; twin = refl; stage = whole; seen = f.seen; turn = f.turn; begins = (v.seen, refl) })
            | inr h ↦ k.each by w h.1
          ]

      pub closed_kind : v.kind ≡ key
      closed_kind = (k.each id v here).kind (omega (arith, whole))

      pub closed : IsKept key log next serving record { words = s.words; homes = slice_set s.homes 0 none; views = set s.views id (moved Closed 0 log v) }
      closed =
          let like : Like v (moved Closed 0 log v) = record { seen = refl; mine = refl; met = refl; turn = refl; units = refl } in
          record {
            words = k.words;
            tickets = let h = total_set (λ (y : View E K). tickets y.stage) s.views id v (moved Closed 0 log v) here in let z : tickets v.stage ≡ 0 = ap tickets idle in omega (arith, h, z, k.tickets);
            units = total_like (λ (y : View E K). y.units) s.views id v (moved Closed 0 log v) here refl ∙ k.units;
            places = λ p. total_like (marks p) s.views id v (moved Closed 0 log v) here refl ∙ k.places p;
            each = closed_each;
            blank = blank_but s.views id (moved Closed 0 log v) (omega (arith, whole)) k.blank;
            single = single_drop s.views id (moved Closed 0 log v) (λ x. x) k.single;
            ordered = ordered_like s.views id v (moved Closed 0 log v) here like k.ordered;
            slot = inr (ap (λ (hs : List (Option (Slot E K))). slice_set hs 0 none) close_home.0, (id, moved Closed 0 log v, there_set s.views id v (moved Closed 0 log v) here, tt, refl));
          }

  -- ---- nothing happens

  unchanged : (s : State (Slot E K) (View E K)) (i n id : ℕ) (c : List (ℕ × Slot E K)) (v : View E K) → n ≡ get_or s.words i 0 → get_elem? s.views id ≡ some v → Kept key s → Kept key (stepped s i n id c v keeps)
  unchanged s i n id c v e here k =
      let words : set s.words i n ≡ s.words = ap (set s.words i) e ∙ set_same s.words i in
      let views : set s.views id v ≡ s.views = set_again s.views id v here in
      subst (λ (ws : List ℕ). Kept key record { words = ws; homes = s.homes; views = set s.views id v }) (sym words)
      (subst (λ (vs : List (View E K)). Kept key record { words = s.words; homes = s.homes; views = vs }) (sym views) k)

  -- ---- what each step asks

  pub may_draw : (slots id n : ℕ) (me : Caller E K) → me.0.stage ≡ Idle → 0 < me.0.units → Allows (Kept key) slots id me 0 (λ x. either (eqb x n) (n + 1) x) (draws (step slots 0 n (n + 1) none) me)
  may_draw slots id n me idle pos s k len here small =
      let x = slice_index s.words 0 in
      dite (ℕ_discrete x n)
      (λ e. (
        moved Waits n [] me.0,
        keeps,
        tt,
        subst (λ b. Kept key (stepped s 0 (either b (n + 1) x) id me.1 (moved Waits n [] me.0) keeps)) (sym (eq-eqb x n e))
            (let m : k.1 ≡ n = sym (first_word k.0 k.1 k.2 id s k.3 me.0 here) ∙ e in
            subst (λ p. Kept key (stepped s 0 (p + 1) id me.1 (moved Waits p [] me.0) keeps)) m (k.0, k.1 + 1, k.2, drawn k.0 k.1 k.2 id s k.3 me.0 here idle pos)),
        inl (e, refl),
      ))
      (λ ne. (
        me.0,
        keeps,
        tt,
        subst (λ b. Kept key (stepped s 0 (either b (n + 1) x) id me.1 me.0 keeps)) (sym (ne_eqb x n ne))
            (unchanged s 0 x id me.1 me.0 refl here k),
        inr (ne, refl),
      ))

  pub may_look : (slots id : ℕ) (me : Caller E K) → me.0.stage ≡ Waits → Allows (Kept key) slots id me 1 (λ x. x) (looks (step slots 1 0 0 none) me)
  may_look slots id me waits s k len here small =
      let x = slice_index s.words 1 in
      dite (ℕ_discrete x me.0.ticket)
      (λ e.
      let w : x ≡ k.2 = second_word k.0 k.1 k.2 id s k.3 me.0 here in
      let m : k.2 ≡ me.0.ticket = sym w ∙ e in
      let home = at_home k.0 k.1 k.2 id s k.3 me.0 here waits m in
      let t = taken k.0 k.1 k.2 id s k.3 me.0 here waits m in
      let f = k.3.each id me.0 here in
      let same = taken_kind k.0 k.1 k.2 id s k.3 me.0 here waits m in (
        moved Holds me.0.ticket k.0 me.0,
        takes 0 (Some (me.0.kind, k.0)),
        ap (λ (hs : List (Option (Slot E K))). get_elem? hs 0) home.0 ∙ ap (λ (x : K). some (some (Some (x, k.0)))) (sym same),
        (k.0, k.1, k.2, subst (λ (ws : List ℕ). IsKept key k.0 k.1 k.2 record { words = ws; homes = slice_set s.homes 0 none; views = set s.views id (moved Holds me.0.ticket k.0 me.0) }) (sym (set_same s.words 1)) t),
        inl (e, (k.0, f.seen, omega (arith, w, f.turn), refl)),
      ))
      (λ ne. (me.0, keeps, tt, unchanged s 1 x id me.1 me.0 refl here k, inr (ne, refl)))

  more_of : (log new : List (Did E)) → Grows log new → (more : List (Did E)) × (new ≡ log ++ more) × ((more ≡ []) ⊎ (length more ≡ 1))
  more_of log new g = elim g [ inl e ↦ ([], e ∙ sym (append-nil log), inl refl) | inr d ↦ (d.0 ∷ [], d.1, inr refl) ]

  abbrev with_rest : View E K → List (ℕ × Slot E K) → Caller E K
  with_rest v c = (v, rest c)

  pub may_leave : (slots id t : ℕ) (me : Caller E K) (new : List (Did E)) → me.0.stage ≡ Holds → me.0.ticket ≡ t → me.1 ≡ (0, Some (me.0.kind, new)) ∷ [] → Grows me.0.held new
      → Allows (Kept key) slots id me 1 (λ _. t + 1) (λ _. leaves (step slots 1 (t + 1) 0 none) me (t + 1))
  may_leave slots id t me new holds is out grows s k len here small =
      let m = more_of me.0.held new grows in
      let l = left_kept k.0 k.1 k.2 id s k.3 me.0 here holds new m.0 m.1 m.2 in (
        left me.0 new,
        gives,
        tt,
        (
          new,
          k.1,
          k.2 + 1,
          subst (λ (c : List (ℕ × Slot E K)). IsKept key new k.1 (k.2 + 1) (stepped s 1 (t + 1) id c (left me.0 new) gives)) (sym out)
              (subst (λ (n : ℕ). IsKept key new k.1 (k.2 + 1) record { words = slice_set s.words 1 (n + 1); homes = slice_set s.homes 0 (some (Some (me.0.kind, new))); views = set s.views id (left me.0 new) }) is l),
        ),
        (new, out, ap (with_rest (left me.0 new)) out),
      )

  abbrev with_one : View E K → Slot E K → List (ℕ × Slot E K) → Caller E K
  with_one v x c = (v, (0, x) ∷ c)

  pub may_close : (slots id : ℕ) (me : Caller E K) → me.0.stage ≡ Idle → me.0.units ≡ all_units → me.1 ≡ [] → Allows (Kept key) slots id me 0 (λ x. x) (closes (step slots 0 0 0 none) me)
  may_close slots id me idle whole none_held s k len here small =
      let home = close_home k.0 k.1 k.2 id s k.3 me.0 here idle whole in
      let c = closed k.0 k.1 k.2 id s k.3 me.0 here idle whole in
      let same = closed_kind k.0 k.1 k.2 id s k.3 me.0 here idle whole in (
        moved Closed 0 k.0 me.0,
        takes 0 (Some (me.0.kind, k.0)),
        ap (λ (hs : List (Option (Slot E K))). get_elem? hs 0) home.0 ∙ ap (λ (x : K). some (some (Some (x, k.0)))) (sym same),
        (k.0, k.1, k.2, subst (λ (ws : List ℕ). IsKept key k.0 k.1 k.2 record { words = ws; homes = slice_set s.homes 0 none; views = set s.views id (moved Closed 0 k.0 me.0) }) (sym (set_same s.words 0)) c),
        (k.0, (k.3.each id me.0 here).seen, all_places k.0 k.1 k.2 id s k.3 me.0 here idle whole, ap (with_one (moved Closed 0 k.0 me.0) (Some (me.0.kind, k.0))) none_held),
      )

  pub may_count : (slots id : ℕ) (me : Caller E K) → Allows (Kept key) slots id me 0 (λ x. x) (counts (step slots 0 0 0 none) me)
  may_count slots id me s k len here small =
      let t = total_has (λ (y : View E K). y.units) s.views id me.0 here in
      (me.0, keeps, tt, unchanged s 0 (slice_index s.words 0) id me.1 me.0 refl here k, (omega (arith, t, k.3.units), (k.3.each id me.0 here).twin, (k.3.each id me.0 here).begins, refl))

  -- ---- units are given away

  module _ (log : List (Did E)) (next serving id : ℕ) (s : State (Slot E K) (View E K)) (k : IsKept key log next serving s) (v : View E K) (here : get_elem? s.views id ≡ some v) (idle : v.stage ≡ Idle) where
    offering_each : (n : ℕ) → (by : ℕ) (w : View E K) → get_elem? (set s.views id (offering n v)) by ≡ some w → Fits key log next serving w
    offering_each n by w e =
        elim (at_set s.views id by (offering n v) w e) [
          | inl h ↦ let f = k.each id v here in subst (Fits key log next serving) h.1 (record { kind = f.kind; twin = refl; stage = tt; seen = f.seen; turn = f.turn; begins = (v.seen, refl) })
          | inr h ↦ k.each by w h.1
        ]

    pub offered : (n : ℕ) → 0 < v.units → IsKept key log next serving record { words = s.words; homes = s.homes; views = set s.views id (offering n v) }
    offered n pos =
        let like : Like v (offering n v) = record { seen = refl; mine = refl; met = refl; turn = refl; units = refl } in
        record {
          words = k.words;
          tickets = let h = total_set (λ (y : View E K). tickets y.stage) s.views id v (offering n v) here in let z : tickets v.stage ≡ 0 = ap tickets idle in omega (arith, h, z, k.tickets);
          units = total_like (λ (y : View E K). y.units) s.views id v (offering n v) here refl ∙ k.units;
          places = λ p. total_like (marks p) s.views id v (offering n v) here refl ∙ k.places p;
          each = offering_each n;
          blank = blank_but s.views id (offering n v) pos k.blank;
          single = single_drop s.views id (offering n v) (λ x. x) k.single;
          ordered = ordered_like s.views id v (offering n v) here like k.ordered;
          slot = slot_stays log s.homes s.views id v (offering n v) here (is_idle v.stage idle) (λ x. x) k.slot;
        }

    -- ---- a view is cut in two

    module _ (some_given : 0 < v.offer) (some_kept : v.offer < v.units) where
      cut_back : (j : ℕ) (w : View E K) → get_elem? (set s.views id (giver v) ++ newcomer v ∷ []) j ≡ some w → 0 < w.units → (i : ℕ) × (x : View E K) × (get_elem? s.views i ≡ some x) × (x.seen ≡ w.seen) × (x.turn ≡ w.turn) × (0 < x.units)
      cut_back j w e p =
          elim (at_snoc (set s.views id (giver v)) (newcomer v) w j e) [
            | inl h ↦ elim (at_set s.views id j (giver v) w h) [
              | inl g ↦ (id, v, here, ap (λ (y : View E K). y.seen) g.1, ap (λ (y : View E K). y.turn) g.1, omega (arith, some_kept))
              | inr g ↦ (j, w, g.1, refl, refl, p)
            ]
            | inr h ↦ (id, v, here, ap (λ (y : View E K). y.seen) h, ap (λ (y : View E K). y.turn) h, omega (arith, some_kept))
          ]

      cut_each : (by : ℕ) (w : View E K) → get_elem? (set s.views id (giver v) ++ newcomer v ∷ []) by ≡ some w → Fits key log next serving w
      cut_each by w e =
          let f = k.each id v here in
          elim (at_snoc (set s.views id (giver v)) (newcomer v) w by e) [
            | inl h ↦ elim (at_set s.views id by (giver v) w h) [
              | inl g ↦ subst (Fits key log next serving) g.1 (record { kind = λ _. f.kind (omega (arith, some_kept)); twin = refl; stage = tt; seen = f.seen; turn = f.turn; begins = (v.seen, refl) })
              | inr g ↦ k.each by w g.1
            ]
            | inr h ↦ subst (Fits key log next serving) h (record { kind = λ _. f.kind (omega (arith, some_kept)); twin = refl; stage = tt; seen = f.seen; turn = f.turn; begins = (v.seen, refl) })
          ]

      cut_blank : (by : ℕ) (w : View E K) → get_elem? (set s.views id (giver v) ++ newcomer v ∷ []) by ≡ some w → w.units ≡ 0 → IsBlank w
      cut_blank by w e z =
          elim (at_snoc (set s.views id (giver v)) (newcomer v) w by e) [
            | inl h ↦ blank_but s.views id (giver v) (omega (arith, some_kept)) k.blank by w h z
            | inr h ↦ let u : v.offer ≡ w.units = ap (λ (y : View E K). y.units) h in absurd (omega (arith, u, z, some_given))
          ]

      cut_single : Single (set s.views id (giver v) ++ newcomer v ∷ [])
      cut_single i j a b ea eb pa pb same =
          elim (at_snoc (set s.views id (giver v)) (newcomer v) a i ea) [
            | inl h ↦ elim (at_snoc (set s.views id (giver v)) (newcomer v) b j eb) [
              | inl g ↦ single_drop s.views id (giver v) (λ x. x) k.single i j a b h g pa pb same
              | inr g ↦ let x : HasTicket Idle = subst (λ (y : View E K). HasTicket y.stage) (sym g) pb in absurd x
            ]
            | inr h ↦ let x : HasTicket Idle = subst (λ (y : View E K). HasTicket y.stage) (sym h) pa in absurd x
          ]

      cut_total : (f : View E K → ℕ) → f (giver v) + f (newcomer v) ≡ f v → total f (set s.views id (giver v) ++ newcomer v ∷ []) ≡ total f s.views
      cut_total f e = let a = total_snoc f (set s.views id (giver v)) (newcomer v) in let b = total_set f s.views id v (giver v) here in omega (arith, a, b, e)

      pub cut : IsKept key log next serving record { words = s.words; homes = s.homes; views = set s.views id (giver v) ++ newcomer v ∷ [] }
      cut = record {
        words = k.words;
        tickets = let z : tickets v.stage ≡ 0 = ap tickets idle in k.tickets ∙ ap (λ (n : ℕ). serving + n) (sym (cut_total (λ (y : View E K). tickets y.stage) (sym z)));
        units = cut_total (λ (y : View E K). y.units) (omega (arith, some_kept)) ∙ k.units;
        places = λ p. cut_total (marks p) (omega arith) ∙ k.places p;
        each = cut_each;
        blank = cut_blank;
        single = cut_single;
        ordered = ordered_back s.views (set s.views id (giver v) ++ newcomer v ∷ []) cut_back k.ordered;
        slot = slot_snoc log s.homes (set s.views id (giver v)) (newcomer v) (λ x. x) (slot_stays log s.homes s.views id v (giver v) here (is_idle v.stage idle) (λ x. x) k.slot);
      }

  pub may_offer : (slots id n : ℕ) (me : Caller E K) → me.0.stage ≡ Idle → 0 < me.0.units → Allows (Kept key) slots id me 0 (λ x. either (eqb x n) n x) (offers (step slots 0 n n none) me)
  may_offer slots id n me idle pos s k len here small =
      let x = slice_index s.words 0 in
      let o = offered k.0 k.1 k.2 id s k.3 me.0 here idle n pos in
      let same : either (eqb x n) n x ≡ x = dite (ℕ_discrete x n) (λ e. ap (λ b. either b n x) (eq-eqb x n e) ∙ sym e) (λ ne. ap (λ b. either b n x) (ne_eqb x n ne)) in (
        offering n me.0,
        keeps,
        tt,
        (k.0, k.1, k.2, subst (λ (ws : List ℕ). IsKept key k.0 k.1 k.2 record { words = ws; homes = s.homes; views = set s.views id (offering n me.0) }) (sym (ap (set s.words 0) same ∙ set_same s.words 0)) o),
        refl,
      )

  pub may_cut : (id : ℕ) (v : View E K) → v.stage ≡ Idle → 0 < v.offer → v.offer < v.units → Splits (Kept key) id v (giver v) (newcomer v)
  may_cut id v idle a b s k here = (k.0, k.1, k.2, cut k.0 k.1 k.2 id s k.3 v here idle a b)

  -- ---- two views are made one

  module _ (blank : K) (log : List (Did E)) (next serving id : ℕ) (s : State (Slot E K) (View E K)) (k : IsKept key log next serving s) (v : View E K) (here : get_elem? s.views id ≡ some v)
      (idle : v.stage ≡ Idle) (other : ℕ) (w : View E K) (ne : other ≢ id) (there : get_elem? (set s.views id (joined v w)) other ≡ some w) (idle' : w.stage ≡ Idle) (pos : 0 < v.units) (pos' : 0 < w.units) where
    other_here : get_elem? s.views other ≡ some w
    other_here = sym (set_else s.views id other (joined v w) ne) ∙ there

    join_total : (f : View E K → ℕ) → f (joined v w) + f (spent_view blank) ≡ f v + f w → total f (set (set s.views id (joined v w)) other (spent_view blank)) ≡ total f s.views
    join_total f e =
        let a = total_set f (set s.views id (joined v w)) other w (spent_view blank) there in
        let b = total_set f s.views id v (joined v w) here in omega (arith, a, b, e)

    join_marks : (p : ℕ) → marks p (joined v w) + marks {E = E} p (spent_view blank) ≡ marks p v + marks p w
    join_marks p =
        let a = times-append p v.met (w.mine ++ w.met) in
        let b = times-append p w.mine w.met in
        let c : times p (joined v w).met ≡ times p (v.met ++ (w.mine ++ w.met)) = refl in
        let d : times p (joined v w).mine ≡ times p v.mine = refl in
        let e : marks {E = E} p (spent_view blank) ≡ 0 = refl in omega (arith, a, b, c, d, e)

    -- the joined view has seen as much as one of the two, and has that one's turn
    as_one : (i : ℕ) × (x : View E K) × (get_elem? s.views i ≡ some x) × (x.seen ≡ (joined v w).seen) × (x.turn ≡ (joined v w).turn) × (0 < x.units)
    as_one =
        elim (nat_le v.turn w.turn) as (λ c. (i : ℕ) × (x : View E K) × (get_elem? s.views i ≡ some x) × (x.seen ≡ (if c then w.seen else v.seen)) × (x.turn ≡ (if c then w.turn else v.turn)) × (0 < x.units)) [
          | true ↦ (other, w, other_here, refl, refl, pos')
          | false ↦ (id, v, here, refl, refl, pos)
        ]

    begins_by : (c : Bool) → nat_le v.turn w.turn ≡ c → StartsWith (if c then w.seen else v.seen) (if c then v.seen else w.seen)
    begins_by true e = k.ordered id other v w here other_here pos pos' (leb-true v.turn w.turn e)
    begins_by false e = k.ordered other id w v other_here here pos' pos (omega (arith, leb-false v.turn w.turn e))

    -- of the two, the one with the later turn has seen what the other has
    join_begins : StartsWith (joined v w).seen (joined v w).other
    join_begins = begins_by (nat_le v.turn w.turn) refl

    join_back : (j : ℕ) (y : View E K) → get_elem? (set (set s.views id (joined v w)) other (spent_view blank)) j ≡ some y → 0 < y.units → (i : ℕ) × (x : View E K) × (get_elem? s.views i ≡ some x) × (x.seen ≡ y.seen) × (x.turn ≡ y.turn) × (0 < x.units)
    join_back j y e p =
        elim (at_set (set s.views id (joined v w)) other j (spent_view blank) y e) [
          | inl h ↦ let z : 0 ≡ y.units = ap (λ (q : View E K). q.units) h.1 in absurd (omega (arith, z, p))
          | inr h ↦ elim (at_set s.views id j (joined v w) y h.1) [
            | inl g ↦ let o = as_one in (o.0, o.1, o.2, o.3 ∙ ap (λ (q : View E K). q.seen) g.1, o.4 ∙ ap (λ (q : View E K). q.turn) g.1, o.5)
            | inr g ↦ (j, y, g.1, refl, refl, p)
          ]
        ]

    join_each : (by : ℕ) (y : View E K) → get_elem? (set (set s.views id (joined v w)) other (spent_view blank)) by ≡ some y → Fits key log next serving y
    join_each by y e =
        elim (at_set (set s.views id (joined v w)) other by (spent_view blank) y e) [
          | inl h ↦ subst (Fits key log next serving) h.1 (record { kind = λ p. absurd (omega (arith, p)); twin = refl; stage = tt; seen = (log, refl); turn = omega arith; begins = ([], refl) })
          | inr h ↦ elim (at_set s.views id by (joined v w) y h.1) [
            | inl g ↦
                let o = as_one in
                let f = k.each o.0 o.1 o.2 in
                subst (Fits key log next serving) g.1 (record { kind = λ _. (k.each id v here).kind pos; twin = (k.each other w other_here).kind pos' ∙ sym ((k.each id v here).kind pos); stage = tt; seen = subst (StartsWith log) o.3 f.seen; turn = subst (λ (n : ℕ). n ≤ serving) o.4 f.turn; begins = join_begins })
            | inr g ↦ k.each by y g.1
          ]
        ]

    join_blank : (by : ℕ) (y : View E K) → get_elem? (set (set s.views id (joined v w)) other (spent_view blank)) by ≡ some y → y.units ≡ 0 → IsBlank y
    join_blank by y e z =
        elim (at_set (set s.views id (joined v w)) other by (spent_view blank) y e) [
          | inl h ↦ subst IsBlank h.1 (refl, refl, refl)
          | inr h ↦ blank_but s.views id (joined v w) (omega (arith, pos)) k.blank by y h.1 z
        ]

    pub join : IsKept key log next serving record { words = s.words; homes = s.homes; views = set (set s.views id (joined v w)) other (spent_view blank) }
    join = record {
      words = k.words;
      tickets = let z : tickets v.stage ≡ 0 = ap tickets idle in let z' : tickets w.stage ≡ 0 = ap tickets idle' in let h = join_total (λ (y : View E K). tickets y.stage) (omega (arith, z, z')) in omega (arith, k.tickets, h);
      units = join_total (λ (y : View E K). y.units) (omega arith) ∙ k.units;
      places = λ p. join_total (marks p) (join_marks p) ∙ k.places p;
      each = join_each;
      blank = join_blank;
      single = single_drop (set s.views id (joined v w)) other (spent_view blank) (λ x. x) (single_drop s.views id (joined v w) (λ x. x) k.single);
      ordered = ordered_back s.views (set (set s.views id (joined v w)) other (spent_view blank)) join_back k.ordered;
      slot = slot_stays log s.homes (set s.views id (joined v w)) other w (spent_view blank) there (is_idle w.stage idle') (λ x. x) (slot_stays log s.homes s.views id v (joined v w) here (is_idle v.stage idle) (λ x. x) k.slot);
    }

  pub may_join : (blank : K) (id : ℕ) (v : View E K) (other : ℕ) (w : View E K) → v.stage ≡ Idle → w.stage ≡ Idle → 0 < v.units → 0 < w.units → Joins (Kept key) id v other w (joined v w) (spent_view blank)
  may_join blank id v other w idle idle' pos pos' s k here ne there = (k.0, k.1, k.2, join blank k.0 k.1 k.2 id s k.3 v here idle other w ne there idle' pos pos')

  -- ---- the beginning

  only : (by : ℕ) (v : View E K) → get_elem? (first_view key ∷ []) by ≡ some v → first_view key ≡ v
  only zero v e = some-injective (first_view key) v e
  only (suc n) v e = absurd (some-ne-none v (sym e))

  pub opens : Kept {E = E} key (opening (0 ∷ 0 ∷ []) (Some (key, []) ∷ []) (first_view key))
  opens = (
    [],
    0,
    0,
    record {
      words = refl;
      tickets = refl;
      units = refl;
      places = λ p. refl;
      each = λ by v e. subst (Fits key [] 0 0) (only by v e) (record { kind = λ _. refl; twin = refl; stage = tt; seen = ([], refl); turn = omega arith; begins = ([], refl) });
      blank = λ by v e z. let u : all_units ≡ v.units = ap (λ (y : View E K). y.units) (only by v e) in absurd (omega (arith, u, z));
      single = λ i j v w e f p q same. let x : HasTicket Idle = subst (λ (y : View E K). HasTicket y.stage) (sym (only i v e)) p in absurd x;
      ordered = λ i j v w e f p q le. subst (λ (y : View E K). StartsWith w.seen y.seen) (only i v e) (subst (λ (y : View E K). StartsWith y.seen []) (only j w f) ([], refl));
      slot = inl (refl, λ by v e h. let x : IsHolder Idle = subst (λ (y : View E K). IsHolder y.stage) (sym (only by v e)) h in absurd x);
    },
  )

  both_by : (c : Bool) (a b : List (Did E)) → StartsWith (if c then b else a) (if c then a else b) → StartsWith (if c then b else a) a × StartsWith (if c then b else a) b
  both_by true a b h = (h, ([], sym (append-nil b)))
  both_by false a b h = (([], sym (append-nil a)), h)

  -- both of those that were met had seen a beginning of it
  pub both_seen : (v w : View E K) → StartsWith (joined v w).seen (joined v w).other → StartsWith (joined v w).seen v.seen × StartsWith (joined v w).seen w.seen
  both_seen v w h = both_by (nat_le v.turn w.turn) v.seen w.seen h
