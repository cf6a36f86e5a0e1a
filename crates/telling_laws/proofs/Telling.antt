-- What one peer is told of one synchronizer by the values that it was told last, and what counts as told then.
use Rattle.std.proofs.Common.{◌≡◌, ℕ, suc, ◌+◌, ◌*◌, ℤ, Bool, true, false, cond, not, List, [], ◌∷◌, refl, sym, ap, ap₂, ◌∙◌, map, filter, nat_eq, arith, Option, Some, None}
use Rattle.std.specs.Prelude.{◌/◌, ◌%◌, slice_get, option_map, if◌then◌else◌}
use Rattle.std.specs.List.{AllByRecursion}
use Rattle.std.proofs.lemmas.Bool.{ne_eqb, eq-eqb, true≢false}
use Rattle.gd_variant.specs.Words.{some_is}
use Rattle.gd_variant.specs.Tree.{same_value}
use Rattle.gd_variant.specs.declared.value.Variant.{Variant}
use Rattle.gd_variant.specs.declared.message.DeltaEntry.{DeltaEntry}
use Rattle.gd_variant.proofs.Equal.{value_decides}
use Rattle.scene_model.specs.Syncs.{Syncer, change_props}
use Rattle.peer_model.specs.Heard.{Who, Heard}
use Rattle.peer_model.specs.Values.{own_value}
use Rattle.peer_model.specs.Updates.{Update, Tell, masked}
use Rattle.peer_model.specs.Changes.{mask_of, tell_for, value_told}
use Rattle.world_laws.proofs.Tellings.{masked_is}
use Rattle.sight_laws.specs.Told.{told_to, told_values, tell_by}
use Rattle.sight_laws.proofs.Frames.{tell_is_by}
use Rattle.sight_laws.proofs.Lists.{map_same}
use Rattle.delta_props.specs.Telling.{ToldValues, told_of, with_told, untold, is_untold, told_by}
use Rattle.telling_laws.specs.Telling.{Tells}
use Rattle.telling_laws.proofs.Keys.{told_same}

-- masks

nothing_masked : {X : Type 0} (q : X → Bool) (xs : List X) → filter q xs ≡ [] → mask_of (map q xs) ≡ 0
nothing_masked q [] h = refl
nothing_masked q (x ∷ xs) h = step (q x) h (nothing_masked q xs)
  where
    step : (b : Bool) → cond b (x ∷ filter q xs) (filter q xs) ≡ [] → (filter q xs ≡ [] → mask_of (map q xs) ≡ 0) → (if b then 1 else 0) + 2 * mask_of (map q xs) ≡ 0
    step true k more = absurd (cc k)
    step false k more = ap (λ m. 0 + 2 * m) (more k)

something_masked : {X : Type 0} (q : X → Bool) (xs : List X) (y : X) (ys : List X) → filter q xs ≡ y ∷ ys → nat_eq (mask_of (map q xs)) 0 ≡ false
something_masked q [] y ys h = absurd (cc h)
something_masked q (x ∷ xs) y ys h = step (q x) h (something_masked q xs y ys)
  where
    step : (b : Bool) → cond b (x ∷ filter q xs) (filter q xs) ≡ y ∷ ys → (filter q xs ≡ y ∷ ys → nat_eq (mask_of (map q xs)) 0 ≡ false) → nat_eq ((if b then 1 else 0) + 2 * mask_of (map q xs)) 0 ≡ false
    step true k more = ne_eqb (1 + 2 * mask_of (map q xs)) 0 (λ e. omega (arith, e))
    step false k more = double (mask_of (map q xs)) (more k)
      where
        double : (m : ℕ) → nat_eq m 0 ≡ false → nat_eq (0 + 2 * m) 0 ≡ false
        double m e = ne_eqb (0 + 2 * m) 0 (λ f. let zero_is : m ≡ 0 = omega (arith, f) in true≢false (sym (eq-eqb m 0 zero_is) ∙ e))

-- values that were told, place by place

untold_are : (now : List ℕ → Variant) (told : List ℕ → Option Variant) (vs ws : List Variant) (i : ℕ) (ps : List (List ℕ)) → ((j : ℕ) → slice_get vs (i + j) ≡ slice_get ws j) → map Some ws ≡ map told ps
    → untold now (Some vs) i ps ≡ map (λ p. not (some_is (same_value (now p)) (told p))) ps
untold_are now told vs ws i [] at same = refl
untold_are now told vs [] i (p ∷ ps) at same = absurd (cc same)
untold_are now told vs (w ∷ ws) i (p ∷ ps) at same = ap₂ (λ b bs. b ∷ bs) first (untold_are now told vs ws (i + 1) ps later (let e : map Some ws ≡ map told ps = cc in e))
  where
    here : slice_get vs i ≡ told p
    here = let z : i ≡ i + 0 = omega arith in ap (slice_get vs) z ∙ at 0 ∙ (let e : Some w ≡ told p = cc in e)

    first : is_untold (Some vs) i (now p) ≡ not (some_is (same_value (now p)) (told p))
    first = ap (λ o. not (some_is (same_value (now p)) o)) here

    later : (j : ℕ) → slice_get vs ((i + 1) + j) ≡ slice_get ws j
    later j = let e : (i + 1) + j ≡ i + suc j = omega arith in ap (slice_get vs) e ∙ at (suc j)

-- present values that are the same

pub same_untold : (now own : List ℕ → Variant) (o : Option (List Variant)) (i : ℕ) (ps : List (List ℕ)) → AllByRecursion (λ p. now p ≡ own p) ps → untold now o i ps ≡ untold own o i ps
same_untold now own o i [] h = refl
same_untold now own o i (p ∷ ps) h = ap₂ (λ v bs. is_untold o i v ∷ bs) h.0 (same_untold now own o (i + 1) ps h.1)

same_masked : (now own : List ℕ → Variant) (m : ℕ) (ps : List (List ℕ)) → AllByRecursion (λ p. now p ≡ own p) ps → map now (masked m ps) ≡ map own (masked m ps)
same_masked now own m [] h = refl
same_masked now own m (p ∷ ps) h = step (nat_eq (m % 2) 1) (same_masked now own (m / 2) ps h.1)
  where
    step : (b : Bool) → map now (masked (m / 2) ps) ≡ map own (masked (m / 2) ps) → map now (if b then p ∷ masked (m / 2) ps else masked (m / 2) ps) ≡ map own (if b then p ∷ masked (m / 2) ps else masked (m / 2) ps)
    step true more = ap₂ (λ v vs. v ∷ vs) h.0 more
    step false more = more

pub same_told : (b : ℤ) (id : ℕ) (now own : List ℕ → Variant) (ps : List (List ℕ)) (m : ℕ) (t : ToldValues) → AllByRecursion (λ p. now p ≡ own p) ps → told_by b id now ps m t ≡ told_by b id own ps m t
same_told b id now own ps m t h = ap₂ (λ vs ws. if nat_eq m 0 then (None, t) else (Some (record { id = id; mask = m; values = vs }), with_told b id ws t)) (same_masked now own m ps h) (map_same now own ps h)

-- an entry as updates
abbrev pub tells_in : Option DeltaEntry → List Update
tells_in None = []
tells_in (Some e) = Tell e ∷ []

some_kept : (vs ws : List Variant) → map Some vs ≡ map Some ws → vs ≡ ws
some_kept [] [] h = refl
some_kept [] (w ∷ ws) h = absurd (cc h)
some_kept (v ∷ vs) [] h = absurd (cc h)
some_kept (v ∷ vs) (w ∷ ws) h = let first : v ≡ w = cc in let rest : map Some vs ≡ map Some ws = cc in ap₂ (λ x xs. x ∷ xs) first (some_kept vs ws rest)

-- nothing differs: each value was told
none_differ : (own : List ℕ → Variant) (told : List ℕ → Option Variant) (ps : List (List ℕ)) → filter (λ p. not (some_is (same_value (own p)) (told p))) ps ≡ [] → map told ps ≡ map (λ p. Some (own p)) ps
none_differ own told [] h = refl
none_differ own told (p ∷ ps) h = step (told p) refl h (λ k. none_differ own told ps k)
  where
    step : (o : Option Variant) → told p ≡ o → cond (not (some_is (same_value (own p)) (told p))) (p ∷ filter (λ q. not (some_is (same_value (own q)) (told q))) ps) (filter (λ q. not (some_is (same_value (own q)) (told q))) ps) ≡ []
        → (filter (λ q. not (some_is (same_value (own q)) (told q))) ps ≡ [] → map told ps ≡ map (λ q. Some (own q)) ps) → told p ∷ map told ps ≡ Some (own p) ∷ map (λ q. Some (own q)) ps
    step None e k more = let bad = sym (ap (λ o. cond (not (some_is (same_value (own p)) o)) (p ∷ filter (λ q. not (some_is (same_value (own q)) (told q))) ps) (filter (λ q. not (some_is (same_value (own q)) (told q))) ps)) e) ∙ k in absurd (cc bad)
    step (Some v) e k more = by (same_value (own p) v) refl (sym (ap (λ o. cond (not (some_is (same_value (own p)) o)) (p ∷ filter (λ q. not (some_is (same_value (own q)) (told q))) ps) (filter (λ q. not (some_is (same_value (own q)) (told q))) ps)) e) ∙ k)
      where
        by : (b : Bool) → same_value (own p) v ≡ b → cond (not (same_value (own p) v)) (p ∷ filter (λ q. not (some_is (same_value (own q)) (told q))) ps) (filter (λ q. not (some_is (same_value (own q)) (told q))) ps) ≡ [] → told p ∷ map told ps ≡ Some (own p) ∷ map (λ q. Some (own q)) ps
        by true f l = ap₂ (λ x xs. x ∷ xs) (e ∙ ap Some (sym ((value_decides (own p) v).0 f))) (more (sym (ap (λ c. cond (not c) (p ∷ filter (λ q. not (some_is (same_value (own q)) (told q))) ps) (filter (λ q. not (some_is (same_value (own q)) (told q))) ps)) f) ∙ l))
        by false f l = let bad = sym (ap (λ c. cond (not c) (p ∷ filter (λ q. not (some_is (same_value (own q)) (told q))) ps) (filter (λ q. not (some_is (same_value (own q)) (told q))) ps)) f) ∙ l in absurd (cc bad)

-- one synchronizer

some_of : (o : Option (List Variant)) (ws : List (Option Variant)) → option_map (map Some) o ≡ Some ws → (vs : List Variant) × (o ≡ Some vs) × (map Some vs ≡ ws)
some_of None ws h = absurd (cc h)
some_of (Some vs) ws h = (vs, refl, cc)

module _ (who : Who) (es : List Heard) (b : ℤ) (y : Syncer) (t : ToldValues) (tells : Tells who es t b y) where
  abbrev own : List ℕ → Variant
  own = own_value who es y.node

  abbrev told : List ℕ → Option Variant
  told = value_told (told_to who es b) y.node

  abbrev props : List (List ℕ)
  props = change_props y.def

  -- whether a value isn't the one that was told
  abbrev differs_now : List ℕ → Bool
  differs_now p = not (some_is (same_value (own p)) (told p))

  abbrev pub mask_now : ℕ
  mask_now = mask_of (untold own (told_of b y.id t) 0 props)

  mask_is : mask_now ≡ mask_of (map differs_now props)
  mask_is =
      let known = some_of (told_of b y.id t) (told_values who es b y) tells in
      ap (λ o. mask_of (untold own o 0 props)) known.1 ∙ ap mask_of (untold_are own told known.0 known.0 0 props (λ j. let e : 0 + j ≡ j = omega arith in ap (slice_get known.0) e) known.2)

  -- what is told, by whether the mask is empty
  abbrev told_when : Bool → Option DeltaEntry × ToldValues
  told_when c = if c then (None, t) else (Some (record { id = y.id; mask = mask_now; values = map own (masked mask_now props) }), with_told b y.id (map own props) t)

  -- what is told, and what counts as told then, by the mask
  by_names : (names : List (List ℕ)) → filter differs_now props ≡ names
      → (tells_in (told_by b y.id own props mask_now t).0 ≡ tell_for who es y (mask_of (map differs_now props)) names) × (told_of b y.id (told_by b y.id own props mask_now t).1 ≡ Some (map own props))
  by_names [] e =
      let none : mask_now ≡ 0 = mask_is ∙ nothing_masked differs_now props e in
      let known = some_of (told_of b y.id t) (told_values who es b y) tells in
      let result = ap (λ m. told_by b y.id own props m t) none in (
        ap (λ (r : Option DeltaEntry × ToldValues). tells_in r.0) result,
        ap (λ (r : Option DeltaEntry × ToldValues). told_of b y.id r.1) result ∙ known.1 ∙ ap Some (some_kept known.0 (map own props) (known.2 ∙ none_differ own told props e ∙ somes_of props)),
      )
    where
      somes_of : (ps : List (List ℕ)) → map (λ p. Some (own_value who es y.node p)) ps ≡ map Some (map (own_value who es y.node) ps)
      somes_of [] = refl
      somes_of (p ∷ ps) = ap (λ xs. Some (own_value who es y.node p) ∷ xs) (somes_of ps)
  by_names (p ∷ ps) e =
      let some = ap (λ m. nat_eq m 0) mask_is ∙ something_masked differs_now props p ps e in (
        ap (λ c. tells_in (told_when c).0) some
            ∙ ap₂ (λ m names. Tell (record { id = y.id; mask = m; values = map own names }) ∷ []) mask_is (ap (λ m. masked m props) mask_is ∙ masked_is differs_now props ∙ e),
        ap (λ c. told_of b y.id (told_when c).1) some
            ∙ told_same b y.id (map own props) t,
      )

  -- a Tell of what differs
  pub tells_one : tells_in (told_by b y.id own props mask_now t).0 ≡ tell_by who es y (told_values who es b y)
  tells_one = (by_names (filter differs_now props) refl).0 ∙ tell_is_by who es (told_to who es b) y

  -- and the present values count as told
  pub counts_one : told_of b y.id (told_by b y.id own props mask_now t).1 ≡ Some (map own props)
  counts_one = (by_names (filter differs_now props) refl).1
