-- Entries at places that rise, and of which each is one of two callers', are shuffled in the journal.
use Rattle.std.proofs.Common.{◌≡◌, ℕ, zero, suc, ◌+◌, ◌<◌, ◌≤◌, Bool, true, false, List, [], ◌∷◌, length, refl, sym, ap, ap₂, subst, ◌∙◌, map, arith, ◌⊎◌, inl, inr, Option, Some, None, if◌then◌else◌, nat_eq, eq-eqb, ne_eqb, eqb-true}
use Rattle.std.proofs.lemmas.Bool.{eqb-false}
use Rattle.std.specs.List.{slice_get}
use Rattle.turn_hub.specs.Kept.{times}
use Rattle.turn_hub.specs.Rises.{Rises}
use Rattle.hub_callers.specs.Shuffle.{Shuffle}

rises_below : (a : ℕ) (ps : List ℕ) (b : ℕ) → Rises a ps b → a ≤ b
rises_below a [] b h = h
rises_below a (p ∷ ps) b h = let k = rises_below (p + 1) ps b h.1 in omega (arith, h.0, k)

not_first : (p q : ℕ) (ps : List ℕ) → (q ≡ p → ⊥) → times p (q ∷ ps) ≡ times p ps
not_first p q ps n = let z = ap (λ (c : Bool). (if c then 1 else 0) + times p ps) (ne_eqb q p n) in omega (arith, z)

is_first : (p : ℕ) (ps : List ℕ) → times p (p ∷ ps) ≡ times p ps + 1
is_first p ps = let z = ap (λ (c : Bool). (if c then 1 else 0) + times p ps) (eq-eqb p p refl) in omega (arith, z)

-- no place stands before the first that may
none_before : (a : ℕ) (ps : List ℕ) (b p : ℕ) → Rises a ps b → p < a → times p ps ≡ 0
none_before a [] b p h l = refl
none_before a (q ∷ ps) b p h l = not_first p q ps (λ e. absurd (omega (arith, l, h.0, e))) ∙ none_before (q + 1) ps b p h.1 (omega (arith, l, h.0))

-- the first place is k, or they all lie behind k
abbrev First : ℕ → ℕ → List ℕ → Type 0
First k b ps = ((qs : List ℕ) × (ps ≡ k ∷ qs) × Rises (k + 1) qs b) ⊎ Rises (k + 1) ps b

first_by : (k b p : ℕ) (ps : List ℕ) (c : Bool) → nat_eq p k ≡ c → Rises k (p ∷ ps) b → First k b (p ∷ ps)
first_by k b p ps true e h = let same = eqb-true p k e in inl (ps, ap (λ (n : ℕ). n ∷ ps) same, subst (λ (n : ℕ). Rises (n + 1) ps b) same h.1)
first_by k b p ps false e h = let other = eqb-false p k e in inr (omega (arith, h.0, other), h.1)

first_of : (k b : ℕ) (ps : List ℕ) → k < b → Rises k ps b → First k b ps
first_of k b [] l h = inr (omega (arith, l))
first_of k b (p ∷ ps) l h = first_by k b p ps (nat_eq p k) refl h

-- each place from k on, below b, stands once in two lists
abbrev pub Once : ℕ → ℕ → List ℕ → List ℕ → Type 0
Once k b ps qs = (p : ℕ) → k ≤ p → p < b → times p ps + times p qs ≡ 1

once_first : (k b : ℕ) (ps qs : List ℕ) → Once k b (k ∷ ps) qs → Once (k + 1) b ps qs
once_first k b ps qs o p l m = let z = not_first p k ps (λ e. absurd (omega (arith, l, e))) in let s = o p (omega (arith, l)) m in omega (arith, z, s)

once_second : (k b : ℕ) (ps qs : List ℕ) → Once k b ps (k ∷ qs) → Once (k + 1) b ps qs
once_second k b ps qs o p l m = let z = not_first p k qs (λ e. absurd (omega (arith, l, e))) in let s = o p (omega (arith, l)) m in omega (arith, z, s)

-- k stands in just one of them
not_both : (k b : ℕ) (ps qs : List ℕ) → k < b → Once k b (k ∷ ps) (k ∷ qs) → ⊥
not_both k b ps qs l o = let s = o k (omega arith) l in let x = is_first k ps in let y = is_first k qs in absurd (omega (arith, s, x, y))

not_none : (k b : ℕ) (ps qs : List ℕ) → k < b → Rises (k + 1) ps b → Rises (k + 1) qs b → Once k b ps qs → ⊥
not_none k b ps qs l h i o =
    let s = o k (omega arith) l in
    let x = none_before (k + 1) ps b k h (omega arith) in
    let y = none_before (k + 1) qs b k i (omega arith) in absurd (omega (arith, s, x, y))

no_places : (k : ℕ) (ps : List ℕ) → Rises k ps k → ps ≡ []
no_places k [] h = refl
no_places k (p ∷ ps) h = let l = rises_below (p + 1) ps k h.1 in absurd (omega (arith, h.0, l))

module _ {A : Type 0} where
  abbrev or_else : A → Option A → A
  or_else d None = d
  or_else d (Some x) = x

  some_is : (x y : A) → Some x ≡ Some y → x ≡ y
  some_is x y e = ap (or_else x) e

  abbrev head_of : A → List (Option A) → A
  head_of d [] = d
  head_of d (o ∷ os) = or_else d o

  abbrev rest_of : List (Option A) → List (Option A)
  rest_of [] = []
  rest_of (o ∷ os) = os

  -- no list with an element is empty
  not_empty : (o : Option A) (os : List (Option A)) → o ∷ os ≡ [] → ⊥
  not_empty o os e = let n = ap (λ (l : List (Option A)). length l) e in absurd (omega (arith, n))

  -- what is read at no places
  nothing_read : (xs : List A) → [] ≡ map (λ x. Some x) xs → xs ≡ []
  nothing_read [] e = refl
  nothing_read (x ∷ xs) e = absurd (not_empty (Some x) (map (λ x. Some x) xs) (sym e))

  -- what is read at a place and others
  abbrev Reads : (ℕ → Option A) → List ℕ → List A → Type 0
  Reads g ps xs = map g ps ≡ map (λ x. Some x) xs

  reads_first : (g : ℕ → Option A) (k : ℕ) (ps : List ℕ) (d : A) (xs : List A) → g k ≡ Some d → Reads g (k ∷ ps) xs → (ys : List A) × (xs ≡ d ∷ ys) × Reads g ps ys
  reads_first g k ps d [] at r = absurd (not_empty (g k) (map g ps) r)
  reads_first g k ps d (x ∷ xs) at r = (xs, ap (λ (y : A). y ∷ xs) (ap (head_of x) (sym r) ∙ ap (or_else x) at), ap rest_of r)

  -- an entry more, by the first or by the second
  by_first : (d : A) (j xs ys : List A) → Shuffle j xs ys → Shuffle (d ∷ j) (d ∷ xs) ys
  by_first d j xs ys s = ((true, d) ∷ s.0, ap (λ (l : List A). d ∷ l) s.1, ap (λ (l : List A). d ∷ l) s.2, s.3)

  by_second : (d : A) (j xs ys : List A) → Shuffle j xs ys → Shuffle (d ∷ j) xs (d ∷ ys)
  by_second d j xs ys s = ((false, d) ∷ s.0, ap (λ (l : List A). d ∷ l) s.1, s.2, ap (λ (l : List A). d ∷ l) s.3)

  -- from place k on
  shuffled_from : (g : ℕ → Option A) (j : List A) (k : ℕ) (ps qs : List ℕ) (xs ys : List A)
      → ((i : ℕ) → slice_get j i ≡ g (k + i)) → Rises k ps (k + length j) → Rises k qs (k + length j) → Once k (k + length j) ps qs → Reads g ps xs → Reads g qs ys → Shuffle j xs ys
  shuffled_from g [] k ps qs xs ys at h i o r q =
      let none : k + 0 ≡ k = omega arith in
      let x = nothing_read xs (ap (map g) (sym (no_places k ps (subst (Rises k ps) none h))) ∙ r) in
      let y = nothing_read ys (ap (map g) (sym (no_places k qs (subst (Rises k qs) none i))) ∙ q) in
      subst (λ (l : List A). Shuffle [] l ys) (sym x) (subst (λ (l : List A). Shuffle [] [] l) (sym y) ([], refl, refl, refl))
  shuffled_from g (d ∷ j) k ps qs xs ys at h i o r q =
      let b : ℕ = k + length (d ∷ j) in
      let l : k < b = omega arith in
      let end : b ≡ k + 1 + length j = omega arith in
      let here : g k ≡ Some d = ap g (omega arith) ∙ sym (at 0) in
      let next : (n : ℕ) → slice_get j n ≡ g (k + 1 + n) = λ n. at (suc n) ∙ ap g (omega arith) in
      elim (first_of k b ps l h) [
        | inl f ↦
            elim (first_of k b qs l i) [
              | inl s ↦ absurd (not_both k b f.0 s.0 l (subst (λ (m : List ℕ). Once k b (k ∷ f.0) m) s.1 (subst (λ (m : List ℕ). Once k b m qs) f.1 o)))
              | inr s ↦
                  let t = reads_first g k f.0 d xs here (subst (λ (m : List ℕ). Reads g m xs) f.1 r) in
                  subst (λ (m : List A). Shuffle (d ∷ j) m ys) (sym t.1)
                  (by_first d j t.0 ys (shuffled_from g j (k + 1) f.0 qs t.0 ys next (subst (Rises (k + 1) f.0) end f.2) (subst (Rises (k + 1) qs) end s) (subst (λ (n : ℕ). Once (k + 1) n f.0 qs) end (once_first k b f.0 qs (subst (λ (m : List ℕ). Once k b m qs) f.1 o))) t.2 q))
            ]
        | inr f ↦
            elim (first_of k b qs l i) [
              | inl s ↦
                  let t = reads_first g k s.0 d ys here (subst (λ (m : List ℕ). Reads g m ys) s.1 q) in
                  subst (λ (m : List A). Shuffle (d ∷ j) xs m) (sym t.1)
                  (by_second d j xs t.0 (shuffled_from g j (k + 1) ps s.0 xs t.0 next (subst (Rises (k + 1) ps) end f) (subst (Rises (k + 1) s.0) end s.2) (subst (λ (n : ℕ). Once (k + 1) n ps s.0) end (once_second k b ps s.0 (subst (λ (m : List ℕ). Once k b ps m) s.1 o))) r t.2))
              | inr s ↦ absurd (not_none k b ps qs l f s o)
            ]
      ]

  -- a journal whose places are those of two callers, each once, is what they have there, shuffled
  pub shuffled_at : (j : List A) (ps qs : List ℕ) (xs ys : List A) → Rises 0 ps (length j) → Rises 0 qs (length j) → Once 0 (length j) ps qs → Reads (slice_get j) ps xs → Reads (slice_get j) qs ys → Shuffle j xs ys
  shuffled_at j ps qs xs ys h i o r q =
      let n : length j ≡ 0 + length j = omega arith in
      shuffled_from (slice_get j) j 0 ps qs xs ys (λ i. ap (slice_get j) (omega arith)) (subst (Rises 0 ps) n h) (subst (Rises 0 qs) n i) (subst (λ (m : ℕ). Once 0 m ps qs) n o) r q
