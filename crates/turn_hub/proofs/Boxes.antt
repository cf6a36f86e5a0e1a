-- What a change of one outbox does to what waits on each link.
use Rattle.std.proofs.Common.{◌≡◌, ℤ, ℕ, zero, suc, Bool, true, false, cond, if◌then◌else◌, ◌||◌, ◌<◌, ◌+◌, List, [], ◌∷◌, ◌++◌, length, take, get_or, append_assoc, arith, filter, refl, sym, ap, subst, ◌∙◌, Option, Some, None, remove, set}
use Rattle.std.proofs.lemmas.Bool.{true≢false}
use Rattle.std.proofs.lemmas.List.{append-nil, length-append, take_more}
use Rattle.std.proofs.lemmas.List.Folds.{list_any-append}
use Rattle.std.specs.List.{slice_get}
use Rattle.std.specs.Option.{MatchOption}
use Rattle.std.proofs.lemmas.Option.{get_or_from_slice_get}
use Rattle.std.specs.Ordering.{int_eq}
use Rattle.std.proofs.lemmas.Bool.Decides.{Decides-int_eq}
use Rattle.turn_hub.specs.declared.outboxes.Outbox.{Outbox}
use Rattle.turn_hub.specs.Words.{Words}
use Rattle.turn_hub.specs.History.{is_for}
use Rattle.turn_hub.specs.Boxes.{Apart, has_box, waiting}

pub int_yes : (x y : ℤ) → x ≡ y → int_eq x y ≡ true
int_yes x y e = (Decides-int_eq x y).1 e

pub int_only : (x y : ℤ) → int_eq x y ≡ true → x ≡ y
int_only x y e = (Decides-int_eq x y).0 e

or_none : (a b : Bool) → (a || b) ≡ false → (a ≡ false) × (b ≡ false)
or_none false b h = (refl, h)
or_none true b h = let x : true ≡ false = h in absurd (true≢false x)

or_both : (a b : Bool) → a ≡ false → b ≡ false → (a || b) ≡ false
or_both a b h k = ap (λ (c : Bool). c || b) h ∙ k

or_right : (a b : Bool) → b ≡ true → (a || b) ≡ true
or_right true b h = refl
or_right false b h = h

or_left : (a b : Bool) → a ≡ true → (a || b) ≡ true
or_left a b h = ap (λ (c : Bool). c || b) h

not_true : (a : Bool) → (a ≡ true → ⊥) → a ≡ false
not_true true n = absurd (n refl)
not_true false n = refl

abbrev or_else : {A : Type 0} → A → Option A → A
or_else d None = d
or_else d (Some z) = z

some_is : {A : Type 0} (x y : A) → Some x ≡ Some y → x ≡ y
some_is x y e = ap (or_else x) e

abbrev is_some : {A : Type 0} → Option A → Bool
is_some None = false
is_some (Some x) = true

none_some : {A : Type 0} (x : A) → None ≡ Some x → ⊥
none_some x e = true≢false (sym (ap is_some e))

swap : {A : Type 0} (a b : Bool) (x y z : A) → (a ≡ true → b ≡ true → ⊥) → cond a x (cond b y z) ≡ cond b y (cond a x z)
swap true true x y z n = absurd (n refl refl)
swap true false x y z n = refl
swap false b x y z n = refl

twice : {A : Type 0} (a : Bool) (x y z : A) → cond a x z ≡ cond a x (cond a y z)
twice true x y z = refl
twice false x y z = refl

module _ {P : Type 0} where
  at_first : (b : Outbox P) (bs : List (Outbox P)) (q : ℤ) (c : Bool) → int_eq b.link q ≡ c → waiting (b ∷ bs) q ≡ cond c b.packets (waiting bs q)
  at_first b bs q c e = ap (λ (x : Bool). cond x b.packets (waiting bs q)) e

  -- nothing waits where there is no outbox
  pub nothing : (bs : List (Outbox P)) (q : ℤ) → has_box q bs ≡ false → waiting bs q ≡ []
  nothing [] q h = refl
  nothing (b ∷ bs) q h = let o = or_none (int_eq b.link q) (has_box q bs) h in at_first b bs q false o.0 ∙ nothing bs q o.1

  has_at : (bs : List (Outbox P)) (i : ℕ) (b : Outbox P) → slice_get bs i ≡ Some b → has_box b.link bs ≡ true
  has_at [] i b s = absurd (none_some b s)
  has_at (c ∷ bs) zero b s = or_left (int_eq c.link b.link) (has_box b.link bs) (int_yes c.link b.link (ap (λ (x : Outbox P). x.link) (some_is c b s)))
  has_at (c ∷ bs) (suc i) b s = or_right (int_eq c.link b.link) (has_box b.link bs) (has_at bs i b s)

  -- the first has another link than those behind it
  not_both : (c : Outbox P) (bs : List (Outbox P)) (i : ℕ) (b : Outbox P) (x : ℤ) → has_box c.link bs ≡ false → slice_get bs i ≡ Some b → int_eq c.link x ≡ true → int_eq b.link x ≡ true → ⊥
  not_both c bs i b x a s h k =
      let same : c.link ≡ b.link = int_only c.link x h ∙ sym (int_only b.link x k) in
      true≢false (sym (has_at bs i b s) ∙ ap (λ (y : ℤ). has_box y bs) (sym same) ∙ a)

  -- the outbox at a place has what waits on its link
  pub found : (bs : List (Outbox P)) (i : ℕ) (b : Outbox P) → Apart bs → slice_get bs i ≡ Some b → waiting bs b.link ≡ b.packets
  found [] i b a s = absurd (none_some b s)
  found (c ∷ bs) zero b a s =
      let same : c ≡ b = some_is c b s in
      at_first c bs b.link true (int_yes c.link b.link (ap (λ (x : Outbox P). x.link) same)) ∙ ap (λ (x : Outbox P). x.packets) same
  found (c ∷ bs) (suc i) b a s =
      at_first c bs b.link false (not_true (int_eq c.link b.link) (λ h. not_both c bs i b b.link a.0 s h (int_yes b.link b.link refl))) ∙ found bs i b a.1 s

  -- ---- an outbox is changed

  has_set : (bs : List (Outbox P)) (i : ℕ) (b b' : Outbox P) (x : ℤ) → slice_get bs i ≡ Some b → b'.link ≡ b.link → has_box x (set bs i b') ≡ has_box x bs
  has_set [] i b b' x s e = refl
  has_set (c ∷ bs) zero b b' x s e = ap (λ (y : ℤ). int_eq y x || has_box x bs) (e ∙ sym (ap (λ (y : Outbox P). y.link) (some_is c b s)))
  has_set (c ∷ bs) (suc i) b b' x s e = ap (λ (y : Bool). int_eq c.link x || y) (has_set bs i b b' x s e)

  pub apart_set : (bs : List (Outbox P)) (i : ℕ) (b b' : Outbox P) → Apart bs → slice_get bs i ≡ Some b → b'.link ≡ b.link → Apart (set bs i b')
  apart_set [] i b b' a s e = tt
  apart_set (c ∷ bs) zero b b' a s e = (ap (λ (y : ℤ). has_box y bs) (e ∙ sym (ap (λ (y : Outbox P). y.link) (some_is c b s))) ∙ a.0, a.1)
  apart_set (c ∷ bs) (suc i) b b' a s e = (has_set bs i b b' c.link s e ∙ a.0, apart_set bs i b b' a.1 s e)

  pub waiting_set : (bs : List (Outbox P)) (i : ℕ) (b b' : Outbox P) (x : ℤ) → Apart bs → slice_get bs i ≡ Some b → b'.link ≡ b.link → waiting (set bs i b') x ≡ cond (int_eq b.link x) b'.packets (waiting bs x)
  waiting_set [] i b b' x a s e = absurd (none_some b s)
  waiting_set (c ∷ bs) zero b b' x a s e =
      let same : c.link ≡ b.link = ap (λ (y : Outbox P). y.link) (some_is c b s) in
      ap (λ (y : ℤ). cond (int_eq y x) b'.packets (waiting bs x)) e ∙ twice (int_eq b.link x) b'.packets c.packets (waiting bs x) ∙ ap (λ (y : ℤ). cond (int_eq b.link x) b'.packets (cond (int_eq y x) c.packets (waiting bs x))) (sym same)
  waiting_set (c ∷ bs) (suc i) b b' x a s e =
      ap (λ (l : List P). cond (int_eq c.link x) c.packets l) (waiting_set bs i b b' x a.1 s e)
      ∙ swap (int_eq c.link x) (int_eq b.link x) c.packets b'.packets (waiting bs x) (not_both c bs i b x a.0 s)

  -- ---- an outbox is taken away

  has_remove : (bs : List (Outbox P)) (i : ℕ) (x : ℤ) → has_box x bs ≡ false → has_box x (remove bs i) ≡ false
  has_remove [] zero x h = refl
  has_remove [] (suc i) x h = refl
  has_remove (c ∷ bs) zero x h = (or_none (int_eq c.link x) (has_box x bs) h).1
  has_remove (c ∷ bs) (suc i) x h = let o = or_none (int_eq c.link x) (has_box x bs) h in or_both (int_eq c.link x) (has_box x (remove bs i)) o.0 (has_remove bs i x o.1)

  pub apart_remove : (bs : List (Outbox P)) (i : ℕ) → Apart bs → Apart (remove bs i)
  apart_remove [] zero a = tt
  apart_remove [] (suc i) a = tt
  apart_remove (c ∷ bs) zero a = a.1
  apart_remove (c ∷ bs) (suc i) a = (has_remove bs i c.link a.0, apart_remove bs i a.1)

  gone_first : (c : Outbox P) (bs : List (Outbox P)) (x : ℤ) (y : Bool) → int_eq c.link x ≡ y → has_box c.link bs ≡ false → waiting bs x ≡ cond y [] (cond y c.packets (waiting bs x))
  gone_first c bs x true e h = nothing bs x (ap (λ (z : ℤ). has_box z bs) (sym (int_only c.link x e)) ∙ h)
  gone_first c bs x false e h = refl

  pub waiting_remove : (bs : List (Outbox P)) (i : ℕ) (b : Outbox P) (x : ℤ) → Apart bs → slice_get bs i ≡ Some b → waiting (remove bs i) x ≡ cond (int_eq b.link x) [] (waiting bs x)
  waiting_remove [] i b x a s = absurd (none_some b s)
  waiting_remove (c ∷ bs) zero b x a s =
      gone_first c bs x (int_eq c.link x) refl a.0 ∙ ap (λ (y : Outbox P). cond (int_eq y.link x) [] (waiting (c ∷ bs) x)) (some_is c b s)
  waiting_remove (c ∷ bs) (suc i) b x a s =
      ap (λ (l : List P). cond (int_eq c.link x) c.packets l) (waiting_remove bs i b x a.1 s)
      ∙ swap (int_eq c.link x) (int_eq b.link x) c.packets [] (waiting bs x) (not_both c bs i b x a.0 s)

  -- ---- an outbox is added

  apart_by : (bs : List (Outbox P)) (b : Outbox P) → Apart bs → has_box b.link bs ≡ false → Apart (bs ++ b ∷ [])
  apart_by [] b a h = (refl, tt)
  apart_by (c ∷ bs) b a h =
      let o = or_none (int_eq c.link b.link) (has_box b.link bs) h in
      let other : int_eq b.link c.link ≡ false = not_true (int_eq b.link c.link) (λ e. true≢false (sym (int_yes c.link b.link (sym (int_only b.link c.link e))) ∙ o.0)) in
      (list_any-append (λ (y : Outbox P). int_eq y.link c.link) bs (b ∷ []) ∙ or_both (has_box c.link bs) (int_eq b.link c.link || false) a.0 (or_both (int_eq b.link c.link) false other refl), apart_by bs b a.1 o.1)

  pub apart_new : (bs : List (Outbox P)) (b : Outbox P) → Apart bs → has_box b.link bs ≡ false → Apart (bs ++ b ∷ [])
  apart_new = apart_by

  pub waiting_new : (bs : List (Outbox P)) (b : Outbox P) (x : ℤ) → has_box b.link bs ≡ false → waiting (bs ++ b ∷ []) x ≡ cond (int_eq b.link x) b.packets (waiting bs x)
  waiting_new [] b x h = refl
  waiting_new (c ∷ bs) b x h =
      let o = or_none (int_eq c.link b.link) (has_box b.link bs) h in
      ap (λ (l : List P). cond (int_eq c.link x) c.packets l) (waiting_new bs b x o.1)
      ∙ swap (int_eq c.link x) (int_eq b.link x) c.packets b.packets (waiting bs x) (λ e k. true≢false (sym (int_yes c.link b.link (int_only c.link x e ∙ sym (int_only b.link x k))) ∙ o.0))

-- ---- one more packet

module _ {P : Type 0} where
  -- a packet, where this is its link
  abbrev pub on_link : ℤ → P → ℤ → List P
  on_link l p q = if int_eq l q then p ∷ [] else []

  one_more : (l q : ℤ) (p : P) (ps front : List P) (c : Bool) → int_eq l q ≡ c → (c ≡ true → ps ≡ front) → cond c (front ++ p ∷ []) ps ≡ ps ++ on_link l p q
  one_more l q p ps front true e h = ap (λ (x : List P). x ++ p ∷ []) (sym (h refl)) ∙ ap (λ (b : Bool). ps ++ cond b (p ∷ []) []) (sym e)
  one_more l q p ps front false e h = sym (append-nil ps) ∙ ap (λ (b : Bool). ps ++ cond b (p ∷ []) []) (sym e)

  pub record Put (done : Bool) (bs new : List (Outbox P)) (l : ℤ) (p : P) : Type 0 where
    pub apart : Apart new
    pub put : done ≡ true → (q : ℤ) → waiting new q ≡ waiting bs q ++ on_link l p q

  put_there : (bs new : List (Outbox P)) (i : ℕ) (b : Outbox P) (p : P) (l : ℤ) → Apart bs → slice_get bs i ≡ Some b → b.link ≡ l
      → new ≡ set bs i (record { link = b.link; packets = b.packets ++ p ∷ [] }) → Apart new × ((q : ℤ) → waiting new q ≡ waiting bs q ++ on_link l p q)
  put_there bs new i b p l a s e n =
      let b' : Outbox P = record { link = b.link; packets = b.packets ++ p ∷ [] } in (
        subst Apart (sym n) (apart_set bs i b b' a s refl),
        λ q.
            ap (λ (x : List (Outbox P)). waiting x q) n ∙ waiting_set bs i b b' q a s refl
            ∙ ap (λ (y : ℤ). cond (int_eq y q) (b.packets ++ p ∷ []) (waiting bs q)) e
            ∙ one_more l q p (waiting bs q) b.packets (int_eq l q) refl (λ h. ap (waiting bs) (sym (int_only l q h) ∙ sym e) ∙ found bs i b a s),
      )

  put_else : (bs new : List (Outbox P)) (p : P) (l : ℤ) → Apart bs → has_box l bs ≡ false
      → new ≡ bs ++ record { link = l; packets = p ∷ [] } ∷ [] → Apart new × ((q : ℤ) → waiting new q ≡ waiting bs q ++ on_link l p q)
  put_else bs new p l a h n =
      let b : Outbox P = record { link = l; packets = p ∷ [] } in (
        subst Apart (sym n) (apart_new bs b a h),
        λ q.
            ap (λ (x : List (Outbox P)). waiting x q) n ∙ waiting_new bs b q h
            ∙ one_more l q p (waiting bs q) [] (int_eq l q) refl (λ e. nothing bs q (ap (λ (y : ℤ). has_box y bs) (sym (int_only l q e)) ∙ h)),
      )

  pub put_at_place : (done : Bool) (bs new : List (Outbox P)) (i : ℕ) (b : Outbox P) (p : P) (l : ℤ) → Apart bs → slice_get bs i ≡ Some b → b.link ≡ l
      → (done ≡ true → (x : Outbox P) → slice_get bs i ≡ Some x → new ≡ set bs i (record { link = x.link; packets = x.packets ++ p ∷ [] })) → (done ≡ false → new ≡ bs)
      → Put done bs new l p
  put_at_place true bs new i b p l a s e put same = let t = put_there bs new i b p l a s e (put refl b s) in record { apart = t.0; put = λ _. t.1 }
  put_at_place false bs new i b p l a s e put same = record { apart = subst Apart (sym (same refl)) a; put = λ h. absurd (true≢false (sym h)) }

  pub put_at_end : (done : Bool) (bs new : List (Outbox P)) (p : P) (l : ℤ) → Apart bs → has_box l bs ≡ false
      → (done ≡ true → new ≡ bs ++ record { link = l; packets = p ∷ [] } ∷ []) → (done ≡ false → new ≡ bs)
      → Put done bs new l p
  put_at_end true bs new p l a h put same = let t = put_else bs new p l a h (put refl) in record { apart = t.0; put = λ _. t.1 }
  put_at_end false bs new p l a h put same = record { apart = subst Apart (sym (same refl)) a; put = λ e. absurd (true≢false (sym e)) }

module _ {K E O P : Type 0} (w : Words K E O P) where
  filter_snoc : (q : ℤ) (xs : List P) (p : P) → filter (is_for w q) (xs ++ p ∷ []) ≡ filter (is_for w q) xs ++ filter (is_for w q) (p ∷ [])
  filter_snoc q [] p = refl
  filter_snoc q (x ∷ xs) p = elim (is_for w q x) as (λ b. cond b (x ∷ filter (is_for w q) (xs ++ p ∷ [])) (filter (is_for w q) (xs ++ p ∷ [])) ≡ cond b (x ∷ filter (is_for w q) xs) (filter (is_for w q) xs) ++ filter (is_for w q) (p ∷ []))
      [ true ↦ ap (λ (l : List P). x ∷ l) (filter_snoc q xs p) | false ↦ filter_snoc q xs p ]

  -- what was put so far, and one packet more
  pub put_more : (old bs new : List (Outbox P)) (ps : List P) (n : ℕ) (p : P) → n < length ps → p ≡ get_or ps n p
      → ((q : ℤ) → waiting bs q ≡ waiting old q ++ filter (is_for w q) (take n ps)) → ((q : ℤ) → waiting new q ≡ waiting bs q ++ filter (is_for w q) (p ∷ []))
      → (q : ℤ) → waiting new q ≡ waiting old q ++ filter (is_for w q) (take (n + 1) ps)
  put_more old bs new ps n p le e so more q =
      more q ∙ ap (λ (l : List P). l ++ filter (is_for w q) (p ∷ [])) (so q) ∙ append_assoc (waiting old q) (filter (is_for w q) (take n ps)) (filter (is_for w q) (p ∷ []))
      ∙ ap (λ (l : List P). waiting old q ++ l) (sym (filter_snoc q (take n ps) p) ∙ ap (filter (is_for w q)) (ap (λ (x : P). take n ps ++ x ∷ []) e ∙ sym (take_more ps n p le)))

  back_by : (bs new : List (Outbox P)) (l q : ℤ) (p : P) (xs front : List P) (c : Bool) → int_eq l q ≡ c → l ≡ w.link p
      → ((x : ℤ) → int_eq l x ≡ false → waiting new x ≡ waiting bs x) → ((ps : List P) (x : P) → waiting bs l ≡ ps ++ x ∷ [] → waiting new l ≡ ps)
      → waiting bs q ≡ front ++ (xs ++ cond c (p ∷ []) []) → waiting new q ≡ front ++ xs
  back_by bs new l q p xs front true e f others last h =
      let same = int_only l q e in
      ap (waiting new) (sym same) ∙ last (front ++ xs) p (ap (waiting bs) same ∙ h ∙ sym (append_assoc front xs (p ∷ [])))
  back_by bs new l q p xs front false e f others last h = others q e ∙ h ∙ ap (λ (y : List P). front ++ y) (append-nil xs)

  -- the newest packet is taken back
  pub back_one : (bs new : List (Outbox P)) (ps : List P) (n : ℕ) (p : P) (l : ℤ) (f : ℤ → List P) → n < length ps → p ≡ get_or ps n p → l ≡ w.link p
      → ((x : ℤ) → int_eq l x ≡ false → waiting new x ≡ waiting bs x) → ((xs : List P) (x : P) → waiting bs l ≡ xs ++ x ∷ [] → waiting new l ≡ xs)
      → ((q : ℤ) → waiting bs q ≡ f q ++ filter (is_for w q) (take (n + 1) ps)) → (q : ℤ) → waiting new q ≡ f q ++ filter (is_for w q) (take n ps)
  back_one bs new ps n p l f le e at others last so q =
      back_by bs new l q p (filter (is_for w q) (take n ps)) (f q) (int_eq l q) refl at others last
      (so q ∙ ap (λ (y : List P). f q ++ y) (ap (filter (is_for w q)) (take_more ps n p le ∙ ap (λ (x : P). take n ps ++ x ∷ []) (sym e)) ∙ filter_snoc q (take n ps) p) ∙ ap (λ (y : ℤ). f q ++ (filter (is_for w q) (take n ps) ++ cond (int_eq y q) (p ∷ []) [])) (sym at))

-- ---- the newest packet of a link

module _ {P : Type 0} where
  abbrev front_of : List P → List P
  front_of [] = []
  front_of (x ∷ []) = []
  front_of (x ∷ y ∷ ys) = x ∷ front_of (y ∷ ys)

  front_snoc : (xs : List P) (p : P) → front_of (xs ++ p ∷ []) ≡ xs
  front_snoc [] p = refl
  front_snoc (x ∷ []) p = refl
  front_snoc (x ∷ y ∷ ys) p = ap (λ (l : List P). x ∷ l) (front_snoc (y ∷ ys) p)

  no_snoc : (xs : List P) (p : P) → [] ≡ xs ++ p ∷ [] → ⊥
  no_snoc xs p e = let l = ap length e ∙ length-append xs (p ∷ []) in absurd (omega (arith, l))

  rest_is : (popped : Option P) (ps rest xs : List P) (p : P) → MatchOption popped ((ps ≡ []) × (rest ≡ [])) (λ last. ps ≡ rest ++ last ∷ []) → ps ≡ xs ++ p ∷ [] → rest ≡ xs
  rest_is None ps rest xs p m e = absurd (no_snoc xs p (sym m.0 ∙ e))
  rest_is (Some last) ps rest xs p m e = sym (front_snoc rest last) ∙ ap front_of (sym m ∙ e) ∙ front_snoc xs p

  pub record LastGone (bs new : List (Outbox P)) (l : ℤ) : Type 0 where
    pub apart : Apart new
    pub others : (q : ℤ) → int_eq l q ≡ false → waiting new q ≡ waiting bs q
    pub last : (ps : List P) (p : P) → waiting bs l ≡ ps ++ p ∷ [] → waiting new l ≡ ps

  pub last_gone : (bs : List (Outbox P)) (i : ℕ) (b : Outbox P) (rest : List P) (popped : Option P) (l : ℤ) → Apart bs → slice_get bs i ≡ Some b → b.link ≡ l → MatchOption popped ((b.packets ≡ []) × (rest ≡ [])) (λ last. b.packets ≡ rest ++ last ∷ [])
      → LastGone bs (set bs i (record { link = b.link; packets = rest })) l
  last_gone bs i b rest popped l a s e m =
      let b' : Outbox P = record { link = b.link; packets = rest } in
      let there : waiting bs l ≡ b.packets = ap (waiting bs) (sym e) ∙ found bs i b a s in
      let now : waiting (set bs i b') l ≡ rest = waiting_set bs i b b' l a s refl ∙ ap (λ (c : Bool). cond c rest (waiting bs l)) (int_yes b.link l e) in
      record {
        apart = apart_set bs i b b' a s refl;
        others = λ q h. waiting_set bs i b b' q a s refl ∙ ap (λ (c : Bool). cond c rest (waiting bs q)) (ap (λ (y : ℤ). int_eq y q) e ∙ h);
        last = λ ps p h. now ∙ rest_is popped b.packets rest ps p m (sym there ∙ h);
      }

  -- all that waits on a link is taken
  pub record BoxGone (bs new : List (Outbox P)) (out : List P) (l : ℤ) : Type 0 where
    pub apart : Apart new
    pub out_is : out ≡ waiting bs l
    pub none : waiting new l ≡ []
    pub others : (q : ℤ) → int_eq l q ≡ false → waiting new q ≡ waiting bs q

  pub box_gone : (bs new : List (Outbox P)) (i : ℕ) (b : Outbox P) (l : ℤ) → Apart bs → slice_get bs i ≡ Some b → b.link ≡ l → new ≡ remove bs i → BoxGone bs new b.packets l
  box_gone bs new i b l a s e n =
      let now : (q : ℤ) → waiting new q ≡ cond (int_eq l q) [] (waiting bs q) = λ q. ap (λ (x : List (Outbox P)). waiting x q) n ∙ waiting_remove bs i b q a s ∙ ap (λ (y : ℤ). cond (int_eq y q) [] (waiting bs q)) e in
      record {
        apart = subst Apart (sym n) (apart_remove bs i a);
        out_is = sym (ap (waiting bs) (sym e) ∙ found bs i b a s);
        none = now l ∙ ap (λ (c : Bool). cond c [] (waiting bs l)) (int_yes l l refl);
        others = λ q h. now q ∙ ap (λ (c : Bool). cond c [] (waiting bs q)) h;
      }

  pub no_box : (bs : List (Outbox P)) (l : ℤ) → Apart bs → has_box l bs ≡ false → BoxGone bs bs [] l
  no_box bs l a h = record { apart = a; out_is = sym (nothing bs l h); none = nothing bs l h; others = λ q e. refl }

  pub nothing_there : (bs : List (Outbox P)) (l : ℤ) (ps : List P) (p : P) → has_box l bs ≡ false → waiting bs l ≡ ps ++ p ∷ [] → waiting bs l ≡ ps
  nothing_there bs l ps p h e = absurd (no_snoc ps p (sym (nothing bs l h) ∙ e))

  -- the outbox that was read
  pub read_box : (bs : List (Outbox P)) (i : ℕ) (b r : Outbox P) → slice_get bs i ≡ Some b → r ≡ get_or bs i r → slice_get bs i ≡ Some r
  read_box bs i b r s e = s ∙ ap (λ (x : Outbox P). Some x) (sym (e ∙ get_or_from_slice_get bs i b r s))

  pub read_link : (bs : List (Outbox P)) (i : ℕ) (b r : Outbox P) (l : ℤ) → slice_get bs i ≡ Some b → r ≡ get_or bs i r → b.link ≡ l → r.link ≡ l
  read_link bs i b r l s e h = ap (λ (x : Outbox P). x.link) (e ∙ get_or_from_slice_get bs i b r s) ∙ h

  took_by : (bs new : List (Outbox P)) (l x : ℤ) (c : Bool) → int_eq l x ≡ c → waiting new l ≡ [] → ((q : ℤ) → int_eq l q ≡ false → waiting new q ≡ waiting bs q) → waiting new x ≡ cond c [] (waiting bs x)
  took_by bs new l x true e none others = ap (waiting new) (sym (int_only l x e)) ∙ none
  took_by bs new l x false e none others = others x e

  -- what waits once all of one link was taken
  pub took_all : (bs new : List (Outbox P)) (l : ℤ) → waiting new l ≡ [] → ((q : ℤ) → int_eq l q ≡ false → waiting new q ≡ waiting bs q) → (x : ℤ) → waiting new x ≡ (if int_eq l x then [] else waiting bs x)
  took_all bs new l none others x = took_by bs new l x (int_eq l x) refl none others
