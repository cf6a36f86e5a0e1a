-- What each element of a list passes, or fails.
use Rattle.std.proofs.Common.{◌≡◌, ℕ, ℤ, Bool, true, false, cond, not, ◌&&◌, ◌||◌, List, [], ◌∷◌, ◌++◌, refl, sym, ap, ◌∙◌, subst, map, filter, nat_eq}
use Rattle.std.specs.Prelude.{flat_map}
use Rattle.std.specs.List.{list_any, list_all, All, Contains, AllByRecursion}
use Rattle.std.specs.Ordering.{int_eq}
use Rattle.std.proofs.lemmas.Bool.{and_parts, and_from, or_parts, or_from, eq-eqb}
use Rattle.std.proofs.lemmas.List.Folds.{list_all-append}
use Rattle.std.proofs.lemmas.List.Elements.{All-weaker, All-contains_itself}
use Rattle.gd_variant.specs.Words.{text_eq, has_text, has_nat, has_int, put_by, sort_by}
use Rattle.scene_model.proofs.TextLaws.{text_eq-true}
use Rattle.headless_tree.proofs.Numbered.{unnot}
use Rattle.peer_laws.proofs.Tests.{not_false, or_true}
use Rattle.peer_laws.proofs.Numbers.{int_is}

-- tests that each element passes

pub all_each : {X : Type 0} (p : X → Bool) → ((x : X) → p x ≡ true) → (xs : List X) → list_all p xs ≡ true
all_each p h [] = refl
all_each p h (x ∷ xs) = and_from (p x) (list_all p xs) (h x) (all_each p h xs)

pub all_both : {X : Type 0} (p q : X → Bool) (xs : List X) → list_all p xs ≡ true → list_all q xs ≡ true → list_all (λ x. p x && q x) xs ≡ true
all_both p q [] h k = refl
all_both p q (x ∷ xs) h k =
    let ps = and_parts (p x) (list_all p xs) h in
    let qs = and_parts (q x) (list_all q xs) k in
    and_from (p x && q x) (list_all (λ y. p y && q y) xs) (and_from (p x) (q x) ps.0 qs.0) (all_both p q xs ps.1 qs.1)

-- what every element passes, a filter leaves
pub all-filter : {X : Type 0} (p q : X → Bool) (xs : List X) → list_all p xs ≡ true → list_all p (filter q xs) ≡ true
all-filter p q [] h = refl
all-filter p q (x ∷ xs) h = elim (q x) as (λ b. list_all p (cond b (x ∷ filter q xs) (filter q xs)) ≡ true) [
  | true ↦ and_from (p x) (list_all p (filter q xs)) (and_parts (p x) (list_all p xs) h).0 (all-filter p q xs (and_parts (p x) (list_all p xs) h).1)
  | false ↦ all-filter p q xs (and_parts (p x) (list_all p xs) h).1
]

-- what is put into a list passes what its elements pass
pub all-put_by : {X : Type 0} (p : X → Bool) (before : X → X → Bool) (x : X) (ys : List X) → p x ≡ true → list_all p ys ≡ true → list_all p (put_by before x ys) ≡ true
all-put_by p before x [] k h = and_from (p x) true k refl
all-put_by p before x (y ∷ ys) k h = elim (before y x) as (λ b. list_all p (cond b (y ∷ put_by before x ys) (x ∷ y ∷ ys)) ≡ true) [
  | true ↦ and_from (p y) (list_all p (put_by before x ys)) (and_parts (p y) (list_all p ys) h).0 (all-put_by p before x ys k (and_parts (p y) (list_all p ys) h).1)
  | false ↦ and_from (p x) (p y && list_all p ys) k h
]

pub all-sort_by : {X : Type 0} (p : X → Bool) (before : X → X → Bool) (xs : List X) → list_all p xs ≡ true → list_all p (sort_by before xs) ≡ true
all-sort_by p before [] h = refl
all-sort_by p before (x ∷ xs) h = all-put_by p before x (sort_by before xs) (and_parts (p x) (list_all p xs) h).0 (all-sort_by p before xs (and_parts (p x) (list_all p xs) h).1)

-- a test that all elements of two lists pass, all elements of the joined list pass
pub all_joined : {X : Type 0} (p : X → Bool) (xs ys : List X) → list_all p xs ≡ true → list_all p ys ≡ true → list_all p (xs ++ ys) ≡ true
all_joined p xs ys h k = list_all-append p xs ys ∙ and_from (list_all p xs) (list_all p ys) h k

pub all_split : {X : Type 0} (p : X → Bool) (xs ys : List X) → list_all p (xs ++ ys) ≡ true → (list_all p xs ≡ true) × (list_all p ys ≡ true)
all_split p xs ys h = and_parts (list_all p xs) (list_all p ys) (sym (list_all-append p xs ys) ∙ h)

pub all_of_flat : {X Y : Type 0} (p : Y → Bool) (f : X → List Y) (xs : List X) → list_all p (flat_map f xs) ≡ true → list_all (λ x. list_all p (f x)) xs ≡ true
all_of_flat p f [] h = refl
all_of_flat p f (x ∷ xs) h =
    let parts = all_split p (f x) (flat_map f xs) h in
    and_from (list_all p (f x)) (list_all (λ y. list_all p (f y)) xs) parts.0 (all_of_flat p f xs parts.1)

pub all-flat_map : {X Y : Type 0} (p : X → Bool) (q : Y → Bool) (f : X → List Y) → ((x : X) → p x ≡ true → list_all q (f x) ≡ true) → (xs : List X) → list_all p xs ≡ true → list_all q (flat_map f xs) ≡ true
all-flat_map p q f k [] h = refl
all-flat_map p q f k (x ∷ xs) h = list_all-append q (f x) (flat_map f xs) ∙ and_from (list_all q (f x)) (list_all q (flat_map f xs)) (k x (and_parts (p x) (list_all p xs) h).0) (all-flat_map p q f k xs (and_parts (p x) (list_all p xs) h).1)

-- an element of a list passes what each passes
pub all_has : (p : ℤ → Bool) (a : ℤ) (cs : List ℤ) → list_all p cs ≡ true → has_int a cs ≡ true → p a ≡ true
all_has p a [] h k = absurd (cc k)
all_has p a (c ∷ cs) h k = step (int_eq a c) refl (λ l. all_has p a cs (and_parts (p c) (list_all p cs) h).1 l) k
  where
    step : (b : Bool) → int_eq a c ≡ b → (has_int a cs ≡ true → p a ≡ true) → (b || has_int a cs) ≡ true → p a ≡ true
    step true e more l = ap p (int_is a c e) ∙ (and_parts (p c) (list_all p cs) h).0
    step false e more l = more l

-- tests that each element fails

pub none_each : {X : Type 0} (p : X → Bool) → ((x : X) → p x ≡ false) → (xs : List X) → list_any p xs ≡ false
none_each p h [] = refl
none_each p h (x ∷ xs) = or_from (p x) (list_any p xs) (h x) (none_each p h xs)

pub none_weaker : {X : Type 0} (p q : X → Bool) → ((x : X) → p x ≡ true → q x ≡ false) → (xs : List X) → list_all p xs ≡ true → list_any q xs ≡ false
none_weaker p q h [] k = refl
none_weaker p q h (x ∷ xs) k = or_from (q x) (list_any q xs) (h x (and_parts (p x) (list_all p xs) k).0) (none_weaker p q h xs (and_parts (p x) (list_all p xs) k).1)

-- a test that fails at each number of a list finds none of them
pub any_none : (q : ℕ → Bool) (ns : List ℕ) → ((n : ℕ) → has_nat n ns ≡ true → q n ≡ false) → list_any q ns ≡ false
any_none q [] h = refl
any_none q (n ∷ ns) h = or_from (q n) (list_any q ns) (h n (ap (λ b. b || has_nat n ns) (eq-eqb n n refl))) (any_none q ns (λ m k. h m (ap (λ b. nat_eq m n || b) k ∙ or_true (nat_eq m n))))

-- a text that is in a list fails a test that none passes
pub text_fails : (p : List ℕ → Bool) (t : List ℕ) (ts : List (List ℕ)) → has_text t ts ≡ true → list_any p ts ≡ false → p t ≡ false
text_fails p t [] h k = absurd (cc h)
text_fails p t (u ∷ ts) h k = step (text_eq t u) refl (λ e. text_fails p t ts e (or_parts (p u) (list_any p ts) k).1) h
  where
    step : (b : Bool) → text_eq t u ≡ b → (has_text t ts ≡ true → p t ≡ false) → (b || has_text t ts) ≡ true → p t ≡ false
    step true e more has = ap p (text_eq-true t u e) ∙ (or_parts (p u) (list_any p ts) k).0
    step false e more has = more has

-- where each element fails a test, none passes
pub all_fail : {X : Type 0} (p : X → Bool) (xs : List X) → list_all (λ x. not (p x)) xs ≡ true → list_any p xs ≡ false
all_fail p xs h = none_weaker (λ x. not (p x)) p (λ x e. unnot (p x) e) xs h

-- where none fails a test, each element passes
pub none_fail : {X : Type 0} (p : X → Bool) (xs : List X) → list_any (λ x. not (p x)) xs ≡ false → list_all p xs ≡ true
none_fail p [] h = refl
none_fail p (x ∷ xs) h =
    let parts = or_parts (not (p x)) (list_any (λ y. not (p y)) xs) h in
    and_from (p x) (list_all p xs) (not_false (p x) parts.0) (none_fail p xs parts.1)

-- what is true of each element

-- what is true of each element that a list has
pub of_each : {X : Type 0} (P : X → Type 0) (xs : List X) → ((x : X) → Contains xs x → P x) → All P xs
of_each P xs h = All-weaker (Contains xs) P h xs (All-contains_itself xs)

pub every_joined : {X : Type 0} (P : X → Type 0) (xs ys : List X) → AllByRecursion P xs → AllByRecursion P ys → AllByRecursion P (xs ++ ys)
every_joined P [] ys h k = k
every_joined P (x ∷ xs) ys h k = (h.0, every_joined P xs ys h.1 k)

pub every_kept : {X : Type 0} (P : X → Type 0) (q : X → Bool) (xs : List X) → AllByRecursion P xs → AllByRecursion P (filter q xs)
every_kept P q [] h = tt
every_kept P q (x ∷ xs) h = step (q x) (every_kept P q xs h.1)
  where
    step : (b : Bool) → AllByRecursion P (filter q xs) → AllByRecursion P (cond b (x ∷ filter q xs) (filter q xs))
    step true more = (h.0, more)
    step false more = more

pub every_left : {X : Type 0} (P : X → Type 0) (xs ys : List X) → AllByRecursion P (xs ++ ys) → AllByRecursion P xs
every_left P [] ys h = tt
every_left P (x ∷ xs) ys h = (h.0, every_left P xs ys h.1)

pub every_right : {X : Type 0} (P : X → Type 0) (xs ys : List X) → AllByRecursion P (xs ++ ys) → AllByRecursion P ys
every_right P [] ys h = h
every_right P (x ∷ xs) ys h = every_right P xs ys h.1

pub every_unmapped : {X Y : Type 0} (P : Y → Type 0) (f : X → Y) (xs : List X) → AllByRecursion P (map f xs) → AllByRecursion (λ x. P (f x)) xs
every_unmapped P f [] h = tt
every_unmapped P f (x ∷ xs) h = (h.0, every_unmapped P f xs h.1)

-- what is true of all elements of joined lists is true of those of a list among them
pub every_of : {X C : Type 0} (P : X → Type 0) (f : C → List X) (own : C → Bool) (zs : List X) → ((c : C) → own c ≡ true → f c ≡ zs) → (cs : List C) → list_any own cs ≡ true → AllByRecursion P (flat_map f cs) → AllByRecursion P zs
every_of P f own zs k [] h all = absurd (cc h)
every_of P f own zs k (c ∷ cs) h all = step (own c) refl h (λ e. every_of P f own zs k cs e (every_right P (f c) (flat_map f cs) all))
  where
    step : (b : Bool) → own c ≡ b → (b || list_any own cs) ≡ true → (list_any own cs ≡ true → AllByRecursion P zs) → AllByRecursion P zs
    step true e some more = subst (AllByRecursion P) (k c e) (every_left P (f c) (flat_map f cs) all)
    step false e some more = more some
