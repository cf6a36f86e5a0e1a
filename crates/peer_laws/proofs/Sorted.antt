-- What is put in order into a list, and signed numbers that rise.
use Rattle.std.proofs.Common.{◌≡◌, ℤ, Bool, true, false, cond, not, ◌&&◌, ◌||◌, List, [], ◌∷◌, ◌++◌, refl, sym, ap, ◌∙◌, filter}
use Rattle.std.specs.Prelude.{int_lt}
use Rattle.std.specs.List.{list_any, list_all}
use Rattle.std.specs.Ordering.{int_eq}
use Rattle.std.proofs.lemmas.Bool.{and_parts, and_from, or_parts}
use Rattle.gd_variant.specs.Words.{has_int, put_by, sort_by}
use Rattle.scene_model.proofs.ListLaws.{any-put_by}
use Rattle.headless_tree.proofs.Numbered.{unnot}
use Rattle.peer_laws.proofs.Numbers.{int_comm, int_above, int_less, not_less, less_not}
use Rattle.peer_laws.proofs.Each.{all-filter, all-put_by, all_fail}
use Rattle.headless_tree.proofs.Order.{all_weaker}

-- what is put in order

pub any-sort_by : {X : Type 0} (p : X → Bool) (before : X → X → Bool) (xs : List X) → list_any p (sort_by before xs) ≡ list_any p xs
any-sort_by p before [] = refl
any-sort_by p before (x ∷ xs) = any-put_by p before x (sort_by before xs) ∙ ap (λ b. p x || b) (any-sort_by p before xs)

-- what no element is before comes first
pub put_first : {X : Type 0} (before : X → X → Bool) (x : X) (ys : List X) → list_any (λ y. before y x) ys ≡ false → put_by before x ys ≡ x ∷ ys
put_first before x [] h = refl
put_first before x (y ∷ ys) h = ap (λ b. cond b (y ∷ put_by before x ys) (x ∷ y ∷ ys)) (or_parts (before y x) (list_any (λ z. before z x) ys) h).0

pub put_past : {X : Type 0} (before : X → X → Bool) (x : X) (xs rest : List X) → list_all (λ y. before y x) xs ≡ true → put_by before x (xs ++ rest) ≡ xs ++ put_by before x rest
put_past before x [] rest h = refl
put_past before x (y ∷ ys) rest h =
    ap (λ b. cond b (y ∷ put_by before x (ys ++ rest)) (x ∷ y ∷ (ys ++ rest))) (and_parts (before y x) (list_all (λ z. before z x) ys) h).0
    ∙ ap (λ zs. y ∷ zs) (put_past before x ys rest (and_parts (before y x) (list_all (λ z. before z x) ys) h).1)

pub put_within : {X : Type 0} (before : X → X → Bool) (x : X) (xs rest : List X) → list_any (λ y. before y x) rest ≡ false → put_by before x (xs ++ rest) ≡ put_by before x xs ++ rest
put_within before x [] rest h = put_first before x rest h
put_within before x (y ∷ ys) rest h = elim (before y x) as (λ b. cond b (y ∷ put_by before x (ys ++ rest)) (x ∷ y ∷ (ys ++ rest)) ≡ cond b (y ∷ put_by before x ys) (x ∷ y ∷ ys) ++ rest) [
  | true ↦ ap (λ zs. y ∷ zs) (put_within before x ys rest h)
  | false ↦ refl
]

-- two orders that agree on what is there put an element at one place
pub put_agree : {X : Type 0} (a b : X → X → Bool) (p : X → Bool) (x : X) → ((y : X) → p y ≡ true → a y x ≡ b y x) → (ys : List X) → list_all p ys ≡ true → put_by a x ys ≡ put_by b x ys
put_agree a b p x k [] h = refl
put_agree a b p x k (y ∷ ys) h =
    ap (λ c. cond c (y ∷ put_by a x ys) (x ∷ y ∷ ys)) (k y (and_parts (p y) (list_all p ys) h).0)
    ∙ ap (λ zs. cond (b y x) (y ∷ zs) (x ∷ y ∷ ys)) (put_agree a b p x k ys (and_parts (p y) (list_all p ys) h).1)

-- signed numbers

-- whether no number is below one before it
abbrev pub is_sorted : List ℤ → Bool
is_sorted [] = true
is_sorted (x ∷ xs) = list_all (λ y. not (int_lt y x)) xs && is_sorted xs

-- whether each number is above those before it
abbrev pub is_rising : List ℤ → Bool
is_rising [] = true
is_rising (x ∷ xs) = list_all (int_lt x) xs && is_rising xs

pub rising_sorted : (xs : List ℤ) → is_rising xs ≡ true → is_sorted xs ≡ true
rising_sorted [] h = refl
rising_sorted (x ∷ xs) h = and_from (list_all (λ y. not (int_lt y x)) xs) (is_sorted xs)
    (all_weaker (int_lt x) (λ y. not (int_lt y x)) (λ y e. ap not (less_not x y e)) xs (and_parts (list_all (int_lt x) xs) (is_rising xs) h).0)
    (rising_sorted xs (and_parts (list_all (int_lt x) xs) (is_rising xs) h).1)

put_step : (x y : ℤ) (ys : List ℤ) → list_all (λ z. not (int_lt z y)) ys ≡ true → is_sorted ys ≡ true → is_sorted (put_by int_lt x ys) ≡ true
    → (b : Bool) → int_lt y x ≡ b → is_sorted (cond b (y ∷ put_by int_lt x ys) (x ∷ y ∷ ys)) ≡ true
put_step x y ys low sorted more true e = and_from (list_all (λ z. not (int_lt z y)) (put_by int_lt x ys)) (is_sorted (put_by int_lt x ys))
    (all-put_by (λ z. not (int_lt z y)) int_lt x ys (ap not (less_not y x e)) low) more
put_step x y ys low sorted more false e = and_from (not (int_lt y x) && list_all (λ z. not (int_lt z x)) ys) (list_all (λ z. not (int_lt z y)) ys && is_sorted ys)
    (and_from (not (int_lt y x)) (list_all (λ z. not (int_lt z x)) ys) (ap not e)
    (all_weaker (λ z. not (int_lt z y)) (λ z. not (int_lt z x)) (λ z k. ap not (not_less x y z e (unnot (int_lt z y) k))) ys low))
    (and_from (list_all (λ z. not (int_lt z y)) ys) (is_sorted ys) low sorted)

pub put_sorted : (x : ℤ) (ys : List ℤ) → is_sorted ys ≡ true → is_sorted (put_by int_lt x ys) ≡ true
put_sorted x [] h = refl
put_sorted x (y ∷ ys) h =
    let parts = and_parts (list_all (λ z. not (int_lt z y)) ys) (is_sorted ys) h in
    put_step x y ys parts.0 parts.1 (put_sorted x ys parts.1) (int_lt y x) refl

pub sort_sorted : (xs : List ℤ) → is_sorted (sort_by int_lt xs) ≡ true
sort_sorted [] = refl
sort_sorted (x ∷ xs) = put_sorted x (sort_by int_lt xs) (sort_sorted xs)

filter_step : (p : ℤ → Bool) (x y : ℤ) (ys : List ℤ) → list_all (λ z. not (int_lt z y)) ys ≡ true → filter p (put_by int_lt x ys) ≡ cond (p x) (put_by int_lt x (filter p ys)) (filter p ys)
    → (b : Bool) → int_lt y x ≡ b → filter p (cond b (y ∷ put_by int_lt x ys) (x ∷ y ∷ ys)) ≡ cond (p x) (put_by int_lt x (filter p (y ∷ ys))) (filter p (y ∷ ys))
filter_step p x y ys low more true e = ap (λ zs. cond (p y) (y ∷ zs) zs) more ∙ step (p x) (p y)
  where
    fs : List ℤ
    fs = filter p ys

    step : (c d : Bool) → cond d (y ∷ cond c (put_by int_lt x fs) fs) (cond c (put_by int_lt x fs) fs) ≡ cond c (put_by int_lt x (cond d (y ∷ fs) fs)) (cond d (y ∷ fs) fs)
    step true true = sym (ap (λ b. cond b (y ∷ put_by int_lt x fs) (x ∷ y ∷ fs)) e)
    step true false = refl
    step false true = refl
    step false false = refl
filter_step p x y ys low more false e = ap (λ zs. cond (p x) zs (filter p (y ∷ ys))) (sym (put_first int_lt x (filter p (y ∷ ys)) (all_fail (λ z. int_lt z x) (filter p (y ∷ ys)) (all-filter (λ z. not (int_lt z x)) p (y ∷ ys)
    (and_from (not (int_lt y x)) (list_all (λ z. not (int_lt z x)) ys) (ap not e) (all_weaker (λ z. not (int_lt z y)) (λ z. not (int_lt z x)) (λ z k. ap not (not_less x y z e (unnot (int_lt z y) k))) ys low))))))

-- a filter of what was put into a sorted list
pub filter-put : (p : ℤ → Bool) (x : ℤ) (ys : List ℤ) → is_sorted ys ≡ true → filter p (put_by int_lt x ys) ≡ cond (p x) (put_by int_lt x (filter p ys)) (filter p ys)
filter-put p x [] h = refl
filter-put p x (y ∷ ys) h =
    let parts = and_parts (list_all (λ z. not (int_lt z y)) ys) (is_sorted ys) h in
    filter_step p x y ys parts.0 (filter-put p x ys parts.1) (int_lt y x) refl

-- a filter of what was sorted
pub filter-sort : (p : ℤ → Bool) (xs : List ℤ) → filter p (sort_by int_lt xs) ≡ sort_by int_lt (filter p xs)
filter-sort p [] = refl
filter-sort p (x ∷ xs) = filter-put p x (sort_by int_lt xs) (sort_sorted xs) ∙ ap (λ zs. cond (p x) (put_by int_lt x zs) zs) (filter-sort p xs) ∙ step (p x)
  where
    step : (b : Bool) → cond b (put_by int_lt x (sort_by int_lt (filter p xs))) (sort_by int_lt (filter p xs)) ≡ sort_by int_lt (cond b (x ∷ filter p xs) (filter p xs))
    step true = refl
    step false = refl

-- a filter leaves what rises
pub filter_rising : (p : ℤ → Bool) (xs : List ℤ) → is_rising xs ≡ true → is_rising (filter p xs) ≡ true
filter_rising p [] h = refl
filter_rising p (x ∷ xs) h = elim (p x) as (λ b. is_rising (cond b (x ∷ filter p xs) (filter p xs)) ≡ true) [
  | true ↦ and_from (list_all (int_lt x) (filter p xs)) (is_rising (filter p xs)) (all-filter (int_lt x) p xs (and_parts (list_all (int_lt x) xs) (is_rising xs) h).0) (filter_rising p xs (and_parts (list_all (int_lt x) xs) (is_rising xs) h).1)
  | false ↦ filter_rising p xs (and_parts (list_all (int_lt x) xs) (is_rising xs) h).1
]

rising_step : (x y : ℤ) (ys : List ℤ) → int_eq x y ≡ false → list_all (int_lt y) ys ≡ true → is_rising ys ≡ true → is_rising (put_by int_lt x ys) ≡ true
    → (b : Bool) → int_lt y x ≡ b → is_rising (cond b (y ∷ put_by int_lt x ys) (x ∷ y ∷ ys)) ≡ true
rising_step x y ys other low rising more true e = and_from (list_all (int_lt y) (put_by int_lt x ys)) (is_rising (put_by int_lt x ys)) (all-put_by (int_lt y) int_lt x ys e low) more
rising_step x y ys other low rising more false e =
    let less : int_lt x y ≡ true = int_above y x e (int_comm y x ∙ other) in
    and_from (int_lt x y && list_all (int_lt x) ys) (list_all (int_lt y) ys && is_rising ys)
    (and_from (int_lt x y) (list_all (int_lt x) ys) less (all_weaker (int_lt y) (int_lt x) (λ z k. int_less x y z less k) ys low))
    (and_from (list_all (int_lt y) ys) (is_rising ys) low rising)

-- a new number put into what rises
pub put_rising : (x : ℤ) (ys : List ℤ) → has_int x ys ≡ false → is_rising ys ≡ true → is_rising (put_by int_lt x ys) ≡ true
put_rising x [] n h = refl
put_rising x (y ∷ ys) n h =
    let parts = and_parts (list_all (int_lt y) ys) (is_rising ys) h in
    let others = or_parts (int_eq x y) (has_int x ys) n in
    rising_step x y ys others.0 parts.0 parts.1 (put_rising x ys others.1 parts.1) (int_lt y x) refl
