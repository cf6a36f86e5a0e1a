-- Lists by rising numbers: where a number stands, and what keeps them so.
use Rattle.std.proofs.Common.{◌≡◌, ℕ, zero, suc, ◌<◌, Bool, true, false, cond, not, List, [], ◌∷◌, ◌++◌, refl, sym, ap, ap₂, ◌∙◌, length, get_or, map, filter, nat_eq, nat_lt, Some, None, arith}
use Rattle.std.specs.Prelude.{position, slice_get}
use Rattle.std.specs.List.{list_all, prefix_len}
use Rattle.std.specs.List.Sorted.{IsPartitionedBy}
use Rattle.std.proofs.lemmas.Bool.Decides.{nat_tests}
use Rattle.headless_tree.proofs.Apart.{StandsApart, found_apart, fails_apart, none_apart, not_placed}
use Rattle.headless_tree.proofs.Numbered.{both, and_true}
use Rattle.visibility.specs.Rising.{do_rise}

later : (k m n : ℕ) → nat_lt k m ≡ true → nat_lt m n ≡ true → nat_lt k n ≡ true
later k m n h i = grind (arith, nat_tests)

other : (k n : ℕ) → nat_lt k n ≡ true → nat_eq k n ≡ false
other k n h = grind (arith, nat_tests)

behind : (k m n : ℕ) → nat_lt k n ≡ false → nat_lt k m ≡ true → not (nat_eq m n) ≡ true
behind k m n h i = grind (arith, nat_tests)

each_passes : {X : Type 0} (key : X → ℕ) (p : ℕ → Bool) (xs : List X) (i : ℕ) (d : X) → i < length xs → list_all p (map key xs) ≡ true → p (key (get_or xs i d)) ≡ true
each_passes key p [] i d low h = absurd (omega (arith, low))
each_passes key p (x ∷ xs) zero d low h = (both (p (key x)) (list_all p (map key xs)) h).0
each_passes key p (x ∷ xs) (suc i) d low h = each_passes key p xs i d (omega (arith, low)) (both (p (key x)) (list_all p (map key xs)) h).1

-- those below a number stand first
pub rises_parted : {X : Type 0} (key : X → ℕ) (num : ℕ) (xs : List X) → do_rise (map key xs) ≡ true → IsPartitionedBy (λ x. nat_lt (key x) num) xs
rises_parted key num [] rise i j d before low h = absurd (omega (arith, low))
rises_parted key num (x ∷ xs) rise zero zero d before low h = h
rises_parted key num (x ∷ xs) rise zero (suc j) d before low h = later (key x) (key (get_or xs j d)) num (each_passes key (nat_lt (key x)) xs j d (omega (arith, low)) (both (list_all (nat_lt (key x)) (map key xs)) (do_rise (map key xs)) rise).0) h
rises_parted key num (x ∷ xs) rise (suc i) zero d before low h = absurd (omega (arith, before))
rises_parted key num (x ∷ xs) rise (suc i) (suc j) d before low h = rises_parted key num xs (both (list_all (nat_lt (key x)) (map key xs)) (do_rise (map key xs)) rise).1 i j d (omega (arith, before)) (omega (arith, low)) h

none_behind : {X : Type 0} (key : X → ℕ) (num k : ℕ) (xs : List X) → nat_lt k num ≡ false → list_all (nat_lt k) (map key xs) ≡ true → list_all (λ y. not (nat_eq (key y) num)) xs ≡ true
none_behind key num k [] e h = refl
none_behind key num k (x ∷ xs) e h =
    let parts = both (nat_lt k (key x)) (list_all (nat_lt k) (map key xs)) h in
    and_true (not (nat_eq (key x) num)) (list_all (λ y. not (nat_eq (key y) num)) xs) (behind k (key x) num e parts.0) (none_behind key num k xs e parts.1)

-- the one with a number stands behind those below it, alone
pub rises_apart : {X : Type 0} (key : X → ℕ) (num : ℕ) (xs : List X) → do_rise (map key xs) ≡ true → StandsApart (λ x. nat_lt (key x) num) (λ x. nat_eq (key x) num) xs
rises_apart key num [] rise = tt
rises_apart key num (x ∷ xs) rise =
    let parts = both (list_all (nat_lt (key x)) (map key xs)) (do_rise (map key xs)) rise in (other (key x) num, λ e. none_behind key num (key x) xs e parts.0, rises_apart key num xs parts.1)

pub within : {X : Type 0} (xs : List X) (i : ℕ) (x : X) → Some x ≡ slice_get xs i → i < length xs
within [] i x at = absurd (cc at)
within (y ∷ ys) zero x at = omega arith
within (y ∷ ys) (suc i) x at = let low = within ys i x at in omega (arith, low)

-- what a search for a number answers

pub number_there : {X : Type 0} (key : X → ℕ) (num : ℕ) (xs : List X) (i : ℕ) (x : X) → do_rise (map key xs) ≡ true → i ≡ prefix_len (λ y. nat_lt (key y) num) xs → Some x ≡ slice_get xs i → nat_eq (key x) num ≡ true → Some i ≡ position (λ y. nat_eq (key y) num) xs
number_there key num xs i x rise count at passes = sym (found_apart (λ y. nat_lt (key y) num) (λ y. nat_eq (key y) num) xs i x (rises_apart key num xs rise) count (within xs i x at) (sym at) passes)

pub number_missing : {X : Type 0} (key : X → ℕ) (num : ℕ) (xs : List X) (i : ℕ) (x : X) → do_rise (map key xs) ≡ true → i ≡ prefix_len (λ y. nat_lt (key y) num) xs → Some x ≡ slice_get xs i → nat_eq (key x) num ≡ false → None ≡ position (λ y. nat_eq (key y) num) xs
number_missing key num xs i x rise count at fails = sym (not_placed (λ y. nat_eq (key y) num) xs (fails_apart (λ y. nat_lt (key y) num) (λ y. nat_eq (key y) num) xs x (rises_apart key num xs rise) (ap (slice_get xs) (sym count) ∙ sym at) fails))

pub number_past : {X : Type 0} (key : X → ℕ) (num : ℕ) (xs : List X) (i : ℕ) → do_rise (map key xs) ≡ true → i ≡ prefix_len (λ y. nat_lt (key y) num) xs → None ≡ slice_get xs i → None ≡ position (λ y. nat_eq (key y) num) xs
number_past key num xs i rise count at = sym (not_placed (λ y. nat_eq (key y) num) xs (none_apart (λ y. nat_lt (key y) num) (λ y. nat_eq (key y) num) xs (rises_apart key num xs rise) (ap (slice_get xs) (sym count) ∙ sym at)))

-- what keeps numbers rising

all_snoc : (p : ℕ → Bool) (ns : List ℕ) (n : ℕ) → list_all p ns ≡ true → p n ≡ true → list_all p (ns ++ n ∷ []) ≡ true
all_snoc p [] n h k = and_true (p n) true k refl
all_snoc p (m ∷ ns) n h k = let parts = both (p m) (list_all p ns) h in and_true (p m) (list_all p (ns ++ n ∷ [])) parts.0 (all_snoc p ns n parts.1 k)

-- one more, above all others
pub rise_snoc : (ns : List ℕ) (n : ℕ) → do_rise ns ≡ true → list_all (λ m. nat_lt m n) ns ≡ true → do_rise (ns ++ n ∷ []) ≡ true
rise_snoc [] n rise below = refl
rise_snoc (m ∷ ns) n rise below =
    let rises = both (list_all (nat_lt m) ns) (do_rise ns) rise in
    let under = both (nat_lt m n) (list_all (λ k. nat_lt k n) ns) below in
    and_true (list_all (nat_lt m) (ns ++ n ∷ [])) (do_rise (ns ++ n ∷ [])) (all_snoc (nat_lt m) ns n rises.0 under.0) (rise_snoc ns n rises.1 under.1)

all_left : {X : Type 0} (key : X → ℕ) (test : X → Bool) (p : ℕ → Bool) (xs : List X) → list_all p (map key xs) ≡ true → list_all p (map key (filter test xs)) ≡ true
all_left key test p [] h = refl
all_left {X} key test p (x ∷ xs) h = by (test x) (all_left key test p xs parts.1)
  where
    parts : (p (key x) ≡ true) × (list_all p (map key xs) ≡ true)
    parts = both (p (key x)) (list_all p (map key xs)) h

    by : (b : Bool) → list_all p (map key (filter test xs)) ≡ true → list_all p (map key (cond b (x ∷ filter test xs) (filter test xs))) ≡ true
    by true more = and_true (p (key x)) (list_all p (map key (filter test xs))) parts.0 more
    by false more = more

-- some taken away
pub rise_filter : {X : Type 0} (key : X → ℕ) (test : X → Bool) (xs : List X) → do_rise (map key xs) ≡ true → do_rise (map key (filter test xs)) ≡ true
rise_filter key test [] rise = refl
rise_filter {X} key test (x ∷ xs) rise = by (test x) (rise_filter key test xs parts.1)
  where
    parts : (list_all (nat_lt (key x)) (map key xs) ≡ true) × (do_rise (map key xs) ≡ true)
    parts = both (list_all (nat_lt (key x)) (map key xs)) (do_rise (map key xs)) rise

    by : (b : Bool) → do_rise (map key (filter test xs)) ≡ true → do_rise (map key (cond b (x ∷ filter test xs) (filter test xs))) ≡ true
    by true more = and_true (list_all (nat_lt (key x)) (map key (filter test xs))) (do_rise (map key (filter test xs))) (all_left key test (nat_lt (key x)) xs parts.0) more
    by false more = more

-- each changed without its number
pub same_numbers : {X : Type 0} (key : X → ℕ) (f : X → X) (xs : List X) → ((x : X) → key (f x) ≡ key x) → map key (map f xs) ≡ map key xs
same_numbers key f [] h = refl
same_numbers key f (x ∷ xs) h = ap₂ (λ n ns. n ∷ ns) (h x) (same_numbers key f xs h)
