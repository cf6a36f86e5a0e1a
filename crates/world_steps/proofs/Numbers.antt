-- Numbers of clients, and lists of them.
use Rattle.std.proofs.Common.{◌≡◌, ℕ, zero, suc, ◌+◌, ◌≤◌, ℤ, pos, Bool, true, false, cond, not, ◌&&◌, ◌||◌, List, [], ◌∷◌, ◌++◌, length, filter, reverse, refl, sym, ap, ◌∙◌, arith, nat_eq, Option, Some, None, length-append}
use Rattle.std.specs.Prelude.{int_lt, nat_lt}
use Rattle.std.specs.List.{list_all}
use Rattle.std.specs.Ordering.{int_eq}
use Rattle.std.proofs.lemmas.Bool.Decides.{nat_tests}
use Rattle.std.proofs.lemmas.Bool.{and_from, and_parts, or_from, or_parts}
use Rattle.std.proofs.lemmas.Grind.{reverse_onto}
use Rattle.gd_variant.specs.Words.{has_int, put_by}
use Rattle.peer_model.specs.Heard.{server}
use Rattle.peer_laws.proofs.Each.{all-filter, all_joined}
use Rattle.peer_laws.proofs.Tests.{never}
use Rattle.peer_laws.proofs.Numbers.{int_comm, int_is}
use Rattle.headless_tree.proofs.Numbered.{unnot}

-- the number of the client that connects after so many others
abbrev pub number_of : ℕ → ℤ
number_of i = pos (2 + i)

-- how many clients connected before the one with a number
abbrev pub before_of : ℤ → Option ℕ
before_of (pos (suc (suc i))) = Some i
before_of p = None

-- the numbers of the first so many, newest first
abbrev pub numbers_to : ℕ → List ℤ
numbers_to zero = []
numbers_to (suc n) = number_of n ∷ numbers_to n

pub before_number : (i : ℕ) → before_of (number_of i) ≡ Some i
before_number i = let e : 2 + i ≡ suc (suc i) = omega arith in ap (λ n. before_of (pos n)) e

pub not_server : (i : ℕ) → int_eq (number_of i) server ≡ false
not_server i = never (int_eq (number_of i) server) (λ e. absurd (cc (sym (before_number i) ∙ ap before_of (int_is (number_of i) server e))))

pub server_not : (i : ℕ) → int_eq server (number_of i) ≡ false
server_not i = int_comm server (number_of i) ∙ not_server i

pub numbers_apart : (i j : ℕ) → nat_eq i j ≡ false → int_eq (number_of i) (number_of j) ≡ false
numbers_apart i j h = grind (arith, nat_tests)

pub length-numbers : (n : ℕ) → length (numbers_to n) ≡ n
length-numbers zero = refl
length-numbers (suc n) = ap suc (length-numbers n)

-- a number is one of the first so many where fewer came before
pub has_number_to : (i n : ℕ) → has_int (number_of i) (numbers_to n) ≡ nat_lt i n
has_number_to i zero = grind (arith, nat_tests)
has_number_to i (suc n) = ap (λ b. int_eq (number_of i) (number_of n) || b) (has_number_to i n) ∙ grind (arith, nat_tests)

-- the server isn't among clients
pub server_outside : (n : ℕ) → has_int server (numbers_to n) ≡ false
server_outside zero = refl
server_outside (suc n) = or_from (int_eq server (number_of n)) (has_int server (numbers_to n)) (server_not n) (server_outside n)

-- all of the first so many are below the next one
numbers_below : (n m : ℕ) → n ≤ m → list_all (λ x. int_lt x (number_of m)) (numbers_to n) ≡ true
numbers_below zero m h = refl
numbers_below (suc n) m h =
    let low : nat_lt (2 + n) (2 + m) ≡ true = grind (arith, nat_tests, h) in
    and_from (int_lt (number_of n) (number_of m)) (list_all (λ x. int_lt x (number_of m)) (numbers_to n)) low (numbers_below n m (omega (arith, h)))

-- lists the other way round

pub reversed : (x : ℤ) (xs : List ℤ) → reverse (x ∷ xs) ≡ reverse xs ++ x ∷ []
reversed x xs = reverse_onto xs x []

pub length-reversed : (xs : List ℤ) → length (reverse xs) ≡ length xs
length-reversed [] = refl
length-reversed (x ∷ xs) =
    let joined = length-append (reverse xs) (x ∷ []) in
    let before = length-reversed xs in
    ap (λ ys. length ys) (reversed x xs) ∙ omega (arith, joined, before)

has_joined : (p : ℤ) (xs ys : List ℤ) → has_int p (xs ++ ys) ≡ (has_int p xs || has_int p ys)
has_joined p [] ys = refl
has_joined p (x ∷ xs) ys = ap (λ t. int_eq p x || t) (has_joined p xs ys) ∙ step (int_eq p x)
  where
    step : (t : Bool) → (t || (has_int p xs || has_int p ys)) ≡ ((t || has_int p xs) || has_int p ys)
    step true = refl
    step false = refl

pub has_reversed : (p : ℤ) (xs : List ℤ) → has_int p (reverse xs) ≡ has_int p xs
has_reversed p [] = refl
has_reversed p (x ∷ xs) = ap (has_int p) (reversed x xs) ∙ has_joined p (reverse xs) (x ∷ []) ∙ ap (λ t. t || (int_eq p x || false)) (has_reversed p xs) ∙ step (has_int p xs) (int_eq p x)
  where
    step : (t u : Bool) → (t || (u || false)) ≡ (u || t)
    step true true = refl
    step true false = refl
    step false true = refl
    step false false = refl

all_reversed : (q : ℤ → Bool) (xs : List ℤ) → list_all q xs ≡ true → list_all q (reverse xs) ≡ true
all_reversed q [] h = refl
all_reversed q (x ∷ xs) h =
    let parts = and_parts (q x) (list_all q xs) h in
    ap (list_all q) (reversed x xs) ∙ all_joined q (reverse xs) (x ∷ []) (all_reversed q xs parts.1) (and_from (q x) true parts.0 refl)

-- those that aren't among others

pub has_left : (p : ℤ) (gs xs : List ℤ) → has_int p (filter (λ q. not (has_int q gs)) xs) ≡ (has_int p xs && not (has_int p gs))
has_left p gs [] = refl
has_left p gs (x ∷ xs) = step (int_eq p x) refl (has_int x gs) refl (has_left p gs xs)
  where
    rest : List ℤ
    rest = filter (λ q. not (has_int q gs)) xs

    step : (t : Bool) → int_eq p x ≡ t → (u : Bool) → has_int x gs ≡ u → has_int p rest ≡ (has_int p xs && not (has_int p gs)) → has_int p (cond (not u) (x ∷ rest) rest) ≡ ((t || has_int p xs) && not (has_int p gs))
    step true e true f more =
        let gone : has_int p gs ≡ true = ap (λ q. has_int q gs) (int_is p x e) ∙ f in
        more ∙ ap (λ t. has_int p xs && not t) gone ∙ off (has_int p xs) ∙ sym (ap not gone)
      where
        off : (t : Bool) → (t && false) ≡ false
        off true = refl
        off false = refl
    step true e false f more =
        let stays : has_int p gs ≡ false = ap (λ q. has_int q gs) (int_is p x e) ∙ f in
        ap (λ t. t || has_int p rest) e ∙ sym (ap not stays)
    step false e true f more = more
    step false e false f more = ap (λ t. t || has_int p rest) e ∙ more

pub outside_more : (p : ℤ) (xs : List ℤ) (y : ℤ) → has_int p xs ≡ false → int_eq p y ≡ false → has_int p (xs ++ y ∷ []) ≡ false
outside_more p xs y h other = has_joined p xs (y ∷ []) ∙ or_from (has_int p xs) (int_eq p y || false) h (or_from (int_eq p y) false other refl)

-- numbers that differ

-- whether no number stands twice
abbrev pub is_once : List ℤ → Bool
is_once [] = true
is_once (x ∷ xs) = not (has_int x xs) && is_once xs

pub has_kept : (q : ℤ → Bool) (x : ℤ) (xs : List ℤ) → has_int x xs ≡ false → has_int x (filter q xs) ≡ false
has_kept q x [] h = refl
has_kept q x (y ∷ xs) h = step (q y) (has_kept q x xs parts.1)
  where
    parts : (int_eq x y ≡ false) × (has_int x xs ≡ false)
    parts = or_parts (int_eq x y) (has_int x xs) h

    step : (t : Bool) → has_int x (filter q xs) ≡ false → has_int x (cond t (y ∷ filter q xs) (filter q xs)) ≡ false
    step true more = or_from (int_eq x y) (has_int x (filter q xs)) parts.0 more
    step false more = more

pub once_kept : (q : ℤ → Bool) (xs : List ℤ) → is_once xs ≡ true → is_once (filter q xs) ≡ true
once_kept q [] h = refl
once_kept q (x ∷ xs) h = step (q x) (once_kept q xs parts.1)
  where
    parts : (not (has_int x xs) ≡ true) × (is_once xs ≡ true)
    parts = and_parts (not (has_int x xs)) (is_once xs) h

    step : (t : Bool) → is_once (filter q xs) ≡ true → is_once (cond t (x ∷ filter q xs) (filter q xs)) ≡ true
    step true more = and_from (not (has_int x (filter q xs))) (is_once (filter q xs)) (ap not (has_kept q x xs (unnot (has_int x xs) parts.0))) more
    step false more = more

pub once_more : (xs : List ℤ) (y : ℤ) → is_once xs ≡ true → has_int y xs ≡ false → is_once (xs ++ y ∷ []) ≡ true
once_more [] y h new = refl
once_more (x ∷ xs) y h new =
    let parts = and_parts (not (has_int x xs)) (is_once xs) h in
    let other = or_parts (int_eq y x) (has_int y xs) new in
    and_from (not (has_int x (xs ++ y ∷ []))) (is_once (xs ++ y ∷ []))
    (ap not (has_joined x xs (y ∷ []) ∙ or_from (has_int x xs) (int_eq x y || false) (unnot (has_int x xs) parts.0) (or_from (int_eq x y) false (int_comm x y ∙ other.0) refl)))
    (once_more xs y parts.1 other.1)

pub once_reversed : (xs : List ℤ) → is_once xs ≡ true → is_once (reverse xs) ≡ true
once_reversed [] h = refl
once_reversed (x ∷ xs) h =
    let parts = and_parts (not (has_int x xs)) (is_once xs) h in
    ap is_once (reversed x xs) ∙ once_more (reverse xs) x (once_reversed xs parts.1) (has_reversed x xs ∙ unnot (has_int x xs) parts.0)

pub numbers_once : (n : ℕ) → is_once (numbers_to n) ≡ true
numbers_once zero = refl
numbers_once (suc n) =
    let new : nat_lt n n ≡ false = grind (arith, nat_tests) in
    and_from (not (has_int (number_of n) (numbers_to n))) (is_once (numbers_to n)) (ap not (has_number_to n n ∙ new)) (numbers_once n)

-- the next number goes behind the others

put_last : (x : ℤ) (ys : List ℤ) → list_all (λ y. int_lt y x) ys ≡ true → put_by int_lt x ys ≡ ys ++ x ∷ []
put_last x [] h = refl
put_last x (y ∷ ys) h =
    let parts = and_parts (int_lt y x) (list_all (λ z. int_lt z x) ys) h in
    ap (λ t. cond t (y ∷ put_by int_lt x ys) (x ∷ y ∷ ys)) parts.0 ∙ ap (λ zs. y ∷ zs) (put_last x ys parts.1)

pub next_put : (q : ℤ → Bool) (n : ℕ) → put_by int_lt (number_of n) (reverse (filter q (numbers_to n))) ≡ reverse (filter q (numbers_to n)) ++ number_of n ∷ []
next_put q n = put_last (number_of n) (reverse (filter q (numbers_to n)))
    (all_reversed (λ x. int_lt x (number_of n)) (filter q (numbers_to n)) (all-filter (λ x. int_lt x (number_of n)) q (numbers_to n) (numbers_below n n (omega arith))))

-- what is left of a list the other way round
pub left_reversed : (q : ℤ → Bool) (xs : List ℤ) → filter q (reverse xs) ≡ reverse (filter q xs)
left_reversed q [] = refl
left_reversed q (x ∷ xs) = ap (filter q) (reversed x xs) ∙ joined (reverse xs) ∙ ap (λ ys. ys ++ cond (q x) (x ∷ []) []) (left_reversed q xs) ∙ step (q x)
  where
    joined : (ys : List ℤ) → filter q (ys ++ x ∷ []) ≡ filter q ys ++ cond (q x) (x ∷ []) []
    joined [] = refl
    joined (y ∷ ys) = ap (λ zs. cond (q y) (y ∷ zs) zs) (joined ys) ∙ more (q y)
      where
        more : (t : Bool) → cond t (y ∷ (filter q ys ++ cond (q x) (x ∷ []) [])) (filter q ys ++ cond (q x) (x ∷ []) []) ≡ cond t (y ∷ filter q ys) (filter q ys) ++ cond (q x) (x ∷ []) []
        more true = refl
        more false = refl

    step : (t : Bool) → reverse (filter q xs) ++ cond t (x ∷ []) [] ≡ reverse (cond t (x ∷ filter q xs) (filter q xs))
    step true = sym (reversed x (filter q xs))
    step false = nothing (reverse (filter q xs))
      where
        nothing : (ys : List ℤ) → ys ++ [] ≡ ys
        nothing [] = refl
        nothing (y ∷ ys) = ap (λ zs. y ∷ zs) (nothing ys)
