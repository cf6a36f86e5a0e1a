-- Nodes stay in order.
use Rattle.std.proofs.Common.{◌≡◌, ℕ, zero, suc, Bool, true, false, cond, not, ◌&&◌, ◌||◌, List, [], ◌∷◌, ℤ, refl, sym, ap, ap₂, ◌∙◌, map, nat_eq, nat_lt, arith}
use Rattle.std.specs.Prelude.{remove, int_lt}
use Rattle.std.specs.List.{list_all, list_any, prefix_len}
use Rattle.std.specs.Ordering.{int_eq}
use Rattle.std.proofs.lemmas.Int.{ints}
use Rattle.gd_variant.specs.Words.{put_by, has_nat}
use Rattle.scene_model.specs.declared.scene.Node.{Node}
use Rattle.scene_model.specs.Nodes.{Live, fixed_live}
use Rattle.gd_variant.proofs.Lists.{put_is_insert}
use Rattle.headless_tree.specs.Nodes.{is_spawned, row_before}
use Rattle.headless_tree.specs.Numbers.{has_number, is_new, are_free}
use Rattle.headless_tree.specs.Order.{is_lower, may_precede, are_in_order}
use Rattle.headless_tree.proofs.Numbered.{both, and_true, neither, unnot, all_insert, all_remove, bare}

-- numbers by authority
pub lower_then : (a b c : ℤ) (k m n : ℕ) → (int_lt a b || (int_eq a b && nat_lt k m)) ≡ true → (int_lt b c || (int_eq b c && nat_lt m n)) ≡ true → (int_lt a c || (int_eq a c && nat_lt k n)) ≡ true
lower_then a b c k m n h i = grind (arith, ints)

one_is_lower : (a b : ℤ) (k m : ℕ) → (int_lt a b || (int_eq a b && nat_lt k m)) ≡ false → (int_eq a b && nat_eq k m) ≡ false → (int_lt b a || (int_eq b a && nat_lt m k)) ≡ true
one_is_lower a b k m h i = grind (arith, ints)

pub or_cases : (a b : Bool) → (not a || b) ≡ true → a ≡ true → b ≡ true
or_cases true b h e = h
or_cases false b h e = absurd (cc e)

not_first : (a b : Bool) → (not a || b) ≡ false → (a ≡ true) × (b ≡ false)
not_first true b h = (refl, h)
not_first false b h = absurd (cc h)

or_true : (a b : Bool) → b ≡ true → (a || b) ≡ true
or_true true b h = refl
or_true false b h = h

pub all_weaker : {X : Type 0} (p q : X → Bool) → ((x : X) → p x ≡ true → q x ≡ true) → (xs : List X) → list_all p xs ≡ true → list_all q xs ≡ true
all_weaker p q h [] k = refl
all_weaker p q h (x ∷ xs) k = and_true (q x) (list_all q xs) (h x (both (p x) (list_all p xs) k).0) (all_weaker p q h xs (both (p x) (list_all p xs) k).1)

-- before a spawned node, the two orders say the same
precedes : (y x : Live) → is_spawned x ≡ true → row_before y x ≡ true → may_precede y x ≡ true
precedes y x new h = by (is_spawned y) h
  where
    by : (b : Bool) → (not b || is_lower y x) ≡ true → (not b || (is_spawned x && is_lower y x)) ≡ true
    by true h = and_true (is_spawned x) (is_lower y x) new h
    by false h = refl

another_number : (s e n m : Bool) → ((s && e) && (n || m)) ≡ false → s ≡ true → (e && n) ≡ false
another_number true true true m h k = absurd (cc h)
another_number true true false m h k = refl
another_number true false n m h k = refl
another_number false e n m h k = absurd (cc k)

-- what doesn't stand before a new node stands behind it
follows : (y x : Live) → is_spawned x ≡ true → has_number x.auth x.num y ≡ false → row_before y x ≡ false → (is_spawned y ≡ true) × (is_lower x y ≡ true)
follows y x new other h =
    let parts = not_first (is_spawned y) (is_lower y x) h in
    (parts.0, one_is_lower y.auth x.auth y.num x.num parts.1 (swapped (another_number (is_spawned y) (int_eq y.auth x.auth) (nat_eq x.num y.num) (has_nat x.num y.ids) other parts.0)))
  where
    swapped : (int_eq y.auth x.auth && nat_eq x.num y.num) ≡ false → (int_eq y.auth x.auth && nat_eq y.num x.num) ≡ false
    swapped e = grind arith

behind : (x y z : Live) → is_spawned y ≡ true → is_lower x y ≡ true → may_precede y z ≡ true → may_precede x z ≡ true
behind x y z old low h =
    let parts = both (is_spawned z) (is_lower y z) (or_cases (is_spawned y) (is_spawned z && is_lower y z) h old) in
    or_true (not (is_spawned x)) (is_spawned z && is_lower x z) (and_true (is_spawned z) (is_lower x z) parts.0 (lower_then x.auth y.auth z.auth x.num y.num z.num low parts.1))

all-put_by : (p : Live → Bool) (x : Live) (ys : List Live) → p x ≡ true → list_all p ys ≡ true → list_all p (put_by row_before x ys) ≡ true
all-put_by p x ys h k = ap (list_all p) (sym (put_is_insert row_before x ys)) ∙ all_insert p ys (prefix_len (λ y. row_before y x) ys) x h k

put_among : (x : Live) → is_spawned x ≡ true → (ys : List Live) → list_any (has_number x.auth x.num) ys ≡ false → are_in_order ys ≡ true → are_in_order (put_by row_before x ys) ≡ true
put_among x new [] none h = refl
put_among x new (y ∷ ys) none h = step (row_before y x) refl (put_among x new ys fresh.1 parts.1)
  where
    fresh : (has_number x.auth x.num y ≡ false) × (list_any (has_number x.auth x.num) ys ≡ false)
    fresh = neither (has_number x.auth x.num y) (list_any (has_number x.auth x.num) ys) none

    parts : (list_all (may_precede y) ys ≡ true) × (are_in_order ys ≡ true)
    parts = both (list_all (may_precede y) ys) (are_in_order ys) h

    step : (b : Bool) → row_before y x ≡ b → are_in_order (put_by row_before x ys) ≡ true → are_in_order (cond b (y ∷ put_by row_before x ys) (x ∷ y ∷ ys)) ≡ true
    step true e more =
        and_true (list_all (may_precede y) (put_by row_before x ys)) (are_in_order (put_by row_before x ys)) (all-put_by (may_precede y) x ys (precedes y x new e) parts.0) more
    step false e more =
        let later = follows y x new fresh.0 e in
        and_true (may_precede x y && list_all (may_precede x) ys) (list_all (may_precede y) ys && are_in_order ys)
        (and_true (may_precede x y) (list_all (may_precede x) ys)
        (or_true (not (is_spawned x)) (is_spawned y && is_lower x y) (and_true (is_spawned y) (is_lower x y) later.0 later.1))
        (all_weaker (may_precede y) (may_precede x) (λ z k. behind x y z later.0 later.1 k) ys parts.0))
        h

-- a new node among nodes in order
pub order_put : (x : Live) (ys : List Live) → is_spawned x ≡ true → is_new x.auth ys x.num ≡ true → are_in_order ys ≡ true → are_in_order (put_by row_before x ys) ≡ true
order_put x ys new free h = put_among x new ys (unnot (list_any (has_number x.auth x.num) ys) free) h

-- the first number of a spawned node is new where all are
pub first_new : (x : Live) (ys : List Live) → is_spawned x ≡ true → are_free x ys ≡ true → is_new x.auth ys x.num ≡ true
first_new x ys new free = (both (is_new x.auth ys x.num) (list_all (is_new x.auth ys) x.ids) (ap (λ b. list_all (is_new x.auth ys) (cond b (x.num ∷ x.ids) [])) (sym new) ∙ free)).0

-- one node less
pub order_remove : (ns : List Live) (i : ℕ) → are_in_order ns ≡ true → are_in_order (remove ns i) ≡ true
order_remove [] zero h = refl
order_remove [] (suc i) h = refl
order_remove (n ∷ ns) zero h = (both (list_all (may_precede n) ns) (are_in_order ns) h).1
order_remove (n ∷ ns) (suc i) h =
    let parts = both (list_all (may_precede n) ns) (are_in_order ns) h in
    and_true (list_all (may_precede n) (remove ns i)) (are_in_order (remove ns i)) (all_remove (may_precede n) ns i parts.0) (order_remove ns i parts.1)

-- fixed nodes alone
pub order_fixed : (xs : List Node) → are_in_order (map fixed_live xs) ≡ true
order_fixed [] = refl
order_fixed (x ∷ xs) = and_true (list_all (may_precede (fixed_live x)) (map fixed_live xs)) (are_in_order (map fixed_live xs)) (any xs) (order_fixed xs)
  where
    any : (ys : List Node) → list_all (may_precede (fixed_live x)) (map fixed_live ys) ≡ true
    any [] = refl
    any (y ∷ ys) = any ys

-- values alone
all_bare : (n : Live) (ns : List Live) → list_all (may_precede n) (map bare ns) ≡ list_all (may_precede n) ns
all_bare n [] = refl
all_bare n (m ∷ ms) = ap (λ b. may_precede n m && b) (all_bare n ms)

order_bare : (ns : List Live) → are_in_order (map bare ns) ≡ are_in_order ns
order_bare [] = refl
order_bare (n ∷ ns) = ap₂ (λ a b. a && b) (all_bare n ns) (order_bare ns)

pub order_same : (ms ns : List Live) → map bare ms ≡ map bare ns → are_in_order ns ≡ true → are_in_order ms ≡ true
order_same ms ns same h = sym (order_bare ms) ∙ ap are_in_order same ∙ order_bare ns ∙ h
