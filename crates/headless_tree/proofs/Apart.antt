-- The one element of a list that passes a test, where another test tells which elements stand before it.
use Rattle.std.proofs.Common.{◌≡◌, ℕ, zero, suc, ◌+◌, ◌<◌, Bool, true, false, cond, not, ◌&&◌, ◌||◌, List, [], ◌∷◌, ℤ, refl, sym, ap, ap₂, subst, ◌∙◌, length, map, filter, nat_eq, nat_lt, Option, Some, None, is_some, arith}
use Rattle.std.specs.Prelude.{find, position, slice_get, option_map, remove, is_none, int_lt, if◌then◌else◌}
use Rattle.std.specs.List.{position_or_len, prefix_len, list_all, list_any}
use Rattle.std.specs.Ordering.{int_eq}
use Rattle.std.proofs.lemmas.Bool.{lt-ltb, true≢false}
use Rattle.std.proofs.lemmas.Int.{ints}
use Rattle.std.proofs.lemmas.Option.{slice_get-map}
use Rattle.scene_model.specs.Nodes.{Live}
use Rattle.headless_tree.specs.declared.node.NodeNow.{NodeNow}
use Rattle.headless_tree.specs.Lists.{change_first, without_first}
use Rattle.gd_variant.specs.Words.{some_is}
use Rattle.headless_tree.specs.Nodes.{TreeOf, live, is_spawned, is_row_of, is_row_with}
use Rattle.headless_tree.specs.Order.{may_precede, are_in_order, is_before_row}
use Rattle.headless_tree.proofs.Changes.{remove_first}
use Rattle.headless_tree.proofs.Made.{prefix-map}
use Rattle.headless_tree.proofs.Numbered.{both, neither, or_false, unnot, none_placed, find_passes}
use Rattle.headless_tree.proofs.Order.{all_weaker}
use Rattle.headless_tree.proofs.Places.{first_is, found_at, found_within, get_some}

one_more : (n : ℕ) → 1 + n ≡ suc n
one_more n = omega arith

-- an element that stands before passes not, and behind one that doesn't, no other passes
abbrev pub StandsApart : {X : Type 0} → (X → Bool) → (X → Bool) → List X → Type 0
StandsApart before test [] = Unit {0}
StandsApart before test (x ∷ xs) = (before x ≡ true → test x ≡ false) × (before x ≡ false → list_all (λ y. not (test y)) xs ≡ true) × StandsApart before test xs

-- none passes
pub all_fail : {X : Type 0} (test : X → Bool) (xs : List X) → list_all (λ x. not (test x)) xs ≡ true → list_any test xs ≡ false
all_fail test [] h = refl
all_fail test (x ∷ xs) h =
    let parts = both (not (test x)) (list_all (λ y. not (test y)) xs) h in
    or_false (test x) (list_any test xs) (unnot (test x) parts.0) (all_fail test xs parts.1)

filter_none : {X : Type 0} (test : X → Bool) (xs : List X) → list_all (λ x. not (test x)) xs ≡ true → xs ≡ filter (λ x. not (test x)) xs
filter_none test [] h = refl
filter_none test (x ∷ xs) h =
    let parts = both (not (test x)) (list_all (λ y. not (test y)) xs) h in
    ap (λ ys. x ∷ ys) (filter_none test xs parts.1) ∙ sym (ap (λ b. cond b (x ∷ filter (λ y. not (test y)) xs) (filter (λ y. not (test y)) xs)) parts.0)

map_none : {X : Type 0} (test : X → Bool) (f : X → X) (xs : List X) → list_all (λ x. not (test x)) xs ≡ true → xs ≡ map (λ x. if test x then f x else x) xs
map_none test f [] h = refl
map_none test f (x ∷ xs) h =
    let parts = both (not (test x)) (list_all (λ y. not (test y)) xs) h in
    ap (λ ys. x ∷ ys) (map_none test f xs parts.1) ∙ sym (ap (λ b. (if b then f x else x) ∷ map (λ y. if test y then f y else y) xs) (unnot (test x) parts.0))

-- where none passes, nothing is taken away or changed
pub none_gone : {X : Type 0} (test : X → Bool) (xs : List X) → list_any test xs ≡ false → xs ≡ filter (λ x. not (test x)) xs
none_gone test [] h = refl
none_gone test (x ∷ xs) h =
    let parts = neither (test x) (list_any test xs) h in
    ap (λ ys. x ∷ ys) (none_gone test xs parts.1) ∙ sym (ap (λ b. cond (not b) (x ∷ filter (λ y. not (test y)) xs) (filter (λ y. not (test y)) xs)) parts.0)

pub none_changed : {X : Type 0} (test : X → Bool) (f : X → X) (xs : List X) → list_any test xs ≡ false → xs ≡ map (λ x. if test x then f x else x) xs
none_changed test f [] h = refl
none_changed test f (x ∷ xs) h =
    let parts = neither (test x) (list_any test xs) h in
    ap (λ ys. x ∷ ys) (none_changed test f xs parts.1) ∙ sym (ap (λ b. (if b then f x else x) ∷ map (λ y. if test y then f y else y) xs) parts.0)

-- the first that passes is the only one
pub one_gone : {X : Type 0} (before test : X → Bool) (xs : List X) → StandsApart before test xs → without_first test xs ≡ filter (λ x. not (test x)) xs
one_gone before test [] h = refl
one_gone {X} before test (x ∷ xs) h = by (test x) (before x) refl refl (one_gone before test xs h.2)
  where
    by : (b d : Bool) → test x ≡ b → before x ≡ d → without_first test xs ≡ filter (λ y. not (test y)) xs → cond b xs (x ∷ without_first test xs) ≡ cond (not b) (x ∷ filter (λ y. not (test y)) xs) (filter (λ y. not (test y)) xs)
    by true true p q more = absurd (true≢false (sym p ∙ h.0 q))
    by true false p q more = filter_none test xs (h.1 q)
    by false d p q more = ap (λ ys. x ∷ ys) more

pub one_changed : {X : Type 0} (before test : X → Bool) (f : X → X) (xs : List X) → StandsApart before test xs → change_first test f xs ≡ map (λ x. if test x then f x else x) xs
one_changed before test f [] h = refl
one_changed {X} before test f (x ∷ xs) h = by (test x) (before x) refl refl (one_changed before test f xs h.2)
  where
    by : (b d : Bool) → test x ≡ b → before x ≡ d → change_first test f xs ≡ map (λ y. if test y then f y else y) xs → cond b (f x ∷ xs) (x ∷ change_first test f xs) ≡ (if b then f x else x) ∷ map (λ y. if test y then f y else y) xs
    by true true p q more = absurd (true≢false (sym p ∙ h.0 q))
    by true false p q more = ap (λ ys. f x ∷ ys) (map_none test f xs (h.1 q))
    by false d p q more = ap (λ ys. x ∷ ys) more

-- the element behind those that stand before is the one, where it passes
pub first_apart : {X : Type 0} (before test : X → Bool) (xs : List X) (x : X) → StandsApart before test xs → slice_get xs (prefix_len before xs) ≡ Some x → test x ≡ true → position_or_len test xs ≡ prefix_len before xs
first_apart before test [] x h at passes = absurd (cc at)
first_apart {X} before test (y ∷ ys) x h at passes = by (before y) refl at (λ k. first_apart before test ys x h.2 k passes)
  where
    some_same : (a b : X) → Some a ≡ Some b → a ≡ b
    some_same a b e = cc

    by : (d : Bool) → before y ≡ d → slice_get (y ∷ ys) (cond d (1 + prefix_len before ys) 0) ≡ Some x → (slice_get ys (prefix_len before ys) ≡ Some x → position_or_len test ys ≡ prefix_len before ys)
        → cond (not (test y)) (1 + position_or_len test ys) 0 ≡ cond d (1 + prefix_len before ys) 0
    by true e k more =
        ap (λ b. cond (not b) (1 + position_or_len test ys) 0) (h.0 e)
        ∙ ap (λ n. 1 + n) (more (sym (ap (slice_get (y ∷ ys)) (one_more (prefix_len before ys))) ∙ k))
    by false e k more = ap (λ b. cond (not b) (1 + position_or_len test ys) 0) (ap test (some_same y x k) ∙ passes)

pub found_apart : {X : Type 0} (before test : X → Bool) (xs : List X) (i : ℕ) (x : X) → StandsApart before test xs → i ≡ prefix_len before xs → i < length xs → slice_get xs i ≡ Some x → test x ≡ true → position test xs ≡ Some i
found_apart {X} before test xs i x h is low at passes =
    let first = first_apart before test xs x h (ap (slice_get xs) (sym is) ∙ at) passes ∙ sym is in
    ap (λ n. cond (nat_lt n (length xs)) (Some n) None) first ∙ ap (λ b. cond b (Some i) None) (lt-ltb i (length xs) low)

-- where it doesn't pass, none does
pub fails_apart : {X : Type 0} (before test : X → Bool) (xs : List X) (x : X) → StandsApart before test xs → slice_get xs (prefix_len before xs) ≡ Some x → test x ≡ false → list_any test xs ≡ false
fails_apart before test [] x h at fails = refl
fails_apart {X} before test (y ∷ ys) x h at fails = by (before y) refl at (λ k. fails_apart before test ys x h.2 k fails)
  where
    some_same : (a b : X) → Some a ≡ Some b → a ≡ b
    some_same a b e = cc

    by : (d : Bool) → before y ≡ d → slice_get (y ∷ ys) (cond d (1 + prefix_len before ys) 0) ≡ Some x → (slice_get ys (prefix_len before ys) ≡ Some x → list_any test ys ≡ false) → (test y || list_any test ys) ≡ false
    by true e k more = or_false (test y) (list_any test ys) (h.0 e) (more (sym (ap (slice_get (y ∷ ys)) (one_more (prefix_len before ys))) ∙ k))
    by false e k more = or_false (test y) (list_any test ys) (ap test (some_same y x k) ∙ fails) (all_fail test ys (h.1 e))

-- where all stand before, none passes
pub none_apart : {X : Type 0} (before test : X → Bool) (xs : List X) → StandsApart before test xs → slice_get xs (prefix_len before xs) ≡ None → list_any test xs ≡ false
none_apart before test [] h at = refl
none_apart {X} before test (y ∷ ys) h at = by (before y) refl at (none_apart before test ys h.2)
  where
    by : (d : Bool) → before y ≡ d → slice_get (y ∷ ys) (cond d (1 + prefix_len before ys) 0) ≡ None → (slice_get ys (prefix_len before ys) ≡ None → list_any test ys ≡ false) → (test y || list_any test ys) ≡ false
    by true e k more = or_false (test y) (list_any test ys) (h.0 e) (more (sym (ap (slice_get (y ∷ ys)) (one_more (prefix_len before ys))) ∙ k))
    by false e k more = absurd (cc k)

pub not_placed : {X : Type 0} (test : X → Bool) (xs : List X) → list_any test xs ≡ false → position test xs ≡ None
not_placed {X} test xs h = by (position test xs) (none_placed test xs ∙ ap not h)
  where
    by : (o : Option ℕ) → is_none o ≡ true → o ≡ None
    by None k = refl
    by (Some i) k = absurd (cc k)

-- where one passes, the list without it is the list without those that pass
pub taken_apart : {X : Type 0} (before test : X → Bool) (xs : List X) (i : ℕ) → StandsApart before test xs → position test xs ≡ Some i → remove xs i ≡ filter (λ x. not (test x)) xs
taken_apart before test xs i h at = ap (remove xs) (sym (first_is test xs i at)) ∙ remove_first test xs ∙ one_gone before test xs h

-- the row of a number among nodes in order

before_by : (s t : Bool) (auth a b : ℤ) (num k m : ℕ) → (not s || (t && (int_lt a b || (int_eq a b && nat_lt k m)))) ≡ true → ((not t || int_lt b auth) || (int_eq b auth && nat_lt m num)) ≡ true → ((not s || int_lt a auth) || (int_eq a auth && nat_lt k num)) ≡ true
before_by false t auth a b num k m h i = refl
before_by true false auth a b num k m h i = absurd (cc h)
before_by true true auth a b num k m h i = grind (arith, ints)

pub row_before_too : (auth : ℤ) (num : ℕ) (a b : Live) → may_precede a b ≡ true → is_before_row auth num b ≡ true → is_before_row auth num a ≡ true
row_before_too auth num a b = before_by (is_spawned a) (is_spawned b) auth a.auth b.auth num a.num b.num

apart_by : (s : Bool) (auth a : ℤ) (num k : ℕ) → ((not s || int_lt a auth) || (int_eq a auth && nat_lt k num)) ≡ true → ((s && int_eq a auth) && nat_eq k num) ≡ false
apart_by false auth a num k h = refl
apart_by true auth a num k h = grind (arith, ints)

behind_by : (s t : Bool) (auth a b : ℤ) (num k m : ℕ) → ((not s || int_lt a auth) || (int_eq a auth && nat_lt k num)) ≡ false → (not s || (t && (int_lt a b || (int_eq a b && nat_lt k m)))) ≡ true → not ((t && int_eq b auth) && nat_eq m num) ≡ true
behind_by false t auth a b num k m h i = absurd (cc h)
behind_by true false auth a b num k m h i = refl
behind_by true true auth a b num k m h i = grind (arith, ints)

pub rows_apart : (auth : ℤ) (num : ℕ) (ns : List Live) → are_in_order ns ≡ true → StandsApart (is_before_row auth num) (is_row_with auth num) ns
rows_apart auth num [] order = tt
rows_apart auth num (n ∷ ns) order =
    let parts = both (list_all (may_precede n) ns) (are_in_order ns) order in (
      apart_by (is_spawned n) auth n.auth num n.num,
      λ e. all_weaker (may_precede n) (λ m. not (is_row_with auth num m)) (λ m. behind_by (is_spawned n) (is_spawned m) auth n.auth m.auth num n.num m.num e) ns parts.0,
      rows_apart auth num ns parts.1,
    )

-- the same of the code's nodes
pub row_point : (auth : ℤ) (num : ℕ) (nodes : List NodeNow) (i : ℕ) → i ≡ prefix_len (λ (n : NodeNow). is_before_row auth num (live n)) nodes → i ≡ prefix_len (is_before_row auth num) (map live nodes)
row_point auth num nodes i is = is ∙ prefix-map live (is_before_row auth num) nodes

-- what a search answers of the nodes of a tree

view_point : (auth : ℤ) (num : ℕ) (items slice : List NodeNow) (i : ℕ) → slice ≡ items → i ≡ prefix_len (λ (n : NodeNow). is_before_row auth num (live n)) slice → i ≡ prefix_len (is_before_row auth num) (map live items)
view_point auth num items slice i same is = row_point auth num slice i is ∙ ap (λ (ns : List NodeNow). prefix_len (is_before_row auth num) (map live ns)) same

view_at : (items slice : List NodeNow) (i : ℕ) (o : Option NodeNow) → slice ≡ items → o ≡ slice_get slice i → option_map live o ≡ slice_get (map live items) i
view_at items slice i o same at = ap (option_map live) (at ∙ ap (λ (ns : List NodeNow). slice_get ns i) same) ∙ sym (slice_get-map live items i)

within : {X : Type 0} (xs : List X) (i : ℕ) (x : X) → Some x ≡ slice_get xs i → i < length xs
within [] i x at = absurd (cc at)
within (y ∷ ys) zero x at = omega arith
within (y ∷ ys) (suc i) x at = let low = within ys i x at in omega (arith, low)

pub row_there : (auth : ℤ) (num : ℕ) (items first second : List NodeNow) (all : List Live) (i : ℕ) (n : NodeNow) → first ≡ items → second ≡ items → map live items ≡ all → are_in_order (map live items) ≡ true
    → i ≡ prefix_len (λ (m : NodeNow). is_before_row auth num (live m)) first → Some n ≡ slice_get second i → is_row_with auth num (live n) ≡ true → Some i ≡ position (is_row_with auth num) all
row_there auth num items first second all i n a b view order count at passes =
    let there = view_at items second i (Some n) b at in
    sym (found_apart (is_before_row auth num) (is_row_with auth num) (map live items) i (live n) (rows_apart auth num (map live items) order) (view_point auth num items first i a count) (within (map live items) i (live n) there) (sym there) passes)
    ∙ ap (position (is_row_with auth num)) view

pub row_missing : (auth : ℤ) (num : ℕ) (items first second : List NodeNow) (all : List Live) (i : ℕ) (n : NodeNow) → first ≡ items → second ≡ items → map live items ≡ all → are_in_order (map live items) ≡ true
    → i ≡ prefix_len (λ (m : NodeNow). is_before_row auth num (live m)) first → Some n ≡ slice_get second i → is_row_with auth num (live n) ≡ false → None ≡ position (is_row_with auth num) all
row_missing auth num items first second all i n a b view order count at fails =
    sym (not_placed (is_row_with auth num) (map live items) (fails_apart (is_before_row auth num) (is_row_with auth num) (map live items) (live n) (rows_apart auth num (map live items) order)
    (ap (slice_get (map live items)) (sym (view_point auth num items first i a count)) ∙ sym (view_at items second i (Some n) b at)) fails))
    ∙ ap (position (is_row_with auth num)) view

pub row_past : (auth : ℤ) (num : ℕ) (items first second : List NodeNow) (all : List Live) (i : ℕ) → first ≡ items → second ≡ items → map live items ≡ all → are_in_order (map live items) ≡ true
    → i ≡ prefix_len (λ (m : NodeNow). is_before_row auth num (live m)) first → None ≡ slice_get second i → None ≡ position (is_row_with auth num) all
row_past auth num items first second all i a b view order count at =
    sym (not_placed (is_row_with auth num) (map live items) (none_apart (is_before_row auth num) (is_row_with auth num) (map live items) (rows_apart auth num (map live items) order)
    (ap (slice_get (map live items)) (sym (view_point auth num items first i a count)) ∙ sym (view_at items second i None b at))))
    ∙ ap (position (is_row_with auth num)) view

-- a row that is there is a spawned node
pub with_spawned : (auth : ℤ) (num : ℕ) (n : Live) → is_row_with auth num n ≡ true → is_spawned n ≡ true
with_spawned auth num n h = (both (is_spawned n) (int_eq n.auth auth) (both (is_row_of auth n) (nat_eq n.num num) h).0).0

-- a row taken away, or one that isn't there

pub row_spawned : (auth : ℤ) (num : ℕ) (all : List Live) (i : ℕ) → Some i ≡ position (is_row_with auth num) all → some_is is_spawned (slice_get all i) ≡ true
row_spawned auth num all i at = by (find (is_row_with auth num) all) refl
  where
    by : (o : Option Live) → find (is_row_with auth num) all ≡ o → some_is is_spawned (slice_get all i) ≡ true
    by (Some n) e = ap (some_is is_spawned) (found_at (is_row_with auth num) all i (sym at) ∙ e) ∙ with_spawned auth num n (find_passes (is_row_with auth num) all n e)
    by None e = absurd (true≢false (sym (get_some all i (found_within (is_row_with auth num) all i (sym at))) ∙ ap is_some (found_at (is_row_with auth num) all i (sym at) ∙ e)))

pub row_any : (auth : ℤ) (num : ℕ) (all : List Live) (i : ℕ) → Some i ≡ position (is_row_with auth num) all → true ≡ list_any (is_row_with auth num) all
row_any auth num all i at = by (list_any (is_row_with auth num) all) (none_placed (is_row_with auth num) all)
  where
    by : (b : Bool) → is_none (position (is_row_with auth num) all) ≡ not b → true ≡ b
    by true e = refl
    by false e = absurd (true≢false (sym e ∙ sym (ap is_none at)))

pub row_none : (auth : ℤ) (num : ℕ) (all : List Live) → None ≡ position (is_row_with auth num) all → false ≡ list_any (is_row_with auth num) all
row_none auth num all at = by (list_any (is_row_with auth num) all) (none_placed (is_row_with auth num) all)
  where
    by : (b : Bool) → is_none (position (is_row_with auth num) all) ≡ not b → false ≡ b
    by true e = absurd (true≢false (ap is_none at ∙ e))
    by false e = refl

pub row_gone : (auth : ℤ) (num : ℕ) (t : TreeOf) (i : ℕ) → are_in_order t.nodes ≡ true → Some i ≡ position (is_row_with auth num) t.nodes
    → ◌≡◌ {A = TreeOf} (record { scene = t.scene; nodes = remove t.nodes i }) (record { scene = t.scene; nodes = filter (λ n. not (is_row_with auth num n)) t.nodes })
row_gone auth num t i order at = ap {B = TreeOf} (λ (ns : List Live). record { scene = t.scene; nodes = ns }) (taken_apart (is_before_row auth num) (is_row_with auth num) t.nodes i (rows_apart auth num t.nodes order) (sym at))

pub row_kept : (auth : ℤ) (num : ℕ) (t : TreeOf) → None ≡ position (is_row_with auth num) t.nodes → t ≡ record { scene = t.scene; nodes = filter (λ n. not (is_row_with auth num n)) t.nodes }
row_kept auth num t at = ap {B = TreeOf} (λ (ns : List Live). record { scene = t.scene; nodes = ns }) (none_gone (is_row_with auth num) t.nodes (sym (row_none auth num t.nodes at)))
