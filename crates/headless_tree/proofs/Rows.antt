-- The spawned nodes of an authority: they stand together, and the others stay as they were without them.
use Rattle.std.proofs.Common.{◌≡◌, ℕ, suc, ◌+◌, Bool, true, false, cond, not, ◌&&◌, ◌||◌, List, [], ◌∷◌, ◌++◌, ℤ, refl, sym, ap, ap₂, ◌∙◌, subst, length, map, filter, take, drop, nat_lt, arith}
use Rattle.std.specs.Prelude.{int_lt}
use Rattle.std.specs.List.{list_all, list_any, prefix_len, remove_range}
use Rattle.std.proofs.lemmas.Bool.{true≢false}
use Rattle.std.specs.Ordering.{int_eq}
use Rattle.std.proofs.lemmas.Int.{ints}
use Rattle.std.proofs.lemmas.List.{map-append}
use Rattle.gd_variant.specs.Words.{text_eq, some_is}
use Rattle.scene_model.specs.Nodes.{Live}
use Rattle.headless_tree.specs.declared.node.NodeNow.{NodeNow}
use Rattle.headless_tree.specs.Nodes.{live, is_at, is_spawned, is_row_of, without_rows}
use Rattle.headless_tree.specs.Numbers.{Paths, path_under, numbers_of, has_its_path, is_numbered, has_paths_once, KeepsOtherAuthorities}
use Rattle.headless_tree.specs.Order.{may_precede, are_in_order, is_ahead_of, is_ahead_of_later}
use Rattle.headless_tree.proofs.Numbered.{both, and_true, neither, or_false, unnot}
use Rattle.headless_tree.proofs.Order.{all_weaker}
use Rattle.headless_tree.proofs.Changes.{map-take, map-drop}
use Rattle.headless_tree.proofs.Made.{prefix-map}

-- what a list has, its parts have

all_filter : {X : Type 0} (q p : X → Bool) (xs : List X) → list_all p xs ≡ true → list_all p (filter q xs) ≡ true
all_filter q p [] h = refl
all_filter q p (x ∷ xs) h = step (q x) (all_filter q p xs parts.1)
  where
    parts : (p x ≡ true) × (list_all p xs ≡ true)
    parts = both (p x) (list_all p xs) h

    step : (b : Bool) → list_all p (filter q xs) ≡ true → list_all p (cond b (x ∷ filter q xs) (filter q xs)) ≡ true
    step true more = and_true (p x) (list_all p (filter q xs)) parts.0 more
    step false more = more

none_filter : {X : Type 0} (q p : X → Bool) (xs : List X) → list_any p xs ≡ false → list_any p (filter q xs) ≡ false
none_filter q p [] h = refl
none_filter q p (x ∷ xs) h = step (q x) (none_filter q p xs parts.1)
  where
    parts : (p x ≡ false) × (list_any p xs ≡ false)
    parts = neither (p x) (list_any p xs) h

    step : (b : Bool) → list_any p (filter q xs) ≡ false → list_any p (cond b (x ∷ filter q xs) (filter q xs)) ≡ false
    step true more = or_false (p x) (list_any p (filter q xs)) parts.0 more
    step false more = more

pub once_filter : (q : Live → Bool) (ns : List Live) → has_paths_once ns ≡ true → has_paths_once (filter q ns) ≡ true
once_filter q [] h = refl
once_filter q (n ∷ ns) h = step (q n) (once_filter q ns parts.1)
  where
    parts : (not (list_any (is_at n.path) ns) ≡ true) × (has_paths_once ns ≡ true)
    parts = both (not (list_any (is_at n.path) ns)) (has_paths_once ns) h

    step : (b : Bool) → has_paths_once (filter q ns) ≡ true → has_paths_once (cond b (n ∷ filter q ns) (filter q ns)) ≡ true
    step true more =
        and_true (not (list_any (is_at n.path) (filter q ns))) (has_paths_once (filter q ns))
        (ap not (none_filter q (is_at n.path) ns (unnot (list_any (is_at n.path) ns) parts.0))) more
    step false more = more

pub order_filter : (q : Live → Bool) (ns : List Live) → are_in_order ns ≡ true → are_in_order (filter q ns) ≡ true
order_filter q [] h = refl
order_filter q (n ∷ ns) h = step (q n) (order_filter q ns parts.1)
  where
    parts : (list_all (may_precede n) ns ≡ true) × (are_in_order ns ≡ true)
    parts = both (list_all (may_precede n) ns) (are_in_order ns) h

    step : (b : Bool) → are_in_order (filter q ns) ≡ true → are_in_order (cond b (n ∷ filter q ns) (filter q ns)) ≡ true
    step true more = and_true (list_all (may_precede n) (filter q ns)) (are_in_order (filter q ns)) (all_filter q (may_precede n) ns parts.0) more
    step false more = more

-- the others keep their paths under their numbers

other_authority : (s : Bool) (a b : ℤ) → (s && int_eq a b) ≡ false → s ≡ true → int_eq b a ≡ false
other_authority true a b h k = grind (arith, ints)
other_authority false a b h k = absurd (cc k)

all_same : {X : Type 0} (t : X → Bool) (f g : ℕ → X) → ((id : ℕ) → f id ≡ g id) → (ids : List ℕ) → list_all (λ id. t (f id)) ids ≡ list_all (λ id. t (g id)) ids
all_same t f g h [] = refl
all_same t f g h (id ∷ ids) = ap₂ (λ a b. a && b) (ap t (h id)) (all_same t f g h ids)

its_path_stays : (auth : ℤ) (old new : Paths) → KeepsOtherAuthorities auth old new → (n : Live) → is_row_of auth n ≡ false → has_its_path old n ≡ true → has_its_path new n ≡ true
its_path_stays auth old new others n other known = step (is_spawned n) refl
  where
    step : (b : Bool) → is_spawned n ≡ b → has_its_path new n ≡ true
    step true e = all_same (some_is (text_eq n.path)) (path_under new n.auth) (path_under old n.auth) (λ id. others n.auth id (other_authority (is_spawned n) n.auth auth other e)) (numbers_of n) ∙ known
    step false e = ap (λ b. list_all (λ id. some_is (text_eq n.path) (path_under new n.auth id)) (cond b (n.num ∷ n.ids) [])) e

pub numbered_filter : (auth : ℤ) (old new : Paths) → KeepsOtherAuthorities auth old new → (ns : List Live) → is_numbered old ns ≡ true → is_numbered new (without_rows auth ns) ≡ true
numbered_filter auth old new others [] h = refl
numbered_filter auth old new others (n ∷ ns) h = step (is_row_of auth n) refl (numbered_filter auth old new others ns parts.1)
  where
    parts : (has_its_path old n ≡ true) × (is_numbered old ns ≡ true)
    parts = both (has_its_path old n) (is_numbered old ns) h

    step : (b : Bool) → is_row_of auth n ≡ b → is_numbered new (without_rows auth ns) ≡ true → is_numbered new (cond (not b) (n ∷ without_rows auth ns) (without_rows auth ns)) ≡ true
    step true e more = more
    step false e more = and_true (has_its_path new n) (is_numbered new (without_rows auth ns)) (its_path_stays auth old new others n e parts.0) more

-- rows of one authority stand together

-- the order of nodes, by truth values: what may precede a node ahead of an authority's rows stands ahead of them too
ahead_by : (s t : Bool) (auth a b : ℤ) (k m : ℕ) → (not s || (t && (int_lt a b || (int_eq a b && nat_lt k m)))) ≡ true → (not t || int_lt b auth) ≡ true → (not s || int_lt a auth) ≡ true
ahead_by false t auth a b k m h i = refl
ahead_by true false auth a b k m h i = absurd (cc h)
ahead_by true true auth a b k m h i = grind (arith, ints)

ahead_of_later_by : (s t : Bool) (auth a b : ℤ) (k m : ℕ) → (not s || (t && (int_lt a b || (int_eq a b && nat_lt k m)))) ≡ true → (not t || not (int_lt auth b)) ≡ true → (not s || not (int_lt auth a)) ≡ true
ahead_of_later_by false t auth a b k m h i = refl
ahead_of_later_by true false auth a b k m h i = absurd (cc h)
ahead_of_later_by true true auth a b k m h i = grind (arith, ints)

pub ahead_too : (auth : ℤ) (a b : Live) → may_precede a b ≡ true → is_ahead_of auth b ≡ true → is_ahead_of auth a ≡ true
ahead_too auth a b = ahead_by (is_spawned a) (is_spawned b) auth a.auth b.auth a.num b.num

pub ahead_of_later_too : (auth : ℤ) (a b : Live) → may_precede a b ≡ true → is_ahead_of_later auth b ≡ true → is_ahead_of_later auth a ≡ true
ahead_of_later_too auth a b = ahead_of_later_by (is_spawned a) (is_spawned b) auth a.auth b.auth a.num b.num

ahead_of_both : (s : Bool) (auth a : ℤ) → (not s || int_lt a auth) ≡ true → (not s || not (int_lt auth a)) ≡ true
ahead_of_both false auth a h = refl
ahead_of_both true auth a h = grind (arith, ints)

-- a row stands ahead of those of later authorities, and of none else
row_by : (s : Bool) (auth a : ℤ) → (s && int_eq a auth) ≡ ((not s || not (int_lt auth a)) && not (not s || int_lt a auth))
row_by false auth a = refl
row_by true auth a = grind (arith, ints)

-- where the first fails and then all do, none passes first
first_none : {X : Type 0} (p : X → Bool) (xs : List X) → list_all (λ x. not (p x)) xs ≡ true → prefix_len p xs ≡ 0
first_none p [] h = refl
first_none p (x ∷ xs) h = ap (λ b. cond b (1 + prefix_len p xs) 0) (unnot (p x) (both (not (p x)) (list_all (λ y. not (p y)) xs) h).0)

not_false : (a b : Bool) → (b ≡ true → a ≡ true) → a ≡ false → not b ≡ true
not_false a true h e = absurd (true≢false (sym (h refl) ∙ e))
not_false a false h e = refl

none_then : (p : Live → Bool) → ((a b : Live) → may_precede a b ≡ true → p b ≡ true → p a ≡ true) → (n : Live) (ns : List Live) → p n ≡ false → list_all (may_precede n) ns ≡ true → prefix_len p ns ≡ 0
none_then p first n ns e h = first_none p ns (all_weaker (may_precede n) (λ m. not (p m)) (λ m k. not_false (p n) (p m) (first n m k) e) ns h)

one_more : (n : ℕ) → 1 + n ≡ suc n
one_more n = omega arith

-- the rows stand between two places: what is left without them, and how many they are
pub record AreBetween (auth : ℤ) (ns : List Live) (start end : ℕ) : Type 0 where
  pub left : without_rows auth ns ≡ remove_range ns start end
  pub many : start + length (filter (is_row_of auth) ns) ≡ end

rows_together : (auth : ℤ) (ns : List Live) → are_in_order ns ≡ true → AreBetween auth ns (prefix_len (is_ahead_of auth) ns) (prefix_len (is_ahead_of_later auth) ns)
rows_together auth [] order = record { left = refl; many = refl }
rows_together auth (n ∷ ns) order = step (row_by (is_spawned n) auth n.auth) (rows_together auth ns parts.1)
  where
    parts : (list_all (may_precede n) ns ≡ true) × (are_in_order ns ≡ true)
    parts = both (list_all (may_precede n) ns) (are_in_order ns) order

    start : ℕ
    start = prefix_len (is_ahead_of auth) ns

    end : ℕ
    end = prefix_len (is_ahead_of_later auth) ns

    rows : List Live
    rows = filter (is_row_of auth) ns

    -- by how the first node stands, and whether it is a row
    Goal : Bool → Bool → Bool → Type 0
    Goal a l r = (cond (not r) (n ∷ without_rows auth ns) (without_rows auth ns) ≡ remove_range (n ∷ ns) (cond a (1 + start) 0) (cond l (1 + end) 0)) × (cond a (1 + start) 0 + length (cond r (n ∷ rows) rows) ≡ cond l (1 + end) 0)

    by : (a l : Bool) → is_ahead_of auth n ≡ a → is_ahead_of_later auth n ≡ l → AreBetween auth ns start end → Goal a l (l && not a)
    by true true e f more = (ap (λ (ms : List Live). n ∷ ms) more.left ∙ sym (ap₂ (remove_range (n ∷ ns)) (one_more start) (one_more end)), omega (arith, more.many))
    by true false e f more = absurd (true≢false (sym (ahead_of_both (is_spawned n) auth n.auth e) ∙ f))
    by false true e f more =
        let none = none_then (is_ahead_of auth) (ahead_too auth) n ns e parts.0 in
        (more.left ∙ ap (λ k. remove_range ns k end) none ∙ sym (ap (remove_range (n ∷ ns) 0) (one_more end)), omega (arith, more.many, none))
    by false false e f more =
        let none = none_then (is_ahead_of auth) (ahead_too auth) n ns e parts.0 in
        let all = none_then (is_ahead_of_later auth) (ahead_of_later_too auth) n ns f parts.0 in
        (ap (λ (ms : List Live). n ∷ ms) (more.left ∙ ap₂ (remove_range ns) none all), omega (arith, more.many, none, all))

    step : is_row_of auth n ≡ (is_ahead_of_later auth n && not (is_ahead_of auth n)) → AreBetween auth ns start end → AreBetween auth (n ∷ ns) (cond (is_ahead_of auth n) (1 + start) 0) (cond (is_ahead_of_later auth n) (1 + end) 0)
    step row more =
        let goal = subst (λ r. Goal (is_ahead_of auth n) (is_ahead_of_later auth n) r) (sym row) (by (is_ahead_of auth n) (is_ahead_of_later auth n) refl refl more) in
        record { left = goal.0; many = goal.1 }

-- the same of the code's nodes
pub rows_stand : (auth : ℤ) (nodes : List NodeNow) (start end : ℕ) → are_in_order (map live nodes) ≡ true → start ≡ prefix_len (λ (n : NodeNow). is_ahead_of auth (live n)) nodes → end ≡ prefix_len (λ (n : NodeNow). is_ahead_of_later auth (live n)) nodes → AreBetween auth (map live nodes) start end
rows_stand auth nodes start end order first last =
    subst (AreBetween auth (map live nodes) start) (sym (last ∙ prefix-map live (is_ahead_of_later auth) nodes))
    (subst (λ k. AreBetween auth (map live nodes) k (prefix_len (is_ahead_of_later auth) (map live nodes))) (sym (first ∙ prefix-map live (is_ahead_of auth) nodes))
    (rows_together auth (map live nodes) order))

map-remove_range : {X Y : Type 0} (f : X → Y) (xs : List X) (i j : ℕ) → map f (remove_range xs i j) ≡ remove_range (map f xs) i j
map-remove_range f xs i j = map-append f (take i xs) (drop j xs) ∙ ap₂ (λ ys zs. ys ++ zs) (map-take f i xs) (map-drop f j xs)

-- the rows cut out
pub rows_cut : (auth : ℤ) (nodes slice left : List NodeNow) (start end : ℕ) → slice ≡ nodes → without_rows auth (map live slice) ≡ remove_range (map live slice) start end → left ≡ remove_range nodes start end → map live left ≡ without_rows auth (map live nodes)
rows_cut auth nodes slice left start end same rows cut =
    ap (map live) cut ∙ map-remove_range live nodes start end
    ∙ ap (λ (ns : List NodeNow). remove_range (map live ns) start end) (sym same) ∙ sym rows ∙ ap (λ (ns : List NodeNow). without_rows auth (map live ns)) same

pub paths_cut : {K : Type 0} (bytes : K → List ℕ) (keys rest : List K) (nodes left : List NodeNow) (start end : ℕ) → map bytes keys ≡ map (λ (n : NodeNow). n.path) nodes → rest ≡ remove_range keys start end → left ≡ remove_range nodes start end → map bytes rest ≡ map (λ (n : NodeNow). n.path) left
paths_cut bytes keys rest nodes left start end same a b =
    ap (map bytes) a ∙ map-remove_range bytes keys start end ∙ ap (λ (ts : List (List ℕ)). remove_range ts start end) same
    ∙ sym (map-remove_range (λ (n : NodeNow). n.path) nodes start end) ∙ ap (map (λ (n : NodeNow). n.path)) (sym b)
