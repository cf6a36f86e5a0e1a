-- Tests of lists of values and of pairs, as tests of each element.
use Rattle.std.proofs.Common.{◌≡◌, ℕ, ◌+◌, ◌<◌, Bool, true, false, List, [], ◌∷◌, take, get_or, length, refl, sym, ap, ◌∙◌}
use Rattle.std.specs.Prelude.{◌&&◌, not, nat_le, ◌≤◌}
use Rattle.std.proofs.lemmas.Bool.{le-leb, lt-leb}
use Rattle.gd_variant.specs.Size.{tree_size}
use Rattle.std.specs.List.{list_all}
use Rattle.std.proofs.lemmas.List.Folds.{list_all_more, list_all_at}
use Rattle.gd_variant.specs.declared.value.Variant.{Variant}
use Rattle.gd_variant.specs.declared.value.Pair.{Pair}
use Rattle.gd_variant.specs.declared.value.Variant.TheVariants.{Dict, Array}
use Rattle.gd_variant.specs.Tree.{Tree, tree_eq, plain, plains, plain_pairs}
use Rattle.gd_variant.specs.Sound.{is_new_key, keys_distinct, nesting, is_right, are_right, is_sound_tree}
use Rattle.gd_variant.proofs.TreeOf.{plain_dict, plain_array}

and_assoc : (a b c : Bool) → (a && (b && c)) ≡ ((a && b) && c)
and_assoc true b c = refl
and_assoc false b c = refl

abbrev differs_from : Tree → Pair → Bool
differs_from k p = not (tree_eq k (plain p.key))

abbrev right_value : Variant → Bool
right_value v = is_right (plain v)

abbrev right_pair : Pair → Bool
right_pair p = is_right (plain p.key) && is_right (plain p.value)

new_is : (k : Tree) (ps : List Pair) → is_new_key k (plain_pairs ps) ≡ list_all (differs_from k) ps
new_is k [] = refl
new_is k (p ∷ ps) = ap (λ b. differs_from k p && b) (new_is k ps)

right_is : (vs : List Variant) → are_right (plains vs) ≡ list_all right_value vs
right_is [] = refl
right_is (v ∷ vs) = ap (λ b. right_value v && b) (right_is vs)

right_pairs_is : (ps : List Pair) → are_right (plain_pairs ps) ≡ list_all right_pair ps
right_pairs_is [] = refl
right_pairs_is (p ∷ ps) = ap (λ b. is_right (plain p.key) && (is_right (plain p.value) && b)) (right_pairs_is ps) ∙ and_assoc (is_right (plain p.key)) (is_right (plain p.value)) (list_all right_pair ps)

-- a test of a list that is a test of each element, one element further
more : {X : Type 0} (all : List X → Bool) (each : X → Bool) → ((xs : List X) → all xs ≡ list_all each xs) → (xs : List X) (i : ℕ) (x : X) → i < length xs → x ≡ get_or xs i x
    → all (take i xs) ≡ true → each x ≡ true → all (take (i + 1) xs) ≡ true
more all each is xs i x lt at front here =
    is (take (i + 1) xs) ∙ list_all_more each xs i x lt ∙ ap (λ b. b && each (get_or xs i x)) (sym (is (take i xs)) ∙ front) ∙ ap each (sym at) ∙ here

stops : {X : Type 0} (all : List X → Bool) (each : X → Bool) → ((xs : List X) → all xs ≡ list_all each xs) → (xs : List X) (i : ℕ) (x : X) → i < length xs → x ≡ get_or xs i x
    → each x ≡ false → false ≡ all xs
stops all each is xs i x lt at here = sym (is xs ∙ list_all_at each xs i x lt (ap each (sym at) ∙ here))

pub new_more : (k : Tree) (ps : List Pair) (i : ℕ) (p : Pair) → i < length ps → p ≡ get_or ps i p → is_new_key k (plain_pairs (take i ps)) ≡ true → tree_eq k (plain p.key) ≡ false → is_new_key k (plain_pairs (take (i + 1) ps)) ≡ true
new_more k ps i p lt at front here = more (λ qs. is_new_key k (plain_pairs qs)) (differs_from k) (new_is k) ps i p lt at front (ap not here)

pub new_stops : (k : Tree) (ps : List Pair) (i : ℕ) (p : Pair) → i < length ps → p ≡ get_or ps i p → tree_eq k (plain p.key) ≡ true → false ≡ is_new_key k (plain_pairs ps)
new_stops k ps i p lt at here = stops (λ qs. is_new_key k (plain_pairs qs)) (differs_from k) (new_is k) ps i p lt at (ap not here)

pub right_more : (vs : List Variant) (i : ℕ) (v : Variant) → i < length vs → v ≡ get_or vs i v → are_right (plains (take i vs)) ≡ true → is_right (plain v) ≡ true → are_right (plains (take (i + 1) vs)) ≡ true
right_more = more (λ vs. are_right (plains vs)) right_value right_is

pub right_stops : (vs : List Variant) (i : ℕ) (v : Variant) → i < length vs → v ≡ get_or vs i v → is_right (plain v) ≡ false → false ≡ are_right (plains vs)
right_stops = stops (λ vs. are_right (plains vs)) right_value right_is

pub right_pair_more : (ps : List Pair) (i : ℕ) (p : Pair) → i < length ps → p ≡ get_or ps i p → are_right (plain_pairs (take i ps)) ≡ true → right_pair p ≡ true → are_right (plain_pairs (take (i + 1) ps)) ≡ true
right_pair_more = more (λ ps. are_right (plain_pairs ps)) right_pair right_pairs_is

pub right_pair_stops : (ps : List Pair) (i : ℕ) (p : Pair) → i < length ps → p ≡ get_or ps i p → right_pair p ≡ false → false ≡ are_right (plain_pairs ps)
right_pair_stops = stops (λ ps. are_right (plain_pairs ps)) right_pair right_pairs_is

pub right_dict : (v : Variant) (ps : List Pair) → v ≡ Dict ps → is_right (plain v) ≡ (keys_distinct (plain_pairs ps) && are_right (plain_pairs ps))
right_dict v ps e = ap (λ w. is_right (plain w)) e ∙ ap is_right (plain_dict ps)

pub right_array : (v : Variant) (vs : List Variant) → v ≡ Array vs → is_right (plain v) ≡ are_right (plains vs)
right_array v vs e = ap (λ w. is_right (plain w)) e ∙ ap is_right (plain_array vs)

-- ---- the three tests of a whole value

too_deep : (a b c : Bool) → b ≡ false → false ≡ ((a && b) && c)
too_deep true b c e = rw e refl
too_deep false b c e = refl

too_long : (a b c : Bool) → c ≡ false → false ≡ ((a && b) && c)
too_long true true c e = sym e
too_long true false c e = refl
too_long false b c e = refl

last_test : (a b c : Bool) → b ≡ true → c ≡ true → a ≡ ((a && b) && c)
last_test true b c e f = rw (e, f) refl
last_test false b c e f = refl

pub is_too_deep : (t : Tree) → 32 < nesting t → false ≡ is_sound_tree t
is_too_deep t lt = too_deep (is_right t) (nat_le (nesting t) 32) (nat_le (tree_size t) 8388608) (lt-leb (nesting t) 32 lt)

pub is_too_long : (t : Tree) → 8388608 < tree_size t → false ≡ is_sound_tree t
is_too_long t lt = too_long (is_right t) (nat_le (nesting t) 32) (nat_le (tree_size t) 8388608) (lt-leb (tree_size t) 8388608 lt)

pub is_sound_where_right : (t : Tree) (r : Bool) → nesting t ≤ 32 → tree_size t ≤ 8388608 → r ≡ is_right t → r ≡ is_sound_tree t
is_sound_where_right t r deep long e = e ∙ last_test (is_right t) (nat_le (nesting t) 32) (nat_le (tree_size t) 8388608) (le-leb (nesting t) 32 deep) (le-leb (tree_size t) 8388608 long)
