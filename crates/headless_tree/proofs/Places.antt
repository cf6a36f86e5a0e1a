-- Places in lists: searches through a map, and what stands at the first place.
use Rattle.std.proofs.Common.{◌≡◌, ℕ, zero, suc, ◌+◌, ◌<◌, inl, inr, Bool, true, false, cond, not, List, [], ◌∷◌, refl, sym, ap, ap₂, subst, ◌∙◌, length, map, nat_lt, Some, None, is_some, arith}
use Rattle.std.specs.Prelude.{find, position, slice_get, option_map}
use Rattle.std.specs.List.{position_or_len, prefix_len}
use Rattle.std.specs.Str.{bytes_eq}
use Rattle.std.proofs.lemmas.Bool.{cases_lt, lt-ltb, le-ltb}
use Rattle.std.proofs.lemmas.List.{length-map}
use Rattle.std.proofs.lemmas.List.Folds.{find_at}
use Rattle.std.proofs.lemmas.Option.{slice_get-map, slice_get_past}
use Rattle.std.proofs.lemmas.Slice.Eq.{bytes_eq-Decides}
use Rattle.gd_variant.specs.Words.{text_eq}
use Rattle.scene_model.proofs.TextLaws.{text_answer, text_eq-sym}
use Rattle.scene_model.specs.Nodes.{Live, live_at}
use Rattle.headless_tree.specs.declared.node.NodeNow.{NodeNow}
use Rattle.headless_tree.specs.Nodes.{live, is_at}

first-map : {X Y : Type 0} (f : X → Y) (p : X → Bool) (q : Y → Bool) → ((x : X) → p x ≡ q (f x)) → (xs : List X) → position_or_len p xs ≡ position_or_len q (map f xs)
first-map f p q h [] = refl
first-map f p q h (x ∷ xs) = ap (λ b. cond (not b) (1 + prefix_len (λ y. not (p y)) xs) 0) (h x) ∙ ap (λ n. cond (not (q (f x))) (1 + n) 0) (first-map f p q h xs)

-- a search by a key is a search through the keys
pub position-map : {X Y : Type 0} (f : X → Y) (p : X → Bool) (q : Y → Bool) → ((x : X) → p x ≡ q (f x)) → (xs : List X) → position p xs ≡ position q (map f xs)
position-map f p q h xs = ap₂ (λ (n m : ℕ). cond (nat_lt n m) (Some n) None) (first-map f p q h xs) (sym (length-map xs f))

is_found : (b : Bool) (n i : ℕ) → cond b (Some n) None ≡ Some i → n ≡ i
is_found true n i h = cc
is_found false n i h = absurd (cc h)

-- the place that a search gives
pub first_is : {X : Type 0} (p : X → Bool) (xs : List X) (i : ℕ) → position p xs ≡ Some i → position_or_len p xs ≡ i
first_is p xs i h = is_found (nat_lt (position_or_len p xs) (length xs)) (position_or_len p xs) i h

-- what stands at the place that a search found is what it finds
pub found_at : {X : Type 0} (p : X → Bool) (xs : List X) (i : ℕ) → position p xs ≡ Some i → slice_get xs i ≡ find p xs
found_at p xs i h = sym (find_at p xs ∙ ap (slice_get xs) (first_is p xs i h))

none_is_some : {X : Type 0} {x : X} → Some x ≡ None → ⊥
none_is_some e = absurd (cc e)

pub not_found : {X : Type 0} (p : X → Bool) (xs : List X) → position p xs ≡ None → find p xs ≡ None
not_found {X} p xs h = find_at p xs ∙ elim (cases_lt (position_or_len p xs) (length xs)) [ inl w ↦ absurd (none_is_some (sym (ap (λ b. cond b (Some (position_or_len p xs)) None) (lt-ltb (position_or_len p xs) (length xs) w)) ∙ h)) | inr past ↦ slice_get_past xs (position_or_len p xs) past ]

pub found_within : {X : Type 0} (p : X → Bool) (xs : List X) (i : ℕ) → position p xs ≡ Some i → i < length xs
found_within p xs i h = elim (cases_lt (position_or_len p xs) (length xs)) [ inl w ↦ subst (λ n. n < length xs) (first_is p xs i h) w | inr past ↦ absurd (none_is_some (sym h ∙ ap (λ b. cond b (Some (position_or_len p xs)) None) (le-ltb (position_or_len p xs) (length xs) past))) ]

pub get_some : {X : Type 0} (xs : List X) (i : ℕ) → i < length xs → is_some (slice_get xs i) ≡ true
get_some [] i w = absurd (omega (arith, w))
get_some (x ∷ xs) zero w = refl
get_some (x ∷ xs) (suc i) w = get_some xs i (omega (arith, w))

path_test : (path t : List ℕ) → bytes_eq path t ≡ text_eq t path
path_test path t = text_answer (bytes_eq path t) path t (bytes_eq-Decides path t) ∙ text_eq-sym path t

-- a path's place among the paths is its node's place
pub path_place : {K : Type 0} (bytes : K → List ℕ) (keys : List K) (nodes : List NodeNow) (path : List ℕ) → map bytes keys ≡ map (λ (n : NodeNow). n.path) nodes
    → position (λ k. bytes_eq path (bytes k)) keys ≡ position (is_at path) (map live nodes)
path_place bytes keys nodes path same =
    position-map bytes (λ k. bytes_eq path (bytes k)) (λ t. text_eq t path) (λ k. path_test path (bytes k)) keys
    ∙ ap (position (λ t. text_eq t path)) same
    ∙ sym (position-map (λ (n : NodeNow). n.path) (λ (n : NodeNow). text_eq n.path path) (λ t. text_eq t path) (λ n. refl) nodes)
    ∙ position-map live (λ (n : NodeNow). text_eq n.path path) (is_at path) (λ n. refl) nodes

-- the node at a path, by its place
pub node_there : (nodes : List NodeNow) (all : List Live) (path : List ℕ) (i : ℕ) → all ≡ map live nodes → position (is_at path) all ≡ Some i → option_map live (slice_get nodes i) ≡ live_at all path
node_there nodes all path i same h = sym (slice_get-map live nodes i) ∙ ap (λ (ns : List Live). slice_get ns i) (sym same) ∙ found_at (is_at path) all i h
