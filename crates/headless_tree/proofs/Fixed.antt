-- The fixed nodes: they stay, they stand first, and so their places are those in the scene.
use Rattle.std.proofs.Common.{◌≡◌, ℕ, zero, suc, ◌+◌, ◌≤◌, Bool, true, false, cond, not, ◌&&◌, ◌||◌, List, [], ◌∷◌, ◌++◌, ℤ, refl, sym, ap, ap₂, subst, ◌∙◌, length, map, filter, eqb, Option, Some, None, is_some, arith}
use Rattle.std.specs.Prelude.{position, slice_get, insert, remove, nat_lt}
use Rattle.std.specs.List.{list_all, list_any, position_or_len}
use Rattle.std.proofs.lemmas.Map.Entries.{option_filter}
use Rattle.std.specs.Ordering.{int_eq}
use Rattle.std.proofs.lemmas.List.{map-append, length-map, length-append}
use Rattle.std.proofs.lemmas.List.Folds.{prefix_len-append, list_any-append}
use Rattle.std.proofs.lemmas.List.Sums.{prefix_len-le-length}
use Rattle.gd_variant.specs.Words.{text_eq, some_is}
use Rattle.scene_model.specs.declared.scene.Scene.{Scene}
use Rattle.scene_model.specs.declared.scene.Node.{Node}
use Rattle.scene_model.specs.Lookup.{fixed_paths, fixed_node}
use Rattle.scene_model.proofs.ListLaws.{any-map, found_is_any}
use Rattle.scene_model.proofs.TextLaws.{text_eq-sym}
use Rattle.scene_model.specs.Nodes.{Live, fixed_live, live_at}
use Rattle.headless_tree.specs.Nodes.{TreeOf, KeepsFixed, is_at, is_fixed, is_spawned, fixed_nodes, without_rows}
use Rattle.headless_tree.specs.Order.{is_lower, may_precede, are_in_order}
use Rattle.headless_tree.proofs.Numbered.{both, bare}
use Rattle.headless_tree.proofs.Order.{or_cases}
use Rattle.headless_tree.proofs.Places.{position-map}

-- the defaults of a scene's nodes are all fixed
fixed_new : (xs : List Node) → map (λ (n : Live). n.path) (filter is_fixed (map fixed_live xs)) ≡ map (λ (n : Node). n.path) xs
fixed_new [] = refl
fixed_new (x ∷ xs) = ap (λ (ts : List (List ℕ)). x.path ∷ ts) (fixed_new xs)

-- a new tree has the fixed nodes
pub keeps_new : (s t : Scene) (ns : List Live) → t ≡ s → ns ≡ fixed_nodes s → KeepsFixed t ns
keeps_new s t ns same all = ap (λ (ms : List Live). map (λ (n : Live). n.path) (filter is_fixed ms)) all ∙ fixed_new s.nodes ∙ sym (ap fixed_paths same)

-- without their values, the fixed nodes have the same paths
fixed_bare : (ns : List Live) → map (λ (n : Live). n.path) (filter is_fixed (map bare ns)) ≡ map (λ (n : Live). n.path) (filter is_fixed ns)
fixed_bare [] = refl
fixed_bare (n ∷ ns) = elim (is_fixed n) as (λ b. map (λ (m : Live). m.path) (cond b (bare n ∷ filter is_fixed (map bare ns)) (filter is_fixed (map bare ns))) ≡ map (λ (m : Live). m.path) (cond b (n ∷ filter is_fixed ns) (filter is_fixed ns))) [ true ↦ ap (λ (ts : List (List ℕ)). n.path ∷ ts) (fixed_bare ns) | false ↦ fixed_bare ns ]

-- so they stay where values alone change
pub keeps_same : (s : Scene) (ms ns : List Live) → map bare ms ≡ map bare ns → KeepsFixed s ns → KeepsFixed s ms
keeps_same s ms ns same h = sym (fixed_bare ms) ∙ ap (λ (xs : List Live). map (λ (n : Live). n.path) (filter is_fixed xs)) same ∙ fixed_bare ns ∙ h

-- with a spawned node more, the fixed ones are the same
fixed_more : (ns : List Live) (i : ℕ) (x : Live) → is_spawned x ≡ true → filter is_fixed (insert ns i x) ≡ filter is_fixed ns
fixed_more ns zero x new = ap (λ b. cond (not b) (x ∷ filter is_fixed ns) (filter is_fixed ns)) new
fixed_more [] (suc i) x new = ap (λ b. cond (not b) (x ∷ []) []) new
fixed_more (n ∷ ns) (suc i) x new = ap (λ (ms : List Live). cond (is_fixed n) (n ∷ ms) ms) (fixed_more ns i x new)

-- so they stay where a spawned node is put in
pub keeps_more : (s : Scene) (ns : List Live) (i : ℕ) (x : Live) → is_spawned x ≡ true → KeepsFixed s ns → KeepsFixed s (insert ns i x)
keeps_more s ns i x new h = ap (map (λ (n : Live). n.path)) (fixed_more ns i x new) ∙ h

-- with a spawned node less, the fixed ones are the same
fixed_less : (ns : List Live) (i : ℕ) → some_is is_spawned (slice_get ns i) ≡ true → filter is_fixed (remove ns i) ≡ filter is_fixed ns
fixed_less [] zero new = absurd (cc new)
fixed_less [] (suc i) new = absurd (cc new)
fixed_less (n ∷ ns) zero new = sym (ap (λ b. cond (not b) (n ∷ filter is_fixed ns) (filter is_fixed ns)) new)
fixed_less (n ∷ ns) (suc i) new = ap (λ (ms : List Live). cond (is_fixed n) (n ∷ ms) ms) (fixed_less ns i new)

-- so they stay where a spawned node is taken away
pub keeps_less : (s : Scene) (ns : List Live) (i : ℕ) → some_is is_spawned (slice_get ns i) ≡ true → KeepsFixed s ns → KeepsFixed s (remove ns i)
keeps_less s ns i new h = ap (map (λ (n : Live). n.path)) (fixed_less ns i new) ∙ h

-- without the spawned nodes of an authority, the fixed ones are the same
fixed_others : (auth : ℤ) (ns : List Live) → filter is_fixed (without_rows auth ns) ≡ filter is_fixed ns
fixed_others auth [] = refl
fixed_others auth (n ∷ ns) = step (is_spawned n) (int_eq n.auth auth) refl (fixed_others auth ns)
  where
    step : (b e : Bool) → is_spawned n ≡ b → filter is_fixed (without_rows auth ns) ≡ filter is_fixed ns → filter is_fixed (cond (not (b && e)) (n ∷ without_rows auth ns) (without_rows auth ns)) ≡ cond (not b) (n ∷ filter is_fixed ns) (filter is_fixed ns)
    step true true is more = more
    step true false is more = ap (λ b. cond (not b) (n ∷ filter is_fixed (without_rows auth ns)) (filter is_fixed (without_rows auth ns))) is ∙ more
    step false e is more = ap (λ b. cond (not b) (n ∷ filter is_fixed (without_rows auth ns)) (filter is_fixed (without_rows auth ns))) is ∙ ap (λ (ms : List Live). n ∷ ms) more

-- so they stay where the spawned nodes of an authority are taken away
pub keeps_others : (s : Scene) (auth : ℤ) (ns : List Live) → KeepsFixed s ns → KeepsFixed s (without_rows auth ns)
keeps_others s auth ns h = ap (map (λ (n : Live). n.path)) (fixed_others auth ns) ∙ h

-- behind a spawned node none is fixed
none_fixed : (n : Live) (ns : List Live) → is_spawned n ≡ true → list_all (may_precede n) ns ≡ true → filter is_fixed ns ≡ []
none_fixed n [] new h = refl
none_fixed n (m ∷ ms) new h =
    let parts = both (may_precede n m) (list_all (may_precede n) ms) h in
    let later = both (is_spawned m) (is_lower n m) (or_cases (is_spawned n) (is_spawned m && is_lower n m) parts.0 new) in
    ap (λ b. cond (not b) (m ∷ filter is_fixed ms) (filter is_fixed ms)) later.0 ∙ none_fixed n ms new parts.1

-- nodes in order are the fixed ones and then the spawned ones
fixed_first : (ns : List Live) → are_in_order ns ≡ true → ns ≡ filter is_fixed ns ++ filter is_spawned ns
fixed_first [] h = refl
fixed_first (n ∷ ns) h = step (is_spawned n) refl (fixed_first ns parts.1)
  where
    parts : (list_all (may_precede n) ns ≡ true) × (are_in_order ns ≡ true)
    parts = both (list_all (may_precede n) ns) (are_in_order ns) h

    step : (b : Bool) → is_spawned n ≡ b → ns ≡ filter is_fixed ns ++ filter is_spawned ns → n ∷ ns ≡ cond (not b) (n ∷ filter is_fixed ns) (filter is_fixed ns) ++ cond b (n ∷ filter is_spawned ns) (filter is_spawned ns)
    step true new more =
        let none = none_fixed n ns new parts.0 in
        ap (λ (ms : List Live). n ∷ ms) (more ∙ ap (λ (ms : List Live). ms ++ filter is_spawned ns) none) ∙ sym (ap (λ (ms : List Live). ms ++ n ∷ filter is_spawned ns) none)
    step false is more = ap (λ (ms : List Live). n ∷ ms) more

-- so their paths are those of the scene and then those of the spawned ones
paths_in_order : (s : Scene) (ns : List Live) → are_in_order ns ≡ true → KeepsFixed s ns → map (λ (n : Live). n.path) ns ≡ fixed_paths s ++ map (λ (n : Live). n.path) (filter is_spawned ns)
paths_in_order s ns order keeps =
    let path : Live → List ℕ = λ n. n.path in
    ap (map path) (fixed_first ns order) ∙ map-append path (filter is_fixed ns) (filter is_spawned ns) ∙ ap (λ (ts : List (List ℕ)). ts ++ map path (filter is_spawned ns)) keeps

-- a search through two lists by numbers: the first l of n elements in front fail, and the first m of k behind them
in_front : (l n m k : ℕ) → l ≤ n → cond (nat_lt l n) (Some l) None ≡ option_filter (λ i. nat_lt i n) (cond (nat_lt (cond (eqb l n) (n + m) l) (n + k)) (Some (cond (eqb l n) (n + m) l)) None)
in_front l n m k low = grind arith

-- a search through the front of a list is one through the whole list, where its place lies in the front
front_place : {X : Type 0} (p : X → Bool) (xs ys : List X) → position p xs ≡ option_filter (λ i. nat_lt i (length xs)) (position p (xs ++ ys))
front_place p xs ys =
    in_front (position_or_len p xs) (length xs) (position_or_len p ys) (length ys) (prefix_len-le-length (λ x. not (p x)) xs)
    ∙ ap₂ (λ (i k : ℕ). option_filter (λ j. nat_lt j (length xs)) (cond (nat_lt i k) (Some i) None)) (sym (prefix_len-append (λ x. not (p x)) xs ys)) (sym (length-append xs ys))

-- the place in a scene, by the place among nodes in order that keep its fixed nodes
place_of_path : (s : Scene) (ns : List Live) (path : List ℕ) → are_in_order ns ≡ true → KeepsFixed s ns → position (λ (n : Node). text_eq path n.path) s.nodes ≡ option_filter (λ i. nat_lt i (length s.nodes)) (position (is_at path) ns)
place_of_path s ns path order keeps =
    let here : List ℕ → Bool = λ t. text_eq t path in
    position-map (λ (n : Node). n.path) (λ (n : Node). text_eq path n.path) here (λ n. text_eq-sym path n.path) s.nodes
    ∙ front_place here (fixed_paths s) (map (λ (n : Live). n.path) (filter is_spawned ns))
    ∙ ap₂ (λ (k : ℕ) (ts : List (List ℕ)). option_filter (λ i. nat_lt i k) (position here ts)) (length-map s.nodes (λ (n : Node). n.path)) (sym (paths_in_order s ns order keeps))
    ∙ ap (option_filter (λ i. nat_lt i (length s.nodes))) (sym (position-map (λ (n : Live). n.path) (is_at path) here (λ n. refl) ns))

-- the place of a fixed node is its place among a tree's nodes, where that is below the count of the scene's
pub fixed_placed : (t u : TreeOf) (path : List ℕ) (count : ℕ) (o : Option ℕ) → u ≡ t → are_in_order u.nodes ≡ true → KeepsFixed u.scene u.nodes → count ≡ length u.scene.nodes → position (is_at path) t.nodes ≡ o
    → position (λ (n : Node). text_eq path n.path) t.scene.nodes ≡ option_filter (λ i. nat_lt i count) o
fixed_placed t u path count o view order keeps is place =
    ap (λ (v : TreeOf). position (λ (n : Node). text_eq path n.path) v.scene.nodes) (sym view)
    ∙ place_of_path u.scene u.nodes path order keeps
    ∙ ap₂ (λ (k : ℕ) (v : TreeOf). option_filter (λ i. nat_lt i k) (position (is_at path) v.nodes)) (sym is) view
    ∙ ap (option_filter (λ i. nat_lt i count)) place

-- among nodes in order that keep the fixed nodes, one stands at each of their paths
there_of_path : (s : Scene) (ns : List Live) (path : List ℕ) → are_in_order ns ≡ true → KeepsFixed s ns → is_some (fixed_node s path) ≡ true → is_some (live_at ns path) ≡ true
there_of_path s ns path order keeps h =
    let here : List ℕ → Bool = λ t. text_eq t path in
    let rest = map (λ (n : Live). n.path) (filter is_spawned ns) in
    let there = any-map here (λ (n : Node). n.path) s.nodes ∙ sym (found_is_any (λ (n : Node). text_eq n.path path) s.nodes) ∙ h in
    found_is_any (is_at path) ns
    ∙ sym (any-map here (λ (n : Live). n.path) ns)
    ∙ ap (list_any here) (paths_in_order s ns order keeps)
    ∙ list_any-append here (fixed_paths s) rest
    ∙ ap (λ b. b || list_any here rest) there

-- so a tree has a node at the path of each fixed node
pub fixed_there : (t u : TreeOf) → u ≡ t → are_in_order u.nodes ≡ true → KeepsFixed u.scene u.nodes → (path : List ℕ) → is_some (fixed_node t.scene path) ≡ true → is_some (live_at t.nodes path) ≡ true
fixed_there t u view order keeps path = subst (λ (v : TreeOf). is_some (fixed_node v.scene path) ≡ true → is_some (live_at v.nodes path) ≡ true) view (there_of_path u.scene u.nodes path order keeps)
