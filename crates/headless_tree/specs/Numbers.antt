-- The numbers of spawned nodes: each has one of its own and one for each of its synchronizers.
use Rattle.std.specs.Prelude.{◌≡◌, ℕ, ℤ, Bool, true, false, not, ◌&&◌, cond, List, [], ◌∷◌, Option, None, nat_eq}
use Rattle.std.specs.List.{list_any, list_all}
use Rattle.std.specs.Map.{lookup}
use Rattle.std.specs.Ordering.{int_eq}
use Rattle.gd_variant.specs.Words.{text_eq, has_nat, some_is}
use Rattle.scene_model.specs.Nodes.{Live}
use Rattle.headless_tree.specs.Nodes.{is_at, is_spawned, is_row_of}

-- the numbers of a node: its own and its ids; a fixed node has none
abbrev pub numbers_of : Live → List ℕ
numbers_of n = cond (is_spawned n) (n.num ∷ n.ids) []

-- whether a node is the spawned one of an authority with this number
abbrev pub has_number : ℤ → ℕ → Live → Bool
has_number auth id n = is_row_of auth n && has_nat id (n.num ∷ n.ids)

-- whether a number belongs to no spawned node of an authority
abbrev pub is_new : ℤ → List Live → ℕ → Bool
is_new auth nodes id = not (list_any (has_number auth id) nodes)

-- whether a number and ids belong to no spawned node of an authority
abbrev pub are_new : ℤ → ℕ → List ℕ → List Live → Bool
are_new auth num ids nodes = list_all (is_new auth nodes) (num ∷ ids)

-- whether no node has a number of this one
abbrev pub are_free : Live → List Live → Bool
are_free n nodes = list_all (is_new n.auth nodes) (numbers_of n)

-- paths by authority and number
abbrev pub Paths : Type 0
Paths = List ((ℤ × ℕ) × List ℕ)

-- the path under a number of an authority
abbrev pub path_under : Paths → ℤ → ℕ → Option (List ℕ)
path_under ps auth id = lookup (λ key. int_eq auth key.0 && nat_eq id key.1) ps

-- whether a node's path stands under each of its numbers
abbrev pub has_its_path : Paths → Live → Bool
has_its_path ps n = list_all (λ id. some_is (text_eq n.path) (path_under ps n.auth id)) (numbers_of n)

-- whether each node's path stands under its numbers
abbrev pub is_numbered : Paths → List Live → Bool
is_numbered ps nodes = list_all (has_its_path ps) nodes

-- under a number that belongs to no node, no path stands
abbrev pub HasNoOthers : Paths → List Live → Type 0
HasNoOthers ps nodes = (auth : ℤ) (id : ℕ) → is_new auth nodes id ≡ true → path_under ps auth id ≡ None

-- whether no two nodes have one path
abbrev pub has_paths_once : List Live → Bool
has_paths_once [] = true
has_paths_once (n ∷ ns) = not (list_any (is_at n.path) ns) && has_paths_once ns

-- under numbers other than these of an authority, the paths are the same
abbrev pub KeepsOthers : ℤ → List ℕ → Paths → Paths → Type 0
KeepsOthers auth ids old new = (a : ℤ) (id : ℕ) → (int_eq auth a && has_nat id ids) ≡ false → path_under new a id ≡ path_under old a id

-- under no number of an authority a path stands
abbrev pub HasNoneUnder : ℤ → Paths → Type 0
HasNoneUnder auth ps = (id : ℕ) → path_under ps auth id ≡ None

-- under the numbers of other authorities, the paths are the same
abbrev pub KeepsOtherAuthorities : ℤ → Paths → Paths → Type 0
KeepsOtherAuthorities auth old new = (a : ℤ) (id : ℕ) → int_eq auth a ≡ false → path_under new a id ≡ path_under old a id
