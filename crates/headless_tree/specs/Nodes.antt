-- The tree of nodes: which nodes stand in it, and what each call makes of them.
use Rattle.std.specs.Prelude.{◌≡◌, ℕ, ℤ, Bool, true, not, ◌&&◌, ◌||◌, cond, List, [], ◌∷◌, map, filter, length, MatchResult, Option, Some, None, option_and_then, is_none, is_some, nat_eq, nat_le, nat_lt, int_lt, slice_get, position, Result}
use Rattle.std.specs.Ordering.{int_eq}
use Rattle.gd_variant.specs.Words.{text_eq, some_is, when, first_of, put_by}
use Rattle.gd_variant.specs.declared.value.Variant.{Variant}
use Rattle.scene_model.specs.declared.scene.Scene.{Scene}
use Rattle.scene_model.specs.declared.scene.Prop.{Prop}
use Rattle.scene_model.specs.Lookup.{fixed_node, fixed_paths, scene_at, has_prop, value_in}
use Rattle.scene_model.specs.Paths.{joined}
pub use Rattle.scene_model.specs.Limits.{is_long}
use Rattle.scene_model.specs.Nodes.{Live, fixed_live, live_at, props_in}
use Rattle.headless_tree.specs.declared.node.NodeNow.{NodeNow}
use Rattle.headless_tree.specs.declared.node.TreeNo.{TreeNo}
use Rattle.headless_tree.specs.declared.node.TreeNo.TheVariants.{NoNode, NameTaken, NoProp, ValueTooLong, OutOfMemory}
use Rattle.headless_tree.specs.Lists.{change_at, change_first, without_first}

-- what contracts see of a tree: its scene, and its nodes, the fixed ones first
pub record TreeOf : Type 0 where
  pub scene : Scene
  pub nodes : List Live

-- a node as the definitions of a peer see it
abbrev pub live : NodeNow → Live
live n = record { auth = n.auth; num = n.num; ids = n.ids; path = n.path; place = n.scene; values = n.values }

-- the fixed nodes with their defaults
abbrev pub fixed_nodes : Scene → List Live
fixed_nodes s = map fixed_live s.nodes

-- whether a node stands at a path
abbrev pub is_at : List ℕ → Live → Bool
is_at path n = text_eq n.path path

-- whether a node was spawned
abbrev pub is_spawned : Live → Bool
is_spawned n = is_some n.place

-- whether a node is a fixed one
abbrev pub is_fixed : Live → Bool
is_fixed n = not (is_spawned n)

-- whether the fixed nodes have the paths of a scene, in its order
abbrev pub KeepsFixed : Scene → List Live → Type 0
KeepsFixed s nodes = map (λ (n : Live). n.path) (filter is_fixed nodes) ≡ fixed_paths s

-- a node stands at the path of each node of the scene
abbrev pub HasFixed : TreeOf → Type 0
HasFixed t = (path : List ℕ) → is_some (fixed_node t.scene path) ≡ true → is_some (live_at t.nodes path) ≡ true

-- the value of a property of the node at a path
abbrev pub value_at : List Live → List ℕ → List ℕ → Option Variant
value_at nodes path prop = option_and_then (λ (n : Live). value_in n.values prop) (live_at nodes path)

-- assignments

-- a property with another value
abbrev pub with_value : Variant → Prop → Prop
with_value value p = record p { value = value }

-- the node that has no such property
abbrev pub lacks_prop : List ℕ → Live → Bool
lacks_prop prop n = not (has_prop prop n.values)

-- why a property of the node at a path isn't assigned
abbrev pub assign_no : List Live → List ℕ → List ℕ → Variant → Option TreeNo
assign_no nodes path prop value = first_of (
    when (is_none (live_at nodes path)) NoNode
    ∷ when (some_is (lacks_prop prop) (live_at nodes path)) NoProp
    ∷ when (is_long value) ValueTooLong
    ∷ [])

-- the nodes after the assignment
abbrev pub assigned : List ℕ → List ℕ → Variant → List Live → List Live
assigned path prop value nodes = change_first (is_at path)
    (λ (n : Live). record n { values = change_first (λ (p : Prop). text_eq p.name prop) (with_value value) n.values }) nodes

-- where a node and its property stand: the first node at the path, and its first property with the name
pub record IsSpot (nodes : List Live) (path prop : List ℕ) (place at : ℕ) : Type 0 where
  pub node : Live
  pub there : slice_get nodes place ≡ Some node
  pub first : position (is_at path) nodes ≡ Some place
  pub named : position (λ (p : Prop). text_eq p.name prop) node.values ≡ Some at

-- a call finds the spot of a property, or there is a reason not to assign
abbrev pub FindsSpot : List Live → List ℕ → List ℕ → Option TreeNo → Result (ℕ × ℕ) TreeNo → Type 0
FindsSpot nodes path prop why result = MatchResult result (λ s. (why ≡ None) × IsSpot nodes path prop s.0 s.1) (λ e. why ≡ Some e)

-- a call makes these nodes, or it is refused for the reason that there is and changes nothing
abbrev pub Assigns : TreeOf → TreeOf → Option TreeNo → List Live → Result (Unit {0}) TreeNo → Type 0
Assigns old new why nodes result = MatchResult result (λ _. (why ≡ None) × (new ≡ record old { nodes = nodes })) (λ e. (why ≡ Some e) × (new ≡ old))

-- why a property at a place of the node at a place isn't assigned
abbrev pub assign_at_no : List Live → ℕ → ℕ → Variant → Option TreeNo
assign_at_no nodes place prop value = first_of (
    when (is_none (slice_get nodes place)) NoNode
    ∷ when (some_is (λ (n : Live). nat_le (length n.values) prop) (slice_get nodes place)) NoProp
    ∷ when (is_long value) ValueTooLong
    ∷ [])

-- the nodes after the assignment by places
abbrev pub assigned_at : ℕ → ℕ → Variant → List Live → List Live
assigned_at place prop value nodes = change_at place (λ (n : Live). record n { values = change_at prop (with_value value) n.values }) nodes

-- spawned nodes

-- fixed nodes stand first, then spawned ones by authority and number
abbrev pub row_before : Live → Live → Bool
row_before a b = not (is_spawned a) || (int_lt a.auth b.auth || (int_eq a.auth b.auth && nat_lt a.num b.num))

-- a spawned node with its scene's defaults
abbrev pub spawned_node : Scene → List ℕ → ℤ → ℕ → List ℕ → ℕ → Live
spawned_node s path auth num ids place = record { auth = auth; num = num; ids = ids; path = path; place = Some place; values = props_in (scene_at s place) }

-- why no node is added below a path
abbrev pub insert_no : List Live → List ℕ → List ℕ → Option TreeNo
insert_no nodes under name = first_of (
    when (is_none (live_at nodes under)) NoNode
    ∷ when (is_some (live_at nodes (joined under name))) NameTaken
    ∷ [])

-- whether a spawned node stands at a path
abbrev pub has_spawned : List Live → List ℕ → Bool
has_spawned nodes path = some_is is_spawned (live_at nodes path)

-- the nodes without the spawned one at a path
abbrev pub without_spawned : List ℕ → List Live → List Live
without_spawned path nodes = cond (has_spawned nodes path) (without_first (is_at path) nodes) nodes

-- whether a node is a spawned one of an authority
abbrev pub is_row_of : ℤ → Live → Bool
is_row_of auth n = is_spawned n && int_eq n.auth auth

-- the nodes without the spawned ones of an authority
abbrev pub without_rows : ℤ → List Live → List Live
without_rows auth nodes = filter (λ (n : Live). not (is_row_of auth n)) nodes

-- whether a node is the spawned one of an authority with this number of its own
abbrev pub is_row_with : ℤ → ℕ → Live → Bool
is_row_with auth num n = is_row_of auth n && nat_eq n.num num

-- a call is refused with this reason, or for want of memory
abbrev pub IsRefused : Option TreeNo → TreeNo → Type 0
IsRefused why OutOfMemory = Unit {0}
IsRefused why e = why ≡ Some e

-- a call gives the path of a node below another, or there is a reason to add none
abbrev pub NamesPath : List ℕ → List ℕ → Option TreeNo → Result (List ℕ) TreeNo → Type 0
NamesPath under name why result = MatchResult result (λ path. (path ≡ joined under name) × (why ≡ None)) (λ e. IsRefused why e)

-- a call puts this node in order among the others, or it is refused and changes nothing
abbrev pub Inserts : TreeOf → TreeOf → List ℕ → List ℕ → Live → Result (Unit {0}) TreeNo → Type 0
Inserts old new under name node result =
    MatchResult result (λ _. (insert_no old.nodes under name ≡ None) × (new ≡ record old { nodes = put_by row_before node old.nodes }))
    (λ e. IsRefused (insert_no old.nodes under name) e × (new ≡ old))
