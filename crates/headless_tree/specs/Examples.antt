-- A small tree, and what the definitions make of it: the fixed nodes s and b, and spawned nodes below s.
use Rattle.std.specs.Prelude.{◌≡◌, ℕ, ℤ, true, false, pos, List, [], ◌∷◌, Some, None}
use Rattle.gd_variant.specs.Words.{put_by}
use Rattle.gd_variant.specs.declared.value.Variant.TheVariants.{Int}
use Rattle.scene_model.specs.declared.scene.Prop.{Prop}
use Rattle.scene_model.specs.Nodes.{Live}
use Rattle.headless_tree.specs.declared.node.TreeNo.TheVariants.{NoNode, NameTaken, NoProp}
use Rattle.headless_tree.specs.Order.{are_in_order}
use Rattle.headless_tree.specs.Nodes.{row_before, insert_no, assign_no, assigned, without_spawned, without_rows, value_at}

-- the properties of a node with one: v
abbrev pub one : ℕ → List Prop
one n = record { name = 118 ∷ []; value = Int (pos n) } ∷ []

-- the fixed nodes s and b
abbrev pub fixed_s : Live
fixed_s = record { auth = pos 1; num = 0; ids = []; path = 115 ∷ []; place = None; values = [] }

abbrev pub fixed_b : Live
fixed_b = record { auth = pos 1; num = 0; ids = []; path = 98 ∷ []; place = None; values = one 10 }

-- a node below s, by its authority, its number and the last character of its path, with a value of v
abbrev pub below_s : ℤ → ℕ → ℕ → ℕ → Live
below_s auth num last v = record { auth = auth; num = num; ids = []; path = 115 ∷ 47 ∷ last ∷ []; place = Some 0; values = one v }

-- s, b, s/p and s/q of the first authority, and s/z of the second
abbrev pub small_tree : List Live
small_tree = fixed_s ∷ fixed_b ∷ below_s (pos 1) 1 112 0 ∷ below_s (pos 1) 3 113 0 ∷ below_s (pos 2) 1 122 0 ∷ []

-- a node goes behind the fixed ones, among the rows of its authority by its number
abbrev pub GoesByNumber : Type 0
GoesByNumber = put_by row_before (below_s (pos 1) 3 113 0) (fixed_s ∷ fixed_b ∷ below_s (pos 1) 1 112 0 ∷ below_s (pos 2) 1 122 0 ∷ []) ≡ small_tree

-- and before those of a later authority, also with a greater number
abbrev pub GoesByAuthority : Type 0
GoesByAuthority = put_by row_before (below_s (pos 2) 1 122 0) (fixed_s ∷ fixed_b ∷ below_s (pos 1) 1 112 0 ∷ below_s (pos 1) 3 113 0 ∷ []) ≡ small_tree

-- so the nodes stand in order, and those of a later authority don't stand first
abbrev pub InOrder : Type 0
InOrder = are_in_order small_tree ≡ true

abbrev pub OutOfOrder : Type 0
OutOfOrder = are_in_order (below_s (pos 2) 1 122 0 ∷ below_s (pos 1) 3 113 0 ∷ []) ≡ false

-- no node below one that isn't there, and none at a path that is taken
abbrev pub NoParent : Type 0
NoParent = insert_no small_tree (120 ∷ []) (112 ∷ []) ≡ Some NoNode

abbrev pub TakenPath : Type 0
TakenPath = insert_no small_tree (115 ∷ []) (112 ∷ []) ≡ Some NameTaken

abbrev pub FreePath : Type 0
FreePath = insert_no small_tree (115 ∷ []) (120 ∷ []) ≡ None

-- a fixed node isn't removed, a spawned one is
abbrev pub FixedStays : Type 0
FixedStays = without_spawned (98 ∷ []) small_tree ≡ small_tree

abbrev pub SpawnedGoes : Type 0
SpawnedGoes = without_spawned (115 ∷ 47 ∷ 113 ∷ []) small_tree ≡ fixed_s ∷ fixed_b ∷ below_s (pos 1) 1 112 0 ∷ below_s (pos 2) 1 122 0 ∷ []

-- the rows of an authority go together, its fixed nodes stay
abbrev pub RowsGo : Type 0
RowsGo = without_rows (pos 1) small_tree ≡ fixed_s ∷ fixed_b ∷ below_s (pos 2) 1 122 0 ∷ []

-- an assignment changes one property of one node
abbrev pub OneChanges : Type 0
OneChanges = assigned (115 ∷ 47 ∷ 113 ∷ []) (118 ∷ []) (Int (pos 5)) small_tree ≡ fixed_s ∷ fixed_b ∷ below_s (pos 1) 1 112 0 ∷ below_s (pos 1) 3 113 5 ∷ below_s (pos 2) 1 122 0 ∷ []

abbrev pub ValueIsThere : Type 0
ValueIsThere = value_at small_tree (98 ∷ []) (118 ∷ []) ≡ Some (Int (pos 10))

-- a node without the property
abbrev pub LacksProperty : Type 0
LacksProperty = assign_no small_tree (115 ∷ []) (118 ∷ []) (Int (pos 5)) ≡ Some NoProp
