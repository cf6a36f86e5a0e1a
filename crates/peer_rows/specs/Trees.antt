-- Dictionaries and arrays: the plain trees of values, and what is asked of a tree.
use Rattle.std.specs.Prelude.{◌≡◌, ℕ, zero, suc, pos, true, false, List, [], ◌∷◌, ◌++◌, codes}
use Rattle.gd_variant.specs.declared.value.Variant.{Variant}
use Rattle.gd_variant.specs.declared.value.Pair.{Pair}
use Rattle.gd_variant.specs.declared.value.Variant.TheVariants.{Int, Text, Dict, Array}
use Rattle.gd_variant.specs.Tree.{Tree, int, array, dict, none, item, plain, plains, plain_pairs, tree_eq, same_value}
use Rattle.gd_variant.specs.Size.{value_size, small_size}
use Rattle.gd_variant.specs.Sound.{is_sound, is_sound_tree}

-- a dictionary's tree has its keys and values in turn, an array's its values, each by its own tree
abbrev pub ContainersAreTrees : Type 0
ContainersAreTrees = ((pairs : List Pair) → plain (Dict pairs) ≡ dict (plain_pairs pairs)) × ((values : List Variant) → plain (Array values) ≡ array (plains values))

abbrev pub entry : ℕ → Variant → Pair
entry key value = record { key = Int (pos key); value = value }

abbrev pub few : List Variant
few = Int (pos 5) ∷ Text (codes "hi") ∷ []

abbrev pub few_by_key : List Pair
few_by_key = entry 1 (Int (pos 5)) ∷ entry 2 (Int (pos 6)) ∷ []

abbrev pub other_order : List Pair
other_order = entry 2 (Int (pos 6)) ∷ entry 1 (Int (pos 5)) ∷ []

abbrev pub key_twice : List Pair
key_twice = few_by_key ++ entry 1 (Int (pos 7)) ∷ []

abbrev pub more : List Variant
more = few ++ few

-- their sizes, the same in both forms
abbrev pub ContainerSizes : Type 0
ContainerSizes = (value_size (Array few) ≡ 28) × (small_size (Array few) ≡ 28) × (value_size (Dict few_by_key) ≡ 40) × (small_size (Dict few_by_key) ≡ 40)

-- equal ones have equal members in one order
abbrev pub EqualContainers : Type 0
EqualContainers = (same_value (Array few) (Array few) ≡ true) × (same_value (Array few) (Array more) ≡ false) × (same_value (Array few) (Array []) ≡ false) × (same_value (Dict few_by_key) (Dict few_by_key) ≡ true)
    × (same_value (Dict few_by_key) (Dict other_order) ≡ false) × (same_value (Dict []) (Array []) ≡ false)

-- no key stands twice
abbrev pub KeysAreDistinct : Type 0
KeysAreDistinct = (is_sound (Dict few_by_key) ≡ true) × (is_sound (Dict key_twice) ≡ false)

-- arrays in one another, and dictionaries
abbrev pub deep_array : ℕ → Tree
deep_array zero = array none
deep_array (suc n) = array (item (deep_array n) none)

abbrev pub deep_dict : ℕ → Tree
deep_dict zero = dict none
deep_dict (suc n) = dict (item (int (pos 1)) (item (deep_dict n) none))

-- thirty-two deep they are carried, and no deeper
abbrev pub DeepestNesting : Type 0
DeepestNesting = (is_sound_tree (deep_array 31) ≡ true) × (is_sound_tree (deep_array 32) ≡ false) × (is_sound_tree (deep_dict 31) ≡ true) × (is_sound_tree (deep_dict 32) ≡ false)

-- the order of keys is seen deep inside too
abbrev pub EqualTrees : Type 0
EqualTrees = (tree_eq (deep_dict 4) (deep_dict 4) ≡ true) × (tree_eq (deep_dict 4) (deep_dict 5) ≡ false) × (tree_eq (deep_array 4) (deep_dict 4) ≡ false)
