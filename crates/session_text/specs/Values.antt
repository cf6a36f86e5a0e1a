-- How values stand in a line of JSON.
use Rattle.std.specs.Prelude.{ℕ, ℤ, Bool, true, false, List, map, codes}
use Rattle.serde_json.specs.Data.{Data, null, boolean, string, array, Items, no_items, item}
use Rattle.serde_json.specs.View.{items_of}
use Rattle.gd_variant.specs.declared.value.Variant.{Variant}
use Rattle.gd_variant.specs.declared.value.Pair.{Pair}
use Rattle.gd_variant.specs.Tree.{Tree, Trees, plain}
use Rattle.gd_variant.specs.Tree as tree
use Rattle.session_text.specs.Json.{hex_of, int_of, nat_of, tagged_of}

-- an array of texts
abbrev pub texts_of : List (List ℕ) → Data
texts_of ts = array (items_of (map string ts))

-- an array of numbers
abbrev pub ints_of : List ℤ → Data
ints_of zs = array (items_of (map int_of zs))

-- a path: whether it is absolute, its names, and the names of properties
abbrev pub path_parts : Bool → List (List ℕ) → List (List ℕ) → Data
path_parts absolute names subnames = array (item (boolean absolute) (item (texts_of names) (item (texts_of subnames) no_items)))

abbrev pub path_of : Bool → List (List ℕ) → List (List ℕ) → Data
path_of absolute names subnames = tagged_of (codes "path") (path_parts absolute names subnames)

-- an integer vector: its code and its numbers
abbrev pub vector_parts : ℕ → List ℤ → Data
vector_parts code zs = array (item (nat_of code) (item (ints_of zs) no_items))

abbrev pub vector_of : ℕ → List ℤ → Data
vector_of code zs = tagged_of (codes "ints") (vector_parts code zs)

-- a value of floats: its code, whether they have eight bytes, and the bytes
abbrev pub opaque_parts : ℕ → Bool → List ℕ → Data
opaque_parts code wide bytes = array (item (nat_of code) (item (boolean wide) (item (hex_of bytes) no_items)))

abbrev pub opaque_of : ℕ → Bool → List ℕ → Data
opaque_of code wide bytes = tagged_of (codes "raw") (opaque_parts code wide bytes)

-- the key of an array of numbers
abbrev pub run_name : Bool → List ℕ
run_name true = codes "i64"
run_name false = codes "i32"

-- a key and its value
abbrev pub pair_data : Data → Data → Data
pair_data key value = array (item key (item value no_items))

abbrev mutual
  -- the tree of a value
  pub tree_data : Tree → Data
  tree_data tree.nil = null
  tree_data (tree.boolean b) = boolean b
  tree_data (tree.int z) = int_of z
  tree_data (tree.text t) = string t
  tree_data (tree.name t) = tagged_of (codes "name") (string t)
  tree_data (tree.path absolute names subnames) = path_of absolute names subnames
  tree_data (tree.ints code zs) = vector_of code zs
  tree_data (tree.opaque code wide bytes) = opaque_of code wide bytes
  tree_data (tree.dict ts) = tagged_of (codes "dict") (array (pairs_data ts))
  tree_data (tree.array ts) = array (trees_data ts)
  tree_data (tree.packed_bytes bytes) = tagged_of (codes "bytes") (hex_of bytes)
  tree_data (tree.packed_ints wide zs) = tagged_of (run_name wide) (ints_of zs)
  tree_data (tree.packed_texts ts) = tagged_of (codes "texts") (texts_of ts)

  -- several values
  pub trees_data : Trees → Items
  trees_data tree.none = no_items
  trees_data (tree.item t ts) = item (tree_data t) (trees_data ts)

  -- keys and values in turn, as pairs
  pub pairs_data : Trees → Items
  pairs_data tree.none = no_items
  pairs_data (tree.item key tree.none) = no_items
  pairs_data (tree.item key (tree.item value ts)) = item (pair_data (tree_data key) (tree_data value)) (pairs_data ts)

-- a value in a line
abbrev pub value_of : Variant → Data
value_of v = tree_data (plain v)

-- an entry of a dictionary in a line
abbrev pub pair_of : Pair → Data
pair_of p = pair_data (value_of p.key) (value_of p.value)

-- an array of entries
abbrev pub pairs_of : List Pair → Data
pairs_of ps = array (items_of (map pair_of ps))

-- an array of values
abbrev pub values_of : List Variant → Data
values_of vs = array (items_of (map value_of vs))
