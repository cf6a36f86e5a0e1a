-- From a plain tree back to the value that has it.
use Rattle.std.specs.Prelude.{List, [], ◌∷◌}
use Rattle.gd_variant.specs.declared.value.Variant.{Variant}
use Rattle.gd_variant.specs.declared.value.Pair.{Pair}
use Rattle.gd_variant.specs.declared.value.Variant.TheViews.{roll-Variant, roll-Pair}
use Rattle.gd_variant.specs.declared.value.Variant.TheOpen.{Variant-F, Pair-F}
use Rattle.gd_variant.specs.Tree.{Tree, Trees, nil, boolean, int, text, name, path, ints, opaque, dict, array, packed_bytes, packed_ints, packed_texts, none, item, PairTree}

abbrev mutual
  -- the value of a tree
  pub value_of : Tree → Variant
  value_of nil = roll-Variant Variant-F.Nil
  value_of (boolean b) = roll-Variant (Variant-F.Bool b)
  value_of (int z) = roll-Variant (Variant-F.Int z)
  value_of (text t) = roll-Variant (Variant-F.Text t)
  value_of (name t) = roll-Variant (Variant-F.Name t)
  value_of (path a ns ss) = roll-Variant (Variant-F.Path (record { absolute = a; names = ns; subnames = ss }))
  value_of (ints c zs) = roll-Variant (Variant-F.Ints (record { code = c; items = zs }))
  value_of (opaque c w bs) = roll-Variant (Variant-F.Opaque (record { code = c; wide = w; bytes = bs }))
  value_of (dict ts) = roll-Variant (Variant-F.Dict (pairs_from ts))
  value_of (array ts) = roll-Variant (Variant-F.Array (values_from ts))
  value_of (packed_bytes bs) = roll-Variant (Variant-F.PackedBytes bs)
  value_of (packed_ints w zs) = roll-Variant (Variant-F.PackedInts (record { wide = w; items = zs }))
  value_of (packed_texts ts) = roll-Variant (Variant-F.PackedTexts ts)

  -- the values of an array
  pub values_from : Trees → List Variant
  values_from none = []
  values_from (item t ts) = value_of t ∷ values_from ts

  -- the pairs of a dictionary; a key without a value is none
  pub pairs_from : Trees → List Pair
  pairs_from none = []
  pairs_from (item k none) = []
  pairs_from (item k (item v ts)) = roll-Pair (record { key = value_of k; value = value_of v }) ∷ pairs_from ts

-- the pair of a key and its value
abbrev pub pair_of : PairTree → Pair
pair_of p = roll-Pair (record { key = value_of p.key; value = value_of p.value })
