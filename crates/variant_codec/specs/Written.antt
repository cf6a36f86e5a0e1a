-- The form that is written: no padding but zeros, no shared bit, an Int as short as it can be.
use Rattle.std.specs.Prelude.{ℕ, ◌/◌, ◌+◌, ℤ, Bool, true, false, List, [], ◌∷◌, ◌++◌, length, nat_eq, nat_le, replicate, if◌then◌else◌}
use Rattle.std.specs.List.{flat_map}
use Rattle.std.specs.Int.{w8, w16, w32, w64}
use Rattle.byte_fields.specs.Fields.{word}
use Rattle.byte_fields.specs.Complement.{bits_of, half8, half16, half32, half64}
use Rattle.gd_variant.specs.Tree.{Tree, Trees, nil, boolean, int, text, name, path, ints, opaque, dict, array, packed_bytes, packed_ints, packed_texts, none, item}
use Rattle.gd_variant.specs.Size.{int_width}
use Rattle.gd_variant.specs.Sound.{element_size}
use Rattle.variant_codec.specs.Header.{header}
use Rattle.variant_codec.specs.Parts.{padding, path_flags, count}

-- a length, so many bytes, and zeros up to a multiple of 4
abbrev pub written_padded : List ℕ → List ℕ
written_padded s = word w32 (length s) ++ (s ++ replicate (padding (length s)) 0)

abbrev pub written_short : ℤ → List ℕ
written_short z = word w32 (bits_of half32 z)

abbrev pub written_long : ℤ → List ℕ
written_long z = word w64 (bits_of half64 z)

abbrev pub written_path : ℕ → List (List ℕ) → List (List ℕ) → List ℕ
written_path flags names subnames =
    word w32 (2147483648 + length names) ++ (word w32 (length subnames) ++ (word w32 flags ++ (flat_map written_padded names ++ flat_map written_padded subnames)))

abbrev pub written_opaque : ℕ → Bool → List ℕ → List ℕ
written_opaque code wide bytes = if nat_le 32 code then word w32 (length bytes / element_size code wide) ++ bytes else bytes

abbrev mutual
  -- the written binary form
  pub written : Tree → List ℕ
  written nil = header 0 false
  written (boolean x) = header 1 false ++ word w32 (if x then 1 else 0)
  written (int z) = if nat_le (int_width z) 4 then header 2 false ++ written_short z else header 2 true ++ written_long z
  written (text t) = header 4 false ++ written_padded t
  written (name t) = header 21 false ++ written_padded t
  written (path absolute names subnames) = header 22 false ++ written_path (path_flags absolute) names subnames
  written (ints code zs) = header code false ++ flat_map written_short zs
  written (opaque code wide bytes) = header code wide ++ written_opaque code wide bytes
  written (dict ts) = header 27 false ++ (word w32 (count ts / 2) ++ written_all ts)
  written (array ts) = header 28 false ++ (word w32 (count ts) ++ written_all ts)
  written (packed_bytes bytes) = header 29 false ++ written_padded bytes
  written (packed_ints false zs) = header 30 false ++ (word w32 (length zs) ++ flat_map written_short zs)
  written (packed_ints true zs) = header 31 false ++ (word w32 (length zs) ++ flat_map written_long zs)
  written (packed_texts ts) = header 34 false ++ (word w32 (length ts) ++ flat_map written_padded ts)

  -- the written forms of several trees
  pub written_all : Trees → List ℕ
  written_all none = []
  written_all (item t ts) = written t ++ written_all ts

-- a number with the fewest bytes
abbrev pub written_small_int : ℤ → List ℕ
written_small_int z =
    if nat_eq (int_width z) 1 then 2 ∷ word w8 (bits_of half8 z)
    else (if nat_eq (int_width z) 2 then 66 ∷ word w16 (bits_of half16 z)
    else (if nat_eq (int_width z) 4 then 130 ∷ word w32 (bits_of half32 z)
    else 194 ∷ word w64 (bits_of half64 z)))

-- the written compressed form
abbrev pub written_small : Tree → List ℕ
written_small (boolean false) = 1 ∷ []
written_small (boolean true) = 129 ∷ []
written_small (int z) = written_small_int z
written_small t = written t
