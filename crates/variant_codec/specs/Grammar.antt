-- The forms of a value, one case a kind (Godot: Binary serialization API).
use Rattle.std.specs.Prelude.{◌≡◌, ℕ, ◌*◌, ◌/◌, ℤ, Bool, true, false, List, [], ◌∷◌, ◌++◌, length, nat_eq, nat_le, ◌⊎◌, if◌then◌else◌}
use Rattle.std.specs.Int.{w8, w16, w32, w64}
use Rattle.byte_fields.specs.Fields.{word}
use Rattle.byte_fields.specs.Complement.{IsWithin, bits_of, half8, half16, half32, half64}
use Rattle.gd_variant.specs.Tree.{Tree, Trees, nil, boolean, int, text, name, path, ints, opaque, dict, array, packed_bytes, packed_ints, packed_texts, none, item}
use Rattle.gd_variant.specs.Sound.{ints_count, element_size, opaque_right, keys_distinct}
use Rattle.variant_codec.specs.Parts.{Padded, SpellsText, SpellsElement, SpellsShort, SpellsLong, SpellsEach, Headed, Numbered, Counted, SpellsBool, SpellsPath, path_flags, count}

-- an integer vector has as many numbers as its type has
abbrev pub SpellsInts : ℕ → List ℤ → List ℕ → Type 0
SpellsInts code zs b = (nat_eq (ints_count code) 0 ≡ false) × (length zs ≡ ints_count code) × SpellsEach SpellsShort zs b

-- floats are their bytes; a packed array has the number of its elements in front
abbrev pub SpellsOpaque : ℕ → Bool → List ℕ → List ℕ → Type 0
SpellsOpaque code wide bytes b = (opaque_right code wide (length bytes) ≡ true) × (b ≡ if nat_le 32 code then word w32 (length bytes / element_size code wide) ++ bytes else bytes)

abbrev mutual
  -- the bytes are a form of the tree
  pub Spells : Tree → List ℕ → Type 0
  Spells nil b = Headed 0 false (λ body. body ≡ []) b
  Spells (boolean x) b = Headed 1 false (SpellsBool x) b
  Spells (int z) b = Headed 2 false (SpellsShort z) b ⊎ Headed 2 true (SpellsLong z) b
  Spells (text t) b = Headed 4 false (SpellsText t) b
  Spells (name t) b = Headed 21 false (SpellsText t) b
  Spells (path absolute names subnames) b = Headed 22 false (SpellsPath (path_flags absolute) names subnames) b
  Spells (ints code zs) b = Headed code false (SpellsInts code zs) b
  Spells (opaque code wide bytes) b = Headed code wide (SpellsOpaque code wide bytes) b
  Spells (dict ts) b = (keys_distinct ts ≡ true) × (n : ℕ) × (count ts ≡ 2 * n) × Headed 27 false (Counted n (λ body. SpellsAll ts body)) b
  Spells (array ts) b = Headed 28 false (Counted (count ts) (λ body. SpellsAll ts body)) b
  Spells (packed_bytes bytes) b = Headed 29 false (Padded bytes) b
  Spells (packed_ints false zs) b = Headed 30 false (Numbered (length zs) (SpellsEach SpellsShort zs)) b
  Spells (packed_ints true zs) b = Headed 31 false (Numbered (length zs) (SpellsEach SpellsLong zs)) b
  Spells (packed_texts ts) b = Headed 34 false (Numbered (length ts) (SpellsEach SpellsElement ts)) b

  -- forms one after the other
  pub SpellsAll : Trees → List ℕ → Type 0
  SpellsAll none b = b ≡ []
  SpellsAll (item t ts) b = (front : List ℕ) × (rest : List ℕ) × Spells t front × SpellsAll ts rest × (b ≡ front ++ rest)

-- the compressed forms of a number: 1, 2, 4 or 8 bytes in two's complement
abbrev pub SpellsSmallInt : ℤ → List ℕ → Type 0
SpellsSmallInt z b =
    (IsWithin half8 z × (b ≡ 2 ∷ word w8 (bits_of half8 z)))
    ⊎ ((IsWithin half16 z × (b ≡ 66 ∷ word w16 (bits_of half16 z)))
    ⊎ ((IsWithin half32 z × (b ≡ 130 ∷ word w32 (bits_of half32 z)))
    ⊎ (IsWithin half64 z × (b ≡ 194 ∷ word w64 (bits_of half64 z)))))

-- the bytes are a compressed form of the tree
abbrev pub SpellsSmall : Tree → List ℕ → Type 0
SpellsSmall (boolean false) b = b ≡ 1 ∷ []
SpellsSmall (boolean true) b = b ≡ 129 ∷ []
SpellsSmall (int z) b = SpellsSmallInt z b
SpellsSmall t b = Spells t b
