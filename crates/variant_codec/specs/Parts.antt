-- What stands inside a form, by relations between a part and its bytes.
use Rattle.std.specs.Prelude.{◌≡◌, ℕ, suc, ◌+◌, ◌-◌, ◌%◌, ◌^◌, ◌<◌, ℤ, Bool, true, false, not, List, [], ◌∷◌, ◌++◌, length, nat_eq, ◌⊎◌}
use Rattle.std.specs.Int.{w32, w64}
use Rattle.byte_fields.specs.Fields.{word}
use Rattle.byte_fields.specs.Complement.{IsWithin, bits_of, half32, half64}
use Rattle.gd_variant.specs.Tree.{Trees, none, item}
use Rattle.gd_variant.specs.Sound.{is_text}
use Rattle.variant_codec.specs.Header.{header}

-- how many bytes fill up to a multiple of 4
abbrev pub padding : ℕ → ℕ
padding n = (4 - n % 4) % 4

-- a length, so many bytes, and any padding
pub record Padded (s b : List ℕ) : Type 0 where
  pub pad : List ℕ
  pub short : length s < 2 ^ 32
  pub full : length pad ≡ padding (length s)
  pub form : b ≡ word w32 (length s) ++ (s ++ pad)

-- a text behind its length
abbrev pub SpellsText : List ℕ → List ℕ → Type 0
SpellsText t b = (is_text t ≡ true) × Padded t b

-- a text of a packed array: one zero byte may stand at its end, and isn't part of it
abbrev pub SpellsElement : List ℕ → List ℕ → Type 0
SpellsElement t b = (is_text t ≡ true) × (Padded t b ⊎ Padded (t ++ 0 ∷ []) b)

-- a number of 32 and of 64 bits in two's complement
abbrev pub SpellsShort : ℤ → List ℕ → Type 0
SpellsShort z b = IsWithin half32 z × (b ≡ word w32 (bits_of half32 z))

abbrev pub SpellsLong : ℤ → List ℕ → Type 0
SpellsLong z b = IsWithin half64 z × (b ≡ word w64 (bits_of half64 z))

-- one part after the other
abbrev pub SpellsEach : {X : Type 0} → (X → List ℕ → Type 0) → List X → List ℕ → Type 0
SpellsEach R [] b = b ≡ []
SpellsEach R (x ∷ xs) b = (front : List ℕ) × (rest : List ℕ) × R x front × SpellsEach R xs rest × (b ≡ front ++ rest)

-- a header, and a body behind it
pub record Headed (code : ℕ) (wide : Bool) (R : List ℕ → Type 0) (b : List ℕ) : Type 0 where
  pub body : List ℕ
  pub right : R body
  pub form : b ≡ header code wide ++ body

-- a count, and what it counts
pub record Numbered (n : ℕ) (R : List ℕ → Type 0) (b : List ℕ) : Type 0 where
  pub body : List ℕ
  pub short : n < 2 ^ 32
  pub right : R body
  pub form : b ≡ word w32 n ++ body

-- bit 31 of a count
abbrev pub shared : Bool → ℕ
shared true = 2147483648
shared false = 0

-- a count of 31 bits with or without the shared bit, and what it counts
pub record Counted (n : ℕ) (R : List ℕ → Type 0) (b : List ℕ) : Type 0 where
  pub bit : Bool
  pub body : List ℕ
  pub short : n < 2 ^ 31
  pub right : R body
  pub form : b ≡ word w32 (n + shared bit) ++ body

-- any word but 0 is true
abbrev pub truth : ℕ → Bool
truth n = not (nat_eq n 0)

pub record SpellsBool (x : Bool) (b : List ℕ) : Type 0 where
  pub bits : ℕ
  pub fits : bits < 2 ^ 32
  pub is : truth bits ≡ x
  pub form : b ≡ word w32 bits

-- the number of names with bit 31 set, the number of subnames, the flags, then the names and the subnames
pub record SpellsPath (flags : ℕ) (names subnames : List (List ℕ)) (b : List ℕ) : Type 0 where
  pub names_bytes : List ℕ
  pub subnames_bytes : List ℕ
  pub names_fit : length names < 2 ^ 31
  pub subnames_fit : length subnames < 2 ^ 32
  pub names_right : SpellsEach SpellsText names names_bytes
  pub subnames_right : SpellsEach SpellsText subnames subnames_bytes
  pub form : b ≡ word w32 (2147483648 + length names) ++ (word w32 (length subnames) ++ (word w32 flags ++ (names_bytes ++ subnames_bytes)))

-- the only flag of a path, bit 0: it is absolute
abbrev pub path_flags : Bool → ℕ
path_flags true = 1
path_flags false = 0

-- how many trees a list has
abbrev pub count : Trees → ℕ
count none = 0
count (item t ts) = suc (count ts)
