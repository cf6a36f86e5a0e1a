-- A line of compact JSON, and the values that stand in one.
use Rattle.std.specs.Prelude.{ℕ, ℤ, List, [], ◌∷◌, ◌++◌}
use Rattle.hex.specs.Hex.{encode_lower}
use Rattle.serde_json.specs.Data.{Data, array, number, string, unsigned, object, member, no_members}
use Rattle.serde_json.specs.Find.{of_integer}
use Rattle.serde_json.specs.View.{items_of}
use Rattle.serde_json.specs.Written.{compact_text}

-- the line that is an array of these values, with its line feed
unfoldable pub line_of : List Data → List ℕ
line_of cells = compact_text (array (items_of cells)) ++ 10 ∷ []

-- a number with a sign
abbrev pub int_of : ℤ → Data
int_of z = number (of_integer z)

-- a number without a sign
abbrev pub nat_of : ℕ → Data
nat_of n = number (unsigned n)

-- bytes as hexadecimal
abbrev pub hex_of : List ℕ → Data
hex_of bytes = string (encode_lower bytes)

-- an object with one key
abbrev pub tagged_of : List ℕ → Data → Data
tagged_of key d = object (member key d no_members)
