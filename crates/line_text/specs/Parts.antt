-- The parts of a line: texts, truth values, numbers, arrays of a length, objects of known keys.
use Rattle.std.specs.Prelude.{ℕ, ℤ, pos, Bool, true, ◌&&◌, List, Option, Some, None, Result, Ok, Err, nat_le, nat_lt, if◌then◌else◌, ◌^◌}
use Rattle.serde_json.specs.Data.{Data, unsigned, negative, float, null, boolean, number, string, array, object, Items, no_items, item, Members, no_members, member}
use Rattle.serde_json.specs.Find.{get_member}
use Rattle.hex.specs.Hex.{decode_of}
use Rattle.hex.specs.declared.error.FromHexError.{FromHexError}
use Rattle.gd_variant.specs.Words.{has_text}
use Rattle.gd_variant.specs.Sound.{has_no_zero, is_short}
use Rattle.program_edge.specs.declared.status.LineWhy.{LineWhy}
use Rattle.program_edge.specs.declared.status.LineWhy.TheVariants.{Shape, Name, Hex, Range}
use Rattle.line_text.specs.Reading.{Reading, ◌>>=◌, each_read}

-- any text
unfoldable pub word_read : Reading (List ℕ)
word_read (string s) = Ok s
word_read null = Err Shape
word_read (boolean b) = Err Shape
word_read (number n) = Err Shape
word_read (array ds) = Err Shape
word_read (object ms) = Err Shape

-- a text that is kept, so without a zero byte
unfoldable pub text_read : Reading (List ℕ)
text_read d = do
  s ← word_read d
  if has_no_zero s then Ok s else Err Range

unfoldable pub bool_read : Reading Bool
bool_read (boolean b) = Ok b
bool_read null = Err Shape
bool_read (string s) = Err Shape
bool_read (number n) = Err Shape
bool_read (array ds) = Err Shape
bool_read (object ms) = Err Shape

-- a whole number from low to high
unfoldable pub nat_read : ℕ → ℕ → Reading ℕ
nat_read low high (number (unsigned n)) = if nat_le low n && nat_le n high then Ok n else Err Range
nat_read low high (number (negative z)) = Err Range
nat_read low high (number (float x)) = Err Shape
nat_read low high null = Err Shape
nat_read low high (boolean b) = Err Shape
nat_read low high (string s) = Err Shape
nat_read low high (array ds) = Err Shape
nat_read low high (object ms) = Err Shape

-- a signed number of 64 bits
unfoldable pub i64_read : Reading ℤ
i64_read (number (unsigned n)) = if nat_lt n (2 ^ 63) then Ok (pos n) else Err Range
i64_read (number (negative z)) = Ok z
i64_read (number (float x)) = Err Shape
i64_read null = Err Shape
i64_read (boolean b) = Err Shape
i64_read (string s) = Err Shape
i64_read (array ds) = Err Shape
i64_read (object ms) = Err Shape

-- a signed number of 32 bits
unfoldable pub i32_read : Reading ℤ
i32_read d = do
  z ← i64_read d
  if is_short z then Ok z else Err Range

-- what hexadecimal digits stand for
abbrev pub decoded : Result (List ℕ) FromHexError → Result (List ℕ) LineWhy
decoded (Ok bytes) = Ok bytes
decoded (Err e) = Err Hex

-- bytes in hexadecimal
unfoldable pub bytes_read : Reading (List ℕ)
bytes_read d = do
  s ← word_read d
  decoded (decode_of s)

-- an array of any length
unfoldable pub array_read : Reading Items
array_read (array ds) = Ok ds
array_read null = Err Shape
array_read (boolean b) = Err Shape
array_read (number n) = Err Shape
array_read (string s) = Err Shape
array_read (object ms) = Err Shape

-- no items
unfoldable pub none_of : Items → Result (Unit {0}) LineWhy
none_of no_items = Ok tt
none_of (item d ds) = Err Shape

-- one item and no more
unfoldable pub one_of : Items → Result Data LineWhy
one_of (item d no_items) = Ok d
one_of no_items = Err Shape
one_of (item d (item e ds)) = Err Shape

-- two items and no more
unfoldable pub two_of : Items → Result (Data × Data) LineWhy
two_of (item a (item b no_items)) = Ok (a, b)
two_of no_items = Err Shape
two_of (item a no_items) = Err Shape
two_of (item a (item b (item c ds))) = Err Shape

-- three items and no more
unfoldable pub three_of : Items → Result (Data × Data × Data) LineWhy
three_of (item a (item b (item c no_items))) = Ok (a, b, c)
three_of no_items = Err Shape
three_of (item a no_items) = Err Shape
three_of (item a (item b no_items)) = Err Shape
three_of (item a (item b (item c (item d ds)))) = Err Shape

-- an array of two values
unfoldable pub two_read : Reading (Data × Data)
two_read d = array_read d >>= two_of

-- an array of three values
unfoldable pub three_read : Reading (Data × Data × Data)
three_read d = array_read d >>= three_of

-- an array, each item read alike
unfoldable pub list_read : {X : Type 0} → Reading X → Reading (List X)
list_read read d = array_read d >>= each_read read

-- whether each key of an object is known
abbrev pub all_known : List (List ℕ) → Members → Bool
all_known known no_members = true
all_known known (member k d ms) = has_text k known && all_known known ms

-- an object that has no other keys than these
unfoldable pub object_read : List (List ℕ) → Reading Members
object_read known (object ms) = if all_known known ms then Ok ms else Err Name
object_read known null = Err Shape
object_read known (boolean b) = Err Shape
object_read known (number n) = Err Shape
object_read known (string s) = Err Shape
object_read known (array ds) = Err Shape

-- what an option holds, where it has to be there
abbrev pub there : Option Data → Result Data LineWhy
there None = Err Shape
there (Some d) = Ok d

-- the value of a key that may not be missing
unfoldable pub key_read : List ℕ → Members → Result Data LineWhy
key_read k ms = there (get_member k ms)

-- the value of a key that may be missing, with its default
unfoldable pub optional : {X : Type 0} → X → Reading X → Option Data → Result X LineWhy
optional default read None = Ok default
optional default read (Some d) = read d

-- a key that may not be missing, read
abbrev pub needed : {X : Type 0} → Reading X → List ℕ → Members → Result X LineWhy
needed read k ms = key_read k ms >>= read

-- a key that may be missing, read
abbrev pub or_default : {X : Type 0} → X → Reading X → List ℕ → Members → Result X LineWhy
or_default default read k ms = optional default read (get_member k ms)
