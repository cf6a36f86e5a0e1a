-- How a value stands in a line.
use Rattle.std.specs.Prelude.{ℕ, Bool, true, false, List, [], ◌∷◌, Result, Ok, Err, codes, if◌then◌else◌}
use Rattle.std.specs.Str.{bytes_eq}
use Rattle.serde_json.specs.Data.{Data, null, boolean, number, string, array, object, Items, no_items, item, Members, no_members, member}
use Rattle.gd_variant.specs.declared.value.Variant.{Variant}
use Rattle.gd_variant.specs.declared.value.Variant.TheVariants as value
use Rattle.gd_variant.specs.declared.value.Pair.{Pair}
use Rattle.gd_variant.specs.Sound.{is_sound}
use Rattle.program_edge.specs.declared.status.LineWhy.{LineWhy}
use Rattle.program_edge.specs.declared.status.LineWhy.TheVariants.{Shape, Name, Range}
use Rattle.line_text.specs.Reading.{Reading, ◌>>=◌}
use Rattle.line_text.specs.Parts.{text_read, bool_read, nat_read, i64_read, i32_read, bytes_read, three_read, two_read, list_read, all_known}

-- whether it is absolute, its names, and the names of properties
unfoldable pub path_read : Reading Variant
path_read d = do
  ds ← three_read d
  absolute ← bool_read ds.0
  names ← list_read text_read ds.1
  subnames ← list_read text_read ds.2
  Ok (value.Path (record { absolute = absolute; names = names; subnames = subnames }))

-- the code of an integer vector, and its numbers
unfoldable pub ints_read : Reading Variant
ints_read d = do
  ds ← two_read d
  code ← nat_read 0 255 ds.0
  items ← list_read i32_read ds.1
  Ok (value.Ints (record { code = code; items = items }))

-- the code of a value of floats, whether they have eight bytes, and the bytes
unfoldable pub raw_read : Reading Variant
raw_read d = do
  ds ← three_read d
  code ← nat_read 0 255 ds.0
  wide ← bool_read ds.1
  bytes ← bytes_read ds.2
  Ok (value.Opaque (record { code = code; wide = wide; bytes = bytes }))

-- a packed array of numbers
unfoldable pub run_read : Bool → Reading Variant
run_read wide d = do
  items ← list_read (if wide then i64_read else i32_read) d
  Ok (value.PackedInts (record { wide = wide; items = items }))

-- a value that is written as an object with one key and holds no others, by that key
unfoldable pub flat_read : List ℕ → Reading Variant
flat_read k d =
    if bytes_eq k (codes "name") then (text_read d >>= λ t. Ok (value.Name t))
    else if bytes_eq k (codes "path") then path_read d
    else if bytes_eq k (codes "ints") then ints_read d
    else if bytes_eq k (codes "raw") then raw_read d
    else if bytes_eq k (codes "bytes") then (bytes_read d >>= λ b. Ok (value.PackedBytes b))
    else if bytes_eq k (codes "i32") then run_read false d
    else if bytes_eq k (codes "i64") then run_read true d
    else if bytes_eq k (codes "texts") then (list_read text_read d >>= λ ts. Ok (value.PackedTexts ts))
    else Err Name

-- the keys of values that are written as objects
abbrev pub value_keys : List (List ℕ)
value_keys = codes "name" ∷ codes "path" ∷ codes "ints" ∷ codes "raw" ∷ codes "dict" ∷ codes "bytes" ∷ codes "i32" ∷ codes "i64" ∷ codes "texts" ∷ []

-- what is wrong with an object of several keys that stands for a value
unfoldable pub keys_why : Members → LineWhy
keys_why ms = if all_known value_keys ms then Shape else Name

unfoldable mutual
  -- a value, and all that stands inside, whether or not it is sound
  pub form_read : Data → Result Variant LineWhy
  form_read null = Ok value.Nil
  form_read (boolean b) = Ok (value.Bool b)
  form_read (number n) = i64_read (number n) >>= λ z. Ok (value.Int z)
  form_read (string s) = text_read (string s) >>= λ t. Ok (value.Text t)
  form_read (array ds) = forms_read ds >>= λ vs. Ok (value.Array vs)
  form_read (object ms) = tagged_read ms

  -- several values
  pub forms_read : Items → Result (List Variant) LineWhy
  forms_read no_items = Ok []
  forms_read (item d ds) = do
    v ← form_read d
    vs ← forms_read ds
    Ok (v ∷ vs)

  -- an object with one known key
  pub tagged_read : Members → Result Variant LineWhy
  tagged_read no_members = Err Shape
  tagged_read (member k d no_members) = if bytes_eq k (codes "dict") then dict_read d else flat_read k d
  tagged_read (member k d (member l e ms)) = Err (keys_why (member k d (member l e ms)))

  -- the entries of a dictionary
  pub dict_read : Data → Result Variant LineWhy
  dict_read (array ds) = pairs_read ds >>= λ ps. Ok (value.Dict ps)
  dict_read null = Err Shape
  dict_read (boolean b) = Err Shape
  dict_read (number n) = Err Shape
  dict_read (string s) = Err Shape
  dict_read (object ms) = Err Shape

  pub pairs_read : Items → Result (List Pair) LineWhy
  pairs_read no_items = Ok []
  pairs_read (item d ds) = do
    p ← pair_read d
    ps ← pairs_read ds
    Ok (p ∷ ps)

  -- an array of a key and its value
  pub pair_read : Data → Result Pair LineWhy
  pair_read (array ds) = entry_read ds
  pair_read null = Err Shape
  pair_read (boolean b) = Err Shape
  pair_read (number n) = Err Shape
  pair_read (string s) = Err Shape
  pair_read (object ms) = Err Shape

  -- a key, its value and nothing else
  pub entry_read : Items → Result Pair LineWhy
  entry_read (item k (item v no_items)) = do
    key ← form_read k
    val ← form_read v
    Ok (record { key = key; value = val })
  entry_read no_items = Err Shape
  entry_read (item a no_items) = Err Shape
  entry_read (item a (item b (item c ds))) = Err Shape

-- a value, judged once it was read whole
unfoldable pub value_read : Data → Result Variant LineWhy
value_read d = do
  v ← form_read d
  if is_sound v then Ok v else Err Range
