-- Reading a value from left to right, with the first fault that is met.
use Rattle.std.specs.Prelude.{ℕ, zero, suc, ◌+◌, ◌-◌, ◌*◌, ℤ, Bool, true, false, List, [], length, take, drop, slice_index_or, Ok, Err, nat_eq, nat_lt, if◌then◌else◌}
use Rattle.std.specs.Int.{Width, w8, w16, w32, w64}
use Rattle.byte_fields.specs.Fields.{fault, number_at}
use Rattle.byte_fields.specs.Complement.{signed_of, half8, half16, half32, half64}
use Rattle.gd_variant.specs.declared.message.Why.TheVariants.{HeaderBits, Kind, NotCarried, Utf8, Depth, OldPath, PathFlags, RepeatedKey}
use Rattle.gd_variant.specs.Tree.{Tree, nil, boolean, int, text, name, path, ints, opaque, dict, array, packed_bytes, packed_ints, packed_texts, trees_of, PairTree, pairs_of}
use Rattle.gd_variant.specs.Sound.{is_text, ints_count, components, at_or, component_size, element_size}
use Rattle.variant_codec.specs.declared.form.Form.{Form}
use Rattle.variant_codec.specs.declared.form.Form.TheVariants as form
use Rattle.variant_codec.specs.Header.{code_in, is_wide, is_kind, is_carried, has_right_flags, has_room, form_of}
use Rattle.variant_codec.specs.Parts.{padding, truth}
use Rattle.variant_codec.specs.Readers.{Reader, raw_at, done_at, mapped_by, checked_by, then_by, list_by, whole_by}
use Rattle.variant_codec.specs.Tests.{most_levels, stripped, without_bit, has_names_bit, is_path_flags, is_new_to}

-- a header, by the order of its faults
unfoldable pub header_at : Bool → Reader ℕ
header_at room = checked_by (has_room room) Depth (checked_by has_right_flags HeaderBits (checked_by is_carried NotCarried (checked_by is_kind Kind (number_at w32))))

-- n bytes, and their padding
unfoldable pub padded_of : ℕ → Reader (List ℕ)
padded_of n = mapped_by (take n) (raw_at (n + padding n))

unfoldable pub padded_at : Reader (List ℕ)
padded_at = then_by (number_at w32) padded_of

unfoldable pub text_at : Reader (List ℕ)
text_at = then_by (number_at w32) (λ n. checked_by is_text Utf8 (padded_of n))

unfoldable pub element_at : Reader (List ℕ)
element_at = then_by (number_at w32) (λ n. checked_by is_text Utf8 (mapped_by stripped (padded_of n)))

unfoldable pub short_at : Reader ℤ
short_at = mapped_by (signed_of half32) (number_at w32)

unfoldable pub long_at : Reader ℤ
long_at = mapped_by (signed_of half64) (number_at w64)

-- so many numbers, texts or elements
abbrev pub shorts_of : ℕ → Reader (List ℤ)
shorts_of n = list_by (λ _. short_at) [] n

abbrev pub longs_of : ℕ → Reader (List ℤ)
longs_of n = list_by (λ _. long_at) [] n

abbrev pub texts_of : ℕ → Reader (List (List ℕ))
texts_of n = list_by (λ _. text_at) [] n

abbrev pub elements_of : ℕ → Reader (List (List ℕ))
elements_of n = list_by (λ _. element_at) [] n

unfoldable pub bool_at : Reader Tree
bool_at = mapped_by (λ n. boolean (truth n)) (number_at w32)

unfoldable pub int_at : Bool → Reader Tree
int_at wide = mapped_by int (if wide then long_at else short_at)

unfoldable pub names_at : Reader ℕ
names_at = checked_by has_names_bit OldPath (number_at w32)

unfoldable pub flags_at : Reader ℕ
flags_at = checked_by is_path_flags PathFlags (number_at w32)

unfoldable pub path_of : Bool → ℕ → ℕ → Reader Tree
path_of absolute n m = then_by (texts_of n) (λ names. mapped_by (λ subnames. path absolute names subnames) (texts_of m))

unfoldable pub path_at : Reader Tree
path_at = then_by names_at (λ n. then_by (number_at w32) (λ m. then_by flags_at (λ f. path_of (nat_eq f 1) (n - 2147483648) m)))

unfoldable pub ints_at : ℕ → Reader Tree
ints_at code = mapped_by (λ zs. ints code zs) (whole_by (4 * ints_count code) (shorts_of (ints_count code)))

unfoldable pub fixed_at : ℕ → Bool → Reader Tree
fixed_at code wide = mapped_by (λ s. opaque code wide s) (raw_at (at_or code components * component_size wide))

unfoldable pub packed_at : ℕ → Bool → Reader Tree
packed_at code wide = then_by (number_at w32) (λ n. mapped_by (λ s. opaque code wide s) (raw_at (n * element_size code wide)))

unfoldable pub bytes_at : Reader Tree
bytes_at = mapped_by packed_bytes padded_at

unfoldable pub packed_shorts_at : Reader Tree
packed_shorts_at = then_by (number_at w32) (λ n. mapped_by (λ zs. packed_ints false zs) (whole_by (4 * n) (shorts_of n)))

unfoldable pub packed_longs_at : Reader Tree
packed_longs_at = then_by (number_at w32) (λ n. mapped_by (λ zs. packed_ints true zs) (whole_by (8 * n) (longs_of n)))

unfoldable pub packed_texts_at : Reader Tree
packed_texts_at = then_by (number_at w32) (λ n. mapped_by packed_texts (elements_of n))

unfoldable pub array_by : Reader Tree → Reader Tree
array_by values = then_by (number_at w32) (λ n. mapped_by (λ ts. array (trees_of ts)) (list_by (λ _. values) [] (without_bit n)))

abbrev pub pair_tree : Tree → Tree → PairTree
pair_tree k v = record { key = k; value = v }

-- a key that none of the earlier pairs has, and its value
unfoldable pub pair_by : Reader Tree → List PairTree → Reader PairTree
pair_by values before = then_by (checked_by (is_new_to before) RepeatedKey values) (λ k. mapped_by (pair_tree k) values)

unfoldable pub dict_by : Reader Tree → Reader Tree
dict_by values = then_by (number_at w32) (λ n. mapped_by (λ ps. dict (pairs_of ps)) (list_by (pair_by values) [] (without_bit n)))

-- what stands behind a header; values reads what stands inside
unfoldable pub body_by : Reader Tree → Form → ℕ → Bool → Reader Tree
body_by values form.Nil code wide = done_at nil
body_by values form.Bool code wide = bool_at
body_by values form.Int code wide = int_at wide
body_by values form.Text code wide = mapped_by text text_at
body_by values form.Name code wide = mapped_by name text_at
body_by values form.Path code wide = path_at
body_by values form.Ints code wide = ints_at code
body_by values form.Fixed code wide = fixed_at code wide
body_by values form.Dict code wide = dict_by values
body_by values form.Array code wide = array_by values
body_by values form.Bytes code wide = bytes_at
body_by values form.Shorts code wide = packed_shorts_at
body_by values form.Longs code wide = packed_longs_at
body_by values form.Texts code wide = packed_texts_at
body_by values form.Elements code wide = packed_at code wide

-- a value of so many levels at most; a value that holds none has one
unfoldable pub value_at : ℕ → Reader Tree
value_at zero bytes = Err (fault (length bytes) Depth)
value_at (suc n) bytes = then_by (header_at (nat_lt 0 n)) (λ head. body_by (value_at n) (form_of (code_in head)) (code_in head) (is_wide head)) bytes

-- a compressed number behind its first byte
unfoldable pub small_int_at : Width → ℕ → Reader Tree
small_int_at w half = mapped_by (λ n. int (signed_of half n)) (number_at w)

-- a compressed form, by its first byte
unfoldable pub small_by : ℕ → Reader Tree
small_by first bytes =
    if nat_eq first 1 then Ok (boolean false, drop 1 bytes)
    else (if nat_eq first 129 then Ok (boolean true, drop 1 bytes)
    else (if nat_eq first 2 then small_int_at w8 half8 (drop 1 bytes)
    else (if nat_eq first 66 then small_int_at w16 half16 (drop 1 bytes)
    else (if nat_eq first 130 then small_int_at w32 half32 (drop 1 bytes)
    else (if nat_eq first 194 then small_int_at w64 half64 (drop 1 bytes)
    else value_at most_levels bytes)))))

unfoldable pub small_at : Reader Tree
small_at bytes = small_by (slice_index_or bytes 0 0) bytes
