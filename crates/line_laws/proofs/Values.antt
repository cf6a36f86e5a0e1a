-- What is written of a value is plain and not too deep.
use Rattle.std.proofs.Common.{◌≡◌, ℕ, suc, ◌*◌, ◌+◌, ◌<◌, ◌≤◌, ◌^◌, Bool, true, false, not, nat_eq, nat_lt, List, [], ◌∷◌, map, length, codes, IsUtf8, refl, sym, ap, arith}
use Rattle.std.specs.Prelude.{ℤ, pos, negsuc, max, ◌&&◌, nat_le}
use Rattle.std.specs.List.{list_all}
use Rattle.std.specs.Str.{is_utf8, IsAscii}
use Rattle.std.proofs.lemmas.Bool.{and_parts, ltb-true, leb-true}
use Rattle.std.proofs.lemmas.Str.{IsUtf8-from_ascii, is_utf8-from_IsUtf8}
use Rattle.std.proofs.lemmas.Str.Ascii.{IsAscii-nil, IsAscii-cons}
use Rattle.hex.specs.Hex.{encode_lower, lower_digits}
use Rattle.hex.proofs.HexLemmas.{IsAscii-encode_with}
use Rattle.serde_json.specs.Data.{Data, boolean as boolean_data, string, array as array_data, Items, no_items, item as item_data, depth, items_depth}
use Rattle.serde_json.specs.Read.{max_depth}
use Rattle.serde_json.specs.View.{items_of}
use Rattle.gd_variant.specs.declared.value.Variant.{Variant}
use Rattle.gd_variant.specs.Sound.{has_no_zero, is_text, is_short, is_long, is_sound, ints_count, opaque_right, keys_distinct, is_right, are_right, is_new_key, nesting, deepest, most_bytes, most_nesting}
use Rattle.gd_variant.specs.Size.{tree_size}
use Rattle.gd_variant.specs.Tree.{Tree, Trees, plain, nil, boolean, int, text, name, path, ints, opaque, dict, array, packed_bytes, packed_ints, packed_texts, none, item}
use Rattle.session_text.specs.Json.{hex_of, int_of, nat_of, tagged_of}
use Rattle.session_text.specs.Values.{ints_of, opaque_parts, path_parts, texts_of, tree_data, trees_data, pairs_data, value_of, vector_parts}
use Rattle.line_text.specs.Written.{holds_bytes, hold_bytes}
use Rattle.line_text.proofs.ReadBack.{ints_code, raw_code, short_long}
use Rattle.line_laws.specs.Texts.{IsPlain, IsReadable, ArePlain}
use Rattle.line_laws.specs.Values.{ArePlainValues}

-- ---- parts

-- whether bytes are below 128
abbrev pub are_low : List ℕ → Bool
are_low bs = list_all (λ b. nat_lt b 128) bs

low_ascii : (bs : List ℕ) → are_low bs ≡ true → IsAscii bs
low_ascii [] h = IsAscii-nil
low_ascii (b ∷ bs) h = let p = and_parts (nat_lt b 128) (are_low bs) h in IsAscii-cons b bs (ltb-true b 128 p.0) (low_ascii bs p.1)

-- a known word or key
pub word_utf8 : (s : List ℕ) → are_low s ≡ true → is_utf8 s ≡ true
word_utf8 s h = is_utf8-from_IsUtf8 s (IsUtf8-from_ascii s (low_ascii s h))

pub hex_plain : (bs : List ℕ) → IsPlain (hex_of bs)
hex_plain bs = is_utf8-from_IsUtf8 (encode_lower bs) (IsUtf8-from_ascii (encode_lower bs) (IsAscii-encode_with lower_digits bs (low_ascii lower_digits refl)))

pub text_plain : (s : List ℕ) → is_text s ≡ true → IsPlain (string s)
text_plain s h = (and_parts (has_no_zero s) (is_utf8 s) h).1

pub long_plain : (z : ℤ) → is_long z ≡ true → IsPlain (int_of z)
long_plain (pos n) h = omega (arith, ltb-true n (2 ^ 63) h)
long_plain (negsuc n) h = ltb-true n (2 ^ 63) h

pub short_plain : (z : ℤ) → is_short z ≡ true → IsPlain (int_of z)
short_plain z h = long_plain z (short_long z h)

-- each of some cells
pub each_plain : {X : Type 0} (write : X → Data) (right : X → Bool) → ((x : X) → right x ≡ true → IsPlain (write x)) → (xs : List X) → list_all right xs ≡ true → ArePlain (items_of (map write xs))
each_plain write right one [] h = tt
each_plain write right one (x ∷ xs) h = let p = and_parts (right x) (list_all right xs) h in (one x p.0, each_plain write right one xs p.1)

-- each of some cells is not deeper than this
pub each_depth : {X : Type 0} (write : X → Data) (n : ℕ) → ((x : X) → depth (write x) ≤ n) → (xs : List X) → items_depth (items_of (map write xs)) ≤ n
each_depth write n one [] = omega arith
each_depth write n one (x ∷ xs) = omega (arith, one x, each_depth write n one xs)

-- each of some cells can be read
pub each_readable : {X : Type 0} (write : X → Data) (n : ℕ) (right : X → Bool) → ((x : X) → right x ≡ true → IsReadable n (write x)) → (xs : List X) → list_all right xs ≡ true → ArePlain (items_of (map write xs)) × (items_depth (items_of (map write xs)) ≤ n)
each_readable write n right one [] h = (tt, omega arith)
each_readable write n right one (x ∷ xs) h =
    let p = and_parts (right x) (list_all right xs) h in
    let a = one x p.0 in
    let b = each_readable write n right one xs p.1 in
    ((a.0, b.0), omega (arith, a.1, b.1))

-- ---- values are plain

byte_plain : (code : ℕ) → code ≤ 255 → code < 2 ^ 64
byte_plain code h = omega (arith, h)

-- an object with one key
tagged_plain : (key : List ℕ) (d : Data) → are_low key ≡ true → IsPlain d → IsPlain (tagged_of key d)
tagged_plain key d h k = (refl, (word_utf8 key h, k, tt))

two_plain : (a b : Data) → IsPlain a → IsPlain b → ArePlain (item_data a (item_data b no_items))
two_plain a b h k = (h, (k, tt))

three_plain : (a b c : Data) → IsPlain a → IsPlain b → IsPlain c → ArePlain (item_data a (item_data b (item_data c no_items)))
three_plain a b c h k l = (h, (k, (l, tt)))

mutual
  tree_plain : (t : Tree) → is_right t ≡ true → IsPlain (tree_data t)
  tree_plain nil h = tt
  tree_plain (boolean b) h = tt
  tree_plain (int z) h = long_plain z h
  tree_plain (text t) h = text_plain t h
  tree_plain (name t) h = tagged_plain (codes "name") (string t) refl (text_plain t h)
  tree_plain (path a ns ss) h =
      let p = and_parts (list_all is_text ns && list_all is_text ss) (nat_lt (length ns) (2 ^ 31)) h in
      let q = and_parts (list_all is_text ns) (list_all is_text ss) p.0 in
      tagged_plain (codes "path") (path_parts a ns ss) refl (three_plain (boolean_data a) (texts_of ns) (texts_of ss) tt (each_plain string is_text text_plain ns q.0) (each_plain string is_text text_plain ss q.1))
  tree_plain (ints c zs) h =
      let p = and_parts (not (nat_eq (ints_count c) 0) && nat_eq (length zs) (ints_count c)) (list_all is_short zs) h in
      let q = and_parts (not (nat_eq (ints_count c) 0)) (nat_eq (length zs) (ints_count c)) p.0 in
      tagged_plain (codes "ints") (vector_parts c zs) refl (two_plain (nat_of c) (ints_of zs) (byte_plain c (ints_code c q.0)) (each_plain int_of is_short short_plain zs p.1))
  tree_plain (opaque c w bs) h = tagged_plain (codes "raw") (opaque_parts c w bs) refl (three_plain (nat_of c) (boolean_data w) (hex_of bs) (byte_plain c (raw_code c (length bs) w h)) tt (hex_plain bs))
  tree_plain (dict ts) h = let p = and_parts (keys_distinct ts) (are_right ts) h in tagged_plain (codes "dict") (array_data (pairs_data ts)) refl (pairs_plain ts p.0 p.1)
  tree_plain (array ts) h = trees_plain ts h
  tree_plain (packed_bytes bs) h = tagged_plain (codes "bytes") (hex_of bs) refl (hex_plain bs)
  tree_plain (packed_ints true zs) h = tagged_plain (codes "i64") (ints_of zs) refl (each_plain int_of is_long long_plain zs h)
  tree_plain (packed_ints false zs) h = tagged_plain (codes "i32") (ints_of zs) refl (each_plain int_of is_short short_plain zs h)
  tree_plain (packed_texts ts) h = tagged_plain (codes "texts") (texts_of ts) refl (each_plain string is_text text_plain ts h)

  trees_plain : (ts : Trees) → are_right ts ≡ true → ArePlain (trees_data ts)
  trees_plain none h = tt
  trees_plain (item t ts) h = let p = and_parts (is_right t) (are_right ts) h in (tree_plain t p.0, trees_plain ts p.1)

  pairs_plain : (ts : Trees) → keys_distinct ts ≡ true → are_right ts ≡ true → ArePlain (pairs_data ts)
  pairs_plain none d h = tt
  pairs_plain (item k none) d h = tt
  pairs_plain (item k (item v ts)) d h =
      let p = and_parts (is_right k) (are_right (item v ts)) h in
      let q = and_parts (is_right v) (are_right ts) p.1 in
      let e = and_parts (is_new_key k ts) (keys_distinct ts) d in
      (two_plain (tree_data k) (tree_data v) (tree_plain k p.0) (tree_plain v q.0), pairs_plain ts e.1 q.1)

-- ---- values are not deep

string_flat : (s : List ℕ) → depth (string s) ≤ 0
string_flat s = omega arith

int_flat : (z : ℤ) → depth (int_of z) ≤ 0
int_flat z = omega arith

texts_depth : (ts : List (List ℕ)) → depth (texts_of ts) ≤ 1
texts_depth ts = omega (arith, each_depth string 0 string_flat ts)

pub ints_depth : (zs : List ℤ) → depth (ints_of zs) ≤ 1
ints_depth zs = omega (arith, each_depth int_of 0 int_flat zs)

-- each level of a value is at most three deep, and what holds no values too
mutual
  tree_depth : (t : Tree) → depth (tree_data t) ≤ 3 * nesting t + 3
  tree_depth nil = omega arith
  tree_depth (boolean b) = omega arith
  tree_depth (int z) = omega arith
  tree_depth (text t) = omega arith
  tree_depth (name t) = omega arith
  tree_depth (path a ns ss) = omega (arith, texts_depth ns, texts_depth ss)
  tree_depth (ints c zs) = omega (arith, ints_depth zs)
  tree_depth (opaque c w bs) = omega arith
  tree_depth (dict ts) = omega (arith, pairs_depth ts)
  tree_depth (array ts) = omega (arith, trees_depth ts)
  tree_depth (packed_bytes bs) = omega arith
  tree_depth (packed_ints w zs) = omega (arith, ints_depth zs)
  tree_depth (packed_texts ts) = omega (arith, texts_depth ts)

  trees_depth : (ts : Trees) → items_depth (trees_data ts) ≤ 3 * deepest ts + 3
  trees_depth none = omega arith
  trees_depth (item t ts) = omega (arith, tree_depth t, trees_depth ts)

  pairs_depth : (ts : Trees) → items_depth (pairs_data ts) ≤ 3 * deepest ts + 4
  pairs_depth none = omega arith
  pairs_depth (item k none) = omega arith
  pairs_depth (item k (item v ts)) = omega (arith, tree_depth k, tree_depth v, pairs_depth ts)

-- ---- the law

pub plain_values : ArePlainValues
plain_values v h =
    let p = and_parts (is_right (plain v) && nat_le (nesting (plain v)) most_nesting) (nat_le (tree_size (plain v)) most_bytes) h in
    let q = and_parts (is_right (plain v)) (nat_le (nesting (plain v)) most_nesting) p.0 in
    (tree_plain (plain v) q.0, omega (arith, tree_depth (plain v), leb-true (nesting (plain v)) most_nesting q.1))
