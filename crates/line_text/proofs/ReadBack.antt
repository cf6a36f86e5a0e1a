-- What is written of a value is read as the value.
use Rattle.std.proofs.Common.{◌≡◌, ℕ, zero, suc, ◌<◌, ◌≤◌, ◌^◌, Bool, true, false, not, nat_eq, nat_lt, List, [], ◌∷◌, map, length, Result, Ok, codes, leb, refl, sym, ap, ap₂, ◌∙◌, arith, inl, inr}
use Rattle.std.specs.Prelude.{ℤ, pos, negsuc, ◌&&◌, ◌||◌, nat_le, if◌then◌else◌}
use Rattle.std.specs.List.{list_all}
use Rattle.std.specs.Str.{is_utf8}
use Rattle.std.proofs.lemmas.Bool.{and_parts, true≢false, cases_lt, lt-ltb, ltb-true, le-leb, ne_eqb}
use Rattle.hex.specs.Hex.{IsBytes}
use Rattle.hex.proofs.HexLemmas.{decode_of-encode_lower}
use Rattle.serde_json.specs.Data.{Data, string, array as array_data, Items, no_items, item as item_data}
use Rattle.serde_json.specs.View.{items_of}
use Rattle.gd_variant.specs.declared.value.Variant.{Variant}
use Rattle.gd_variant.specs.declared.value.Variant.TheVariants as value
use Rattle.gd_variant.specs.declared.value.Pair.{Pair}
use Rattle.gd_variant.specs.declared.value.Variant.TheViews.{roll-Pair}
use Rattle.gd_variant.specs.Back.{value_of, values_from, pairs_from}
use Rattle.gd_variant.specs.Sound.{has_no_zero, is_text, is_short, is_long, ints_count, element_size, is_multiple, fixed_size_right, may_be_wide, opaque_right, is_new_key, keys_distinct, is_right, are_right, most_bytes, most_nesting, nesting}
use Rattle.gd_variant.specs.Size.{tree_size}
use Rattle.gd_variant.specs.Tree.{Tree, Trees, plain, nil, boolean as boolean_tree, int, text, name, path, ints, opaque, dict, array, packed_bytes, packed_ints, packed_texts, none, item}
use Rattle.gd_variant.proofs.TreeOf.{plain_back}
use Rattle.session_text.specs.Json.{hex_of, int_of, nat_of, tagged_of}
use Rattle.session_text.specs.Values.{path_of, vector_of, opaque_of, pair_data, tree_data, trees_data, pairs_data}
use Rattle.program_edge.specs.declared.status.LineWhy.{LineWhy}
use Rattle.line_text.specs.Reading.{Reading, ◌>>=◌, each_read}
use Rattle.line_text.specs.Parts.{word_read, text_read, bool_read, nat_read, i64_read, i32_read, bytes_read, array_read, two_of, three_of, two_read, three_read, list_read, decoded}
use Rattle.line_text.specs.Values.{path_read, ints_read, raw_read, run_read, flat_read, form_read, forms_read, pairs_read, value_read}
use Rattle.line_text.specs.Written.{are_bytes, holds_bytes, hold_bytes, ReadsWritten}

abbrev ok : {X : Type 0} → X → Result X LineWhy
ok x = Ok x

-- ---- parts

pub text_back : (s : List ℕ) → is_text s ≡ true → text_read (string s) ≡ Ok s
unfolding text_read word_read
text_back s h = let p = and_parts (has_no_zero s) (is_utf8 s) h in rw p.0 refl

long_back : (z : ℤ) → is_long z ≡ true → i64_read (int_of z) ≡ Ok z
unfolding i64_read
long_back (pos n) h = rw h refl
long_back (negsuc n) h = refl

pub short_long : (z : ℤ) → is_short z ≡ true → is_long z ≡ true
short_long (pos n) h = lt-ltb _ _ (omega (arith, ltb-true n (2 ^ 31) h))
short_long (negsuc n) h = lt-ltb _ _ (omega (arith, ltb-true n (2 ^ 31) h))

short_back : (z : ℤ) → is_short z ≡ true → i32_read (int_of z) ≡ Ok z
unfolding i32_read
short_back z h = rw (long_back z (short_long z h), h) refl

are_bytes-IsBytes : (bs : List ℕ) → are_bytes bs ≡ true → IsBytes bs
are_bytes-IsBytes [] h i = omega arith
are_bytes-IsBytes (b ∷ bs) h zero = let p = and_parts (nat_lt b 256) (are_bytes bs) h in ltb-true b 256 p.0
are_bytes-IsBytes (b ∷ bs) h (suc i) = let p = and_parts (nat_lt b 256) (are_bytes bs) h in are_bytes-IsBytes bs p.1 i

pub bytes_back : (bs : List ℕ) → are_bytes bs ≡ true → bytes_read (hex_of bs) ≡ Ok bs
unfolding bytes_read word_read
bytes_back bs h = ap decoded (decode_of-encode_lower bs (are_bytes-IsBytes bs h))

pub nat_back : (n : ℕ) → n ≤ 255 → nat_read 0 255 (nat_of n) ≡ Ok n
unfolding nat_read
nat_back n h = let e : leb n 255 ≡ true = le-leb n 255 h in let f : leb 0 n ≡ true = le-leb 0 n (omega arith) in rw (e, f) refl

each_back : {X : Type 0} (read : Reading X) (write : X → Data) (right : X → Bool) → ((x : X) → right x ≡ true → read (write x) ≡ Ok x) → (xs : List X) → list_all right xs ≡ true → each_read read (items_of (map write xs)) ≡ Ok xs
unfolding each_read
each_back read write right back [] h = refl
each_back read write right back (x ∷ xs) h = let p = and_parts (right x) (list_all right xs) h in rw (back x p.0, each_back read write right back xs p.1) refl

pub list_back : {X : Type 0} (read : Reading X) (write : X → Data) (right : X → Bool) → ((x : X) → right x ≡ true → read (write x) ≡ Ok x) → (xs : List X) → list_all right xs ≡ true → list_read read (array_data (items_of (map write xs))) ≡ Ok xs
unfolding list_read array_read
list_back read write right back xs h = each_back read write right back xs h

-- ---- type numbers

other_code : (code k : ℕ) → k ≤ 255 → 255 < code → nat_eq code k ≡ false
other_code code k small big = ne_eqb code k (λ e. omega (arith, e, small, big))

no_ints : (code : ℕ) → 255 < code → ints_count code ≡ 0
no_ints code big = rw (other_code code 6 (omega arith) big, other_code code 8 (omega arith) big, other_code code 10 (omega arith) big, other_code code 13 (omega arith) big) refl

pub ints_code : (code : ℕ) → not (nat_eq (ints_count code) 0) ≡ true → code ≤ 255
ints_code code h =
    elim (cases_lt 255 code) [
      | inl big ↦ absurd (true≢false (sym h ∙ ap (λ n. not (nat_eq n 0)) (no_ints code big)))
      | inr small ↦ small
    ]

no_elements : (code : ℕ) (wide : Bool) → 255 < code → element_size code wide ≡ 0
no_elements code wide big = rw (other_code code 32 (omega arith) big, other_code code 33 (omega arith) big, other_code code 35 (omega arith) big, other_code code 36 (omega arith) big, other_code code 37 (omega arith) big, other_code code 38 (omega arith) big) refl

big_code : (code n : ℕ) (wide : Bool) → 255 < code → (if nat_le 32 code then is_multiple n (element_size code wide) else fixed_size_right code wide n) ≡ false
big_code code n wide big = let e : leb 32 code ≡ true = le-leb 32 code (omega (arith, big)) in rw (e, no_elements code wide big) refl

pub raw_code : (code n : ℕ) (wide : Bool) → opaque_right code wide n ≡ true → code ≤ 255
raw_code code n wide h =
    elim (cases_lt 255 code) [
      | inl big ↦ absurd (let p = (and_parts (may_be_wide code || not wide) (if nat_le 32 code then is_multiple n (element_size code wide) else fixed_size_right code wide n) h).1 in true≢false (sym p ∙ big_code code n wide big))
      | inr small ↦ small
    ]

-- ---- values that hold no others

path_back : (a : Bool) (ns ss : List (List ℕ)) → list_all is_text ns ≡ true → list_all is_text ss ≡ true → form_read (path_of a ns ss) ≡ ok (value_of (path a ns ss))
unfolding form_read flat_read path_read three_read three_of array_read bool_read
path_back a ns ss h k = rw (list_back text_read string is_text text_back ns h, list_back text_read string is_text text_back ss k) (ap ok (sym (value.rolls-Path (record { absolute = a; names = ns; subnames = ss }))))

vector_back : (c : ℕ) (zs : List ℤ) → c ≤ 255 → list_all is_short zs ≡ true → form_read (vector_of c zs) ≡ ok (value_of (ints c zs))
unfolding form_read flat_read ints_read two_read two_of array_read
vector_back c zs small h = rw (nat_back c small, list_back i32_read int_of is_short short_back zs h) (ap ok (sym (value.rolls-Ints (record { code = c; items = zs }))))

opaque_back : (c : ℕ) (w : Bool) (bs : List ℕ) → c ≤ 255 → are_bytes bs ≡ true → form_read (opaque_of c w bs) ≡ ok (value_of (opaque c w bs))
unfolding form_read flat_read raw_read three_read three_of array_read bool_read
opaque_back c w bs small h = rw (nat_back c small, bytes_back bs h) (ap ok (sym (value.rolls-Opaque (record { code = c; wide = w; bytes = bs }))))

long_run_back : (zs : List ℤ) → list_all is_long zs ≡ true → form_read (tree_data (packed_ints true zs)) ≡ ok (value_of (packed_ints true zs))
unfolding form_read flat_read run_read
long_run_back zs h = rw (list_back i64_read int_of is_long long_back zs h) (ap ok (sym (value.rolls-PackedInts (record { wide = true; items = zs }))))

short_run_back : (zs : List ℤ) → list_all is_short zs ≡ true → form_read (tree_data (packed_ints false zs)) ≡ ok (value_of (packed_ints false zs))
unfolding form_read flat_read run_read
short_run_back zs h = rw (list_back i32_read int_of is_short short_back zs h) (ap ok (sym (value.rolls-PackedInts (record { wide = false; items = zs }))))

texts_back : (ts : List (List ℕ)) → list_all is_text ts ≡ true → form_read (tree_data (packed_texts ts)) ≡ ok (value_of (packed_texts ts))
unfolding form_read flat_read
texts_back ts h = rw (list_back text_read string is_text text_back ts h) (ap ok (sym (value.rolls-PackedTexts ts)))

packed_bytes_back : (bs : List ℕ) → are_bytes bs ≡ true → form_read (tree_data (packed_bytes bs)) ≡ ok (value_of (packed_bytes bs))
unfolding form_read flat_read
packed_bytes_back bs h = rw (bytes_back bs h) (ap ok (sym (value.rolls-PackedBytes bs)))

name_back : (t : List ℕ) → is_text t ≡ true → form_read (tree_data (name t)) ≡ ok (value_of (name t))
unfolding form_read flat_read
name_back t h = rw (text_back t h) (ap ok (sym (value.rolls-Name t)))

plain_text_back : (t : List ℕ) → is_text t ≡ true → form_read (tree_data (text t)) ≡ ok (value_of (text t))
unfolding form_read
plain_text_back t h = rw (text_back t h) (ap ok (sym (value.rolls-Text t)))

int_back : (z : ℤ) → is_long z ≡ true → form_read (tree_data (int z)) ≡ ok (value_of (int z))
unfolding form_read
int_back z h = rw (long_back z h) (ap ok (sym (value.rolls-Int z)))

nil_back : form_read (tree_data nil) ≡ ok (value_of nil)
unfolding form_read
nil_back = ap ok (sym value.rolls-Nil)

bool_back : (b : Bool) → form_read (tree_data (boolean_tree b)) ≡ ok (value_of (boolean_tree b))
unfolding form_read
bool_back b = ap ok (sym (value.rolls-Bool b))

-- ---- values that hold others

array_form : (ds : Items) (vs : List Variant) → forms_read ds ≡ Ok vs → form_read (array_data ds) ≡ ok (value.Array vs)
unfolding form_read
array_form ds vs e = ap (λ r. r >>= λ (us : List Variant). ok (value.Array us)) e

dict_form : (ds : Items) (ps : List Pair) → pairs_read ds ≡ Ok ps → form_read (tagged_of (codes "dict") (array_data ds)) ≡ ok (value.Dict ps)
unfolding form_read
dict_form ds ps e = ap (λ r. r >>= λ (qs : List Pair). ok (value.Dict qs)) e

one_form : (d : Data) (ds : Items) (v : Variant) (vs : List Variant) → form_read d ≡ Ok v → forms_read ds ≡ Ok vs → forms_read (item_data d ds) ≡ Ok (v ∷ vs)
unfolding form_read
one_form d ds v vs e f = ap₂ (λ (r : Result Variant LineWhy) (s : Result (List Variant) LineWhy). r >>= λ x. (s >>= λ xs. ok (x ∷ xs))) e f

one_pair : (k v : Data) (ds : Items) (key val : Variant) (ps : List Pair) → form_read k ≡ Ok key → form_read v ≡ Ok val → pairs_read ds ≡ Ok ps → pairs_read (item_data (pair_data k v) ds) ≡ Ok (roll-Pair (record { key = key; value = val }) ∷ ps)
unfolding form_read
one_pair k v ds key val ps e f g =
    ap₂ (λ (q : Result Variant LineWhy × Result Variant LineWhy) (s : Result (List Pair) LineWhy). (q.0 >>= λ x. (q.1 >>= λ y. Ok (roll-Pair (record { key = x; value = y })))) >>= λ p. (s >>= λ qs. ok (p ∷ qs))) (ap₂ (λ (a : Result Variant LineWhy) (b : Result Variant LineWhy). (a, b)) e f) g

no_forms : forms_read no_items ≡ Ok []
unfolding form_read
no_forms = refl

no_pairs : pairs_read no_items ≡ Ok []
unfolding form_read
no_pairs = refl

mutual
  form_back : (t : Tree) → is_right t ≡ true → holds_bytes t ≡ true → form_read (tree_data t) ≡ ok (value_of t)
  form_back nil h b = nil_back
  form_back (boolean_tree t) h b = bool_back t
  form_back (int z) h b = int_back z h
  form_back (text t) h b = plain_text_back t h
  form_back (name t) h b = name_back t h
  form_back (path a ns ss) h b =
      let p = and_parts (list_all is_text ns && list_all is_text ss) (nat_lt (length ns) (2 ^ 31)) h in
      let q = and_parts (list_all is_text ns) (list_all is_text ss) p.0 in
      path_back a ns ss q.0 q.1
  form_back (ints c zs) h b =
      let p = and_parts (not (nat_eq (ints_count c) 0) && nat_eq (length zs) (ints_count c)) (list_all is_short zs) h in
      let q = and_parts (not (nat_eq (ints_count c) 0)) (nat_eq (length zs) (ints_count c)) p.0 in
      vector_back c zs (ints_code c q.0) p.1
  form_back (opaque c w bs) h b = opaque_back c w bs (raw_code c (length bs) w h) b
  form_back (dict ts) h b =
      let p = and_parts (keys_distinct ts) (are_right ts) h in
      dict_form (pairs_data ts) (pairs_from ts) (pairs_back ts p.0 p.1 b) ∙ ap ok (sym (value.rolls-Dict (pairs_from ts)))
  form_back (array ts) h b = array_form (trees_data ts) (values_from ts) (forms_back ts h b) ∙ ap ok (sym (value.rolls-Array (values_from ts)))
  form_back (packed_bytes bs) h b = packed_bytes_back bs b
  form_back (packed_ints true zs) h b = long_run_back zs h
  form_back (packed_ints false zs) h b = short_run_back zs h
  form_back (packed_texts ts) h b = texts_back ts h

  forms_back : (ts : Trees) → are_right ts ≡ true → hold_bytes ts ≡ true → forms_read (trees_data ts) ≡ Ok (values_from ts)
  forms_back none h b = no_forms
  forms_back (item t ts) h b =
      let p = and_parts (is_right t) (are_right ts) h in
      let q = and_parts (holds_bytes t) (hold_bytes ts) b in
      one_form (tree_data t) (trees_data ts) (value_of t) (values_from ts) (form_back t p.0 q.0) (forms_back ts p.1 q.1)

  pairs_back : (ts : Trees) → keys_distinct ts ≡ true → are_right ts ≡ true → hold_bytes ts ≡ true → pairs_read (pairs_data ts) ≡ Ok (pairs_from ts)
  pairs_back none d h b = no_pairs
  pairs_back (item k none) d h b = absurd cc
  pairs_back (item k (item v ts)) d h b =
      let p = and_parts (is_right k) (are_right (item v ts)) h in
      let q = and_parts (is_right v) (are_right ts) p.1 in
      let r = and_parts (holds_bytes k) (hold_bytes (item v ts)) b in
      let s = and_parts (holds_bytes v) (hold_bytes ts) r.1 in
      let e = and_parts (is_new_key k ts) (keys_distinct ts) d in
      one_pair (tree_data k) (tree_data v) (pairs_data ts) (value_of k) (value_of v) (pairs_from ts) (form_back k p.0 r.0) (form_back v q.0 s.0) (pairs_back ts e.1 q.1 s.1)

pub reads_written : ReadsWritten
unfolding value_read
reads_written v sound bytes =
    let p = and_parts (is_right (plain v) && nat_le (nesting (plain v)) most_nesting) (nat_le (tree_size (plain v)) most_bytes) sound in
    let q = and_parts (is_right (plain v)) (nat_le (nesting (plain v)) most_nesting) p.0 in
    rw (form_back (plain v) q.0 bytes, plain_back v, sound) refl
