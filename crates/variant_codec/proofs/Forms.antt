-- The written form of a sound tree is a form of it; that of any tree has the length that its size tells.
use Rattle.std.proofs.Common.{◌≡◌, ℕ, ◌+◌, ◌*◌, ◌/◌, ◌^◌, ◌<◌, ◌≤◌, Bool, true, false, List, [], ◌∷◌, ◌++◌, length, refl, sym, ap, ◌∙◌, arith, inl, inr}
use Rattle.std.specs.Prelude.{ℤ, pos, negsuc, not, ◌&&◌, nat_eq, nat_le, nat_lt, sum_by, replicate, if◌then◌else◌}
use Rattle.std.specs.Int.{w8, w16, w32, w64}
use Rattle.std.specs.List.{list_all, flat_map}
use Rattle.std.proofs.lemmas.Bool.{and_parts, eqb-true, ltb-true, cases_Bool}
use Rattle.std.proofs.lemmas.List.{append-nil, length-append, length-replicate}
use Rattle.std.proofs.lemmas.List.Sums.{sum_by-cons}
use Rattle.byte_fields.specs.Fields.{word}
use Rattle.byte_fields.specs.Complement.{IsWithin, bits_of, half8, half16, half32, half64}
use Rattle.byte_fields.proofs.Fields.{wide8, wide16, wide32, wide64, length-word}
use Rattle.gd_variant.specs.Tree.{Tree, Trees, nil, boolean, int, text, name, path, ints, opaque, dict, array, packed_bytes, packed_ints, packed_texts, none, item}
use Rattle.gd_variant.specs.Size.{text_size, int_width, tree_size, trees_size, small_tree_size}
use Rattle.gd_variant.specs.Sound.{is_text, is_short, is_long, ints_count, element_size, keys_distinct, is_right, are_right}
use Rattle.variant_codec.specs.Header.{flag, header}
use Rattle.variant_codec.specs.Parts.{padding, Padded, SpellsText, SpellsElement, SpellsShort, SpellsLong, SpellsEach, Headed, Numbered, Counted, path_flags, count}
use Rattle.variant_codec.specs.Grammar.{Spells, SpellsAll, SpellsSmallInt, SpellsSmall}
use Rattle.variant_codec.specs.Written.{written_padded, written_short, written_long, written_path, written_opaque, written, written_all, written_small_int, written_small}

-- ---- numbers

short_within : (z : ℤ) → is_short z ≡ true → IsWithin half32 z
short_within (pos n) h = ltb-true n (2 ^ 31) h
short_within (negsuc n) h = ltb-true n (2 ^ 31) h

long_within : (z : ℤ) → is_long z ≡ true → IsWithin half64 z
long_within (pos n) h = ltb-true n (2 ^ 63) h
long_within (negsuc n) h = ltb-true n (2 ^ 63) h

-- how many bytes a number below a limit needs, and the limit that it then has
abbrev bytes_for : ℕ → ℕ
bytes_for n = if nat_lt n (2 ^ 7) then 1 else if nat_lt n (2 ^ 15) then 2 else if nat_lt n (2 ^ 31) then 4 else 8

data Needs (n : ℕ) : Type 0 where
  needs_one : bytes_for n ≡ 1 → n < half8 → Needs n
  needs_two : bytes_for n ≡ 2 → n < half16 → Needs n
  needs_four : bytes_for n ≡ 4 → n < half32 → Needs n
  needs_eight : bytes_for n ≡ 8 → Needs n

needs : (n : ℕ) → Needs n
needs n =
    elim (cases_Bool (nat_lt n (2 ^ 7))) [
      | inl a ↦ needs_one (rw a refl) (ltb-true n (2 ^ 7) a)
      | inr a ↦ elim (cases_Bool (nat_lt n (2 ^ 15))) [
        | inl b ↦ needs_two (rw (a, b) refl) (ltb-true n (2 ^ 15) b)
        | inr b ↦ elim (cases_Bool (nat_lt n (2 ^ 31))) [
          | inl d ↦ needs_four (rw (a, b, d) refl) (ltb-true n (2 ^ 31) d)
          | inr d ↦ needs_eight (rw (a, b, d) refl)
        ]
      ]
    ]

-- the same of a signed number
data Takes (z : ℤ) : Type 0 where
  takes_one : int_width z ≡ 1 → IsWithin half8 z → Takes z
  takes_two : int_width z ≡ 2 → IsWithin half16 z → Takes z
  takes_four : int_width z ≡ 4 → IsWithin half32 z → Takes z
  takes_eight : int_width z ≡ 8 → Takes z

takes : (z : ℤ) → Takes z
takes (pos n) = elim (needs n) [ needs_one e lt ↦ takes_one e lt | needs_two e lt ↦ takes_two e lt | needs_four e lt ↦ takes_four e lt | needs_eight e ↦ takes_eight e ]
takes (negsuc n) = elim (needs n) [ needs_one e lt ↦ takes_one e lt | needs_two e lt ↦ takes_two e lt | needs_four e lt ↦ takes_four e lt | needs_eight e ↦ takes_eight e ]

widened : (half : ℕ) (z : ℤ) → half ≤ half32 → IsWithin half z → IsWithin half32 z
widened half (pos n) le h = omega (arith, le, h)
widened half (negsuc n) le h = omega (arith, le, h)

word_size : (n : ℕ) → length (word w32 n) ≡ 4
word_size n = length-word w32 (2 ^ 32) wide32 n

long_size : (n : ℕ) → length (word w64 n) ≡ 8
long_size n = length-word w64 (2 ^ 64) wide64 n

-- ---- an Int

short_int : (z : ℤ) → nat_le (int_width z) 4 ≡ true → IsWithin half32 z → Spells (int z) (written (int z))
short_int z e h = rw e (inl (record { body = written_short z; right = (h, refl); form = refl }))

long_int : (z : ℤ) → nat_le (int_width z) 4 ≡ false → IsWithin half64 z → Spells (int z) (written (int z))
long_int z e h = rw e (inr (record { body = written_long z; right = (h, refl); form = refl }))

int_form : (z : ℤ) → is_long z ≡ true → Spells (int z) (written (int z))
int_form z h =
    elim (takes z) [
      | takes_one e lt ↦ short_int z (rw e refl) (widened half8 z (omega arith) lt)
      | takes_two e lt ↦ short_int z (rw e refl) (widened half16 z (omega arith) lt)
      | takes_four e lt ↦ short_int z (rw e refl) lt
      | takes_eight e ↦ long_int z (rw e refl) (long_within z h)
    ]

small_int_form : (z : ℤ) → is_long z ≡ true → SpellsSmallInt z (written_small_int z)
small_int_form z h =
    elim (takes z) [
      | takes_one e lt ↦ rw e (inl (lt, refl))
      | takes_two e lt ↦ rw e (inr (inl (lt, refl)))
      | takes_four e lt ↦ rw e (inr (inr (inl (lt, refl))))
      | takes_eight e ↦ rw e (inr (inr (inr (long_within z h, refl))))
    ]

small_int_size : (z : ℤ) → length (written_small_int z) ≡ 1 + int_width z
small_int_size z =
    elim (takes z) [
      | takes_one e lt ↦ rw e (omega (arith, length-word w8 (2 ^ 8) wide8 (bits_of half8 z)))
      | takes_two e lt ↦ rw e (omega (arith, length-word w16 (2 ^ 16) wide16 (bits_of half16 z)))
      | takes_four e lt ↦ rw e (omega (arith, word_size (bits_of half32 z)))
      | takes_eight e ↦ rw e (omega (arith, long_size (bits_of half64 z)))
    ]

-- a number takes 9 bytes at most
pub small_int_short : (z : ℤ) → length (written_small_int z) ≤ 9
small_int_short z =
    elim (takes z) [
      | takes_one e lt ↦ omega (arith, small_int_size z, e)
      | takes_two e lt ↦ omega (arith, small_int_size z, e)
      | takes_four e lt ↦ omega (arith, small_int_size z, e)
      | takes_eight e ↦ omega (arith, small_int_size z, e)
    ]

-- ---- texts and lists

padded_form : (s : List ℕ) → length s < 2 ^ 32 → Padded s (written_padded s)
padded_form s lt = record { pad = replicate (padding (length s)) 0; short = lt; full = length-replicate (padding (length s)) 0; form = refl }

padded_size : (s : List ℕ) → length (written_padded s) ≡ text_size s
padded_size s =
    omega (arith, length-append (word w32 (length s)) (s ++ replicate (padding (length s)) 0), length-append s (replicate (padding (length s)) 0), word_size (length s), length-replicate {A = ℕ} (padding (length s)) 0)

each_form : {X : Type 0} (R : X → List ℕ → Type 0) (write : X → List ℕ) (p : X → Bool) → ((x : X) → p x ≡ true → R x (write x)) → (xs : List X) → list_all p xs ≡ true → SpellsEach R xs (flat_map write xs)
each_form R write p each [] h = refl
each_form R write p each (x ∷ xs) h = let a = and_parts (p x) (list_all p xs) h in (write x, flat_map write xs, each x a.0, each_form R write p each xs a.1, refl)

-- texts of so many bytes in all
texts_form : (R : List ℕ → List ℕ → Type 0) → ((t : List ℕ) → is_text t ≡ true → length t < 2 ^ 32 → R t (written_padded t)) → (ts : List (List ℕ)) → list_all is_text ts ≡ true → sum_by text_size ts < 2 ^ 32
    → SpellsEach R ts (flat_map written_padded ts)
texts_form R each [] h lt = refl
texts_form R each (t ∷ ts) h lt =
    let a = and_parts (is_text t) (list_all is_text ts) h in
    let s = sum_by-cons text_size t ts in
    (written_padded t, flat_map written_padded ts, each t a.0 (omega (arith, s, lt)), texts_form R each ts a.1 (omega (arith, s, lt)), refl)

texts_count : (ts : List (List ℕ)) → length ts ≤ sum_by text_size ts
texts_count [] = omega arith
texts_count (t ∷ ts) = omega (arith, sum_by-cons text_size t ts, texts_count ts)

texts_size : (ts : List (List ℕ)) → length (flat_map written_padded ts) ≡ sum_by text_size ts
texts_size [] = refl
texts_size (t ∷ ts) = omega (arith, sum_by-cons text_size t ts, texts_size ts, length-append (written_padded t) (flat_map written_padded ts), padded_size t)

shorts_size : (zs : List ℤ) → length (flat_map written_short zs) ≡ 4 * length zs
shorts_size [] = refl
shorts_size (z ∷ zs) = omega (arith, shorts_size zs, length-append (written_short z) (flat_map written_short zs), word_size (bits_of half32 z))

longs_size : (zs : List ℤ) → length (flat_map written_long zs) ≡ 8 * length zs
longs_size [] = refl
longs_size (z ∷ zs) = omega (arith, longs_size zs, length-append (written_long z) (flat_map written_long zs), long_size (bits_of half64 z))

-- ---- heads

headed_size : (c : ℕ) (w : Bool) (body : List ℕ) → length (header c w ++ body) ≡ 4 + length body
headed_size c w body = length-append (header c w) body ∙ ap (λ k. k + length body) (word_size (c + flag w))

counted_size : (n : ℕ) (body : List ℕ) → length (word w32 n ++ body) ≡ 4 + length body
counted_size n body = length-append (word w32 n) body ∙ ap (λ k. k + length body) (word_size n)

behind : (c : ℕ) (w : Bool) (P : List ℕ → Type 0) (body : List ℕ) → P body → Headed c w P (header c w ++ body)
behind c w P body p = record { body = body; right = p; form = refl }

numbered : (n : ℕ) (P : List ℕ → Type 0) (body : List ℕ) → n < 2 ^ 32 → P body → Numbered n P (word w32 n ++ body)
numbered n P body lt p = record { body = body; short = lt; right = p; form = refl }

counted : (n : ℕ) (P : List ℕ → Type 0) (body : List ℕ) → n < 2 ^ 31 → P body → Counted n P (word w32 n ++ body)
counted n P body lt p = record { bit = false; body = body; short = lt; right = p; form = ap (λ k. word w32 k ++ body) (omega arith) }

int_size : (z : ℤ) → length (written (int z)) ≡ tree_size (int z)
int_size z =
    elim (cases_Bool (nat_le (int_width z) 4)) [
      | inl e ↦ rw e (omega (arith, headed_size 2 false (written_short z), word_size (bits_of half32 z)))
      | inr e ↦ rw e (omega (arith, headed_size 2 true (written_long z), long_size (bits_of half64 z)))
    ]

opaque_length : (c : ℕ) (w : Bool) (bytes : List ℕ) → length (header c w ++ written_opaque c w bytes) ≡ tree_size (opaque c w bytes)
opaque_length c w bytes =
    elim (cases_Bool (nat_le 32 c)) [
      | inl big ↦ rw big (omega (arith, headed_size c w (word w32 (length bytes / element_size c w) ++ bytes), counted_size (length bytes / element_size c w) bytes))
      | inr small ↦ rw small (headed_size c w bytes)
    ]

path_length : (a : Bool) (ns ss : List (List ℕ)) → length (header 22 false ++ written_path (path_flags a) ns ss) ≡ tree_size (path a ns ss)
path_length a ns ss =
    let x = flat_map written_padded ns in
    let y = flat_map written_padded ss in
    let f = path_flags a in
    omega (
      arith,
      headed_size 22 false (written_path f ns ss),
      counted_size (2147483648 + length ns) (word w32 (length ss) ++ (word w32 f ++ (x ++ y))),
      counted_size (length ss) (word w32 f ++ (x ++ y)),
      counted_size f (x ++ y),
      length-append x y,
      texts_size ns,
      texts_size ss,
    )

-- a tree has four bytes at least, so a list has no more trees than its bytes
some_bytes : (t : Tree) → 4 ≤ tree_size t
some_bytes (int z) = elim (cases_Bool (nat_le (int_width z) 4)) [ inl e ↦ rw e (omega arith) | inr e ↦ rw e (omega arith) ]
some_bytes (opaque c w bytes) = elim (cases_Bool (nat_le 32 c)) [ inl e ↦ rw e (omega arith) | inr e ↦ rw e (omega arith) ]
some_bytes t = omega arith

count_fits : (ts : Trees) → count ts ≤ trees_size ts
count_fits none = omega arith
count_fits (item t ts) = omega (arith, some_bytes t, count_fits ts)

-- the keys and values of a dictionary come in pairs
halves : (ts : Trees) → keys_distinct ts ≡ true → count ts ≡ 2 * (count ts / 2)
halves none h = refl
halves (item k none) h = absurd cc
halves (item k (item v ts)) h = (let e = halves ts (and_parts _ (keys_distinct ts) h).1 in omega (arith, e))

not_true : (b : Bool) → not b ≡ true → b ≡ false
not_true true h = sym h
not_true false h = refl

path_form : (a : Bool) (ns ss : List (List ℕ)) → is_right (path a ns ss) ≡ true → tree_size (path a ns ss) ≤ 8388608 → Spells (path a ns ss) (written (path a ns ss))
path_form a ns ss r le =
    let p = and_parts (list_all is_text ns && list_all is_text ss) (nat_lt (length ns) (2 ^ 31)) r in
    let q = and_parts (list_all is_text ns) (list_all is_text ss) p.0 in
    behind 22 false _ (written_path (path_flags a) ns ss) (record {
      names_bytes = flat_map written_padded ns;
      subnames_bytes = flat_map written_padded ss;
      names_fit = ltb-true (length ns) (2 ^ 31) p.1;
      subnames_fit = omega (arith, le, texts_count ss);
      names_right = texts_form SpellsText (λ t h lt. (h, padded_form t lt)) ns q.0 (omega (arith, le));
      subnames_right = texts_form SpellsText (λ t h lt. (h, padded_form t lt)) ss q.1 (omega (arith, le));
      form = refl;
    })

-- ---- every kind

mutual
  pub written_spells : (t : Tree) → is_right t ≡ true → tree_size t ≤ 8388608 → Spells t (written t)
  written_spells nil r le = record { body = []; right = refl; form = sym (append-nil (header 0 false)) }
  written_spells (boolean true) r le = behind 1 false _ (word w32 1) (record { bits = 1; fits = omega arith; is = refl; form = refl })
  written_spells (boolean false) r le = behind 1 false _ (word w32 0) (record { bits = 0; fits = omega arith; is = refl; form = refl })
  written_spells (int z) r le = int_form z r
  written_spells (text t) r le = behind 4 false _ (written_padded t) (r, padded_form t (omega (arith, le)))
  written_spells (name t) r le = behind 21 false _ (written_padded t) (r, padded_form t (omega (arith, le)))
  written_spells (path a ns ss) r le = path_form a ns ss r le
  written_spells (ints c zs) r le =
      let a = and_parts (not (nat_eq (ints_count c) 0) && nat_eq (length zs) (ints_count c)) (list_all is_short zs) r in
      let b = and_parts (not (nat_eq (ints_count c) 0)) (nat_eq (length zs) (ints_count c)) a.0 in
      behind c false _ (flat_map written_short zs) (not_true _ b.0, eqb-true (length zs) (ints_count c) b.1, each_form SpellsShort written_short is_short (λ z h. (short_within z h, refl)) zs a.1)
  written_spells (opaque c w bytes) r le = behind c w _ (written_opaque c w bytes) (r, refl)
  written_spells (dict ts) r le =
      let a = and_parts (keys_distinct ts) (are_right ts) r in
      (a.0, count ts / 2, halves ts a.0, behind 27 false _ (word w32 (count ts / 2) ++ written_all ts) (counted (count ts / 2) _ (written_all ts) (omega (arith, le, count_fits ts)) (all_spelled ts a.1 (omega (arith, le)))))
  written_spells (array ts) r le =
      behind 28 false _ (word w32 (count ts) ++ written_all ts) (counted (count ts) _ (written_all ts) (omega (arith, le, count_fits ts)) (all_spelled ts r (omega (arith, le))))
  written_spells (packed_bytes bytes) r le = behind 29 false _ (written_padded bytes) (padded_form bytes (omega (arith, le)))
  written_spells (packed_ints false zs) r le =
      behind 30 false _ (word w32 (length zs) ++ flat_map written_short zs) (numbered (length zs) _ (flat_map written_short zs) (omega (arith, le)) (each_form SpellsShort written_short is_short (λ z h. (short_within z h, refl)) zs r))
  written_spells (packed_ints true zs) r le =
      behind 31 false _ (word w32 (length zs) ++ flat_map written_long zs) (numbered (length zs) _ (flat_map written_long zs) (omega (arith, le)) (each_form SpellsLong written_long is_long (λ z h. (long_within z h, refl)) zs r))
  written_spells (packed_texts ts) r le =
      behind 34 false _ (word w32 (length ts) ++ flat_map written_padded ts) (numbered (length ts) _ (flat_map written_padded ts) (omega (arith, le, texts_count ts))
      (texts_form SpellsElement (λ t h lt. (h, inl (padded_form t lt))) ts r (omega (arith, le))))

  all_spelled : (ts : Trees) → are_right ts ≡ true → trees_size ts ≤ 8388608 → SpellsAll ts (written_all ts)
  all_spelled none r le = refl
  all_spelled (item t ts) r le =
      let a = and_parts (is_right t) (are_right ts) r in
      (written t, written_all ts, written_spells t a.0 (omega (arith, le)), all_spelled ts a.1 (omega (arith, le)), refl)

-- the lengths of what is written for any tree, right or not
mutual
  pub written_size : (t : Tree) → length (written t) ≡ tree_size t
  written_size nil = word_size (0 + flag false)
  written_size (boolean x) = omega (arith, headed_size 1 false (word w32 (if x then 1 else 0)), word_size (if x then 1 else 0))
  written_size (int z) = int_size z
  written_size (text t) = omega (arith, headed_size 4 false (written_padded t), padded_size t)
  written_size (name t) = omega (arith, headed_size 21 false (written_padded t), padded_size t)
  written_size (path a ns ss) = path_length a ns ss
  written_size (ints c zs) = omega (arith, headed_size c false (flat_map written_short zs), shorts_size zs)
  written_size (opaque c w bytes) = opaque_length c w bytes
  written_size (dict ts) =
      omega (arith, headed_size 27 false (word w32 (count ts / 2) ++ written_all ts), counted_size (count ts / 2) (written_all ts), all_sizes ts)
  written_size (array ts) = omega (arith, headed_size 28 false (word w32 (count ts) ++ written_all ts), counted_size (count ts) (written_all ts), all_sizes ts)
  written_size (packed_bytes bytes) = omega (arith, headed_size 29 false (written_padded bytes), padded_size bytes)
  written_size (packed_ints false zs) = omega (arith, headed_size 30 false (word w32 (length zs) ++ flat_map written_short zs), counted_size (length zs) (flat_map written_short zs), shorts_size zs)
  written_size (packed_ints true zs) = omega (arith, headed_size 31 false (word w32 (length zs) ++ flat_map written_long zs), counted_size (length zs) (flat_map written_long zs), longs_size zs)
  written_size (packed_texts ts) = omega (arith, headed_size 34 false (word w32 (length ts) ++ flat_map written_padded ts), counted_size (length ts) (flat_map written_padded ts), texts_size ts)

  all_sizes : (ts : Trees) → length (written_all ts) ≡ trees_size ts
  all_sizes none = refl
  all_sizes (item t ts) = omega (arith, length-append (written t) (written_all ts), written_size t, all_sizes ts)

-- ---- compressed

pub small_written_spells : (t : Tree) → is_right t ≡ true → tree_size t ≤ 8388608 → SpellsSmall t (written_small t)
small_written_spells (boolean false) r le = refl
small_written_spells (boolean true) r le = refl
small_written_spells (int z) r le = small_int_form z r
small_written_spells t r le = written_spells t r le

pub small_written_size : (t : Tree) → length (written_small t) ≡ small_tree_size t
small_written_size (boolean false) = refl
small_written_size (boolean true) = refl
small_written_size (int z) = small_int_size z
small_written_size t = written_size t
