-- What is spelled is right, and is written with no more bytes.
use Rattle.std.proofs.Common.{◌≡◌, ℕ, ◌+◌, ◌*◌, ◌/◌, ◌^◌, ◌<◌, ◌≤◌, Bool, true, false, List, [], ◌∷◌, ◌++◌, length, refl, ap, ◌∙◌, arith, inl, inr}
use Rattle.std.specs.Prelude.{ℤ, pos, negsuc, not, nat_eq, nat_le, nat_lt, sum_by, if◌then◌else◌}
use Rattle.std.specs.Int.{w8, w16, w32, w64}
use Rattle.std.specs.List.{list_all}
use Rattle.std.proofs.lemmas.Bool.{and_from, eq-eqb, lt-ltb, le-leb, leb-true, ltb-false, cases_Bool}
use Rattle.std.proofs.lemmas.List.{length-append}
use Rattle.std.proofs.lemmas.List.Sums.{sum_by-cons}
use Rattle.byte_fields.specs.Fields.{word}
use Rattle.byte_fields.specs.Complement.{IsWithin, bits_of, half8, half16, half32, half64}
use Rattle.byte_fields.proofs.Fields.{wide8, wide16, wide32, wide64, length-word}
use Rattle.gd_variant.specs.Tree.{Tree, Trees, nil, boolean, int, text, name, path, ints, opaque, dict, array, packed_bytes, packed_ints, packed_texts, none, item}
use Rattle.gd_variant.specs.Size.{text_size, int_width, tree_size, trees_size, small_tree_size}
use Rattle.gd_variant.specs.Sound.{is_text, is_short, is_long, ints_count, element_size, is_right, are_right}
use Rattle.variant_codec.specs.Header.{flag, header}
use Rattle.variant_codec.specs.Parts.{Padded, SpellsText, SpellsElement, SpellsShort, SpellsLong, SpellsEach, Headed, Numbered, Counted, shared, SpellsPath, path_flags, count}
use Rattle.variant_codec.specs.Grammar.{SpellsOpaque, Spells, SpellsAll, SpellsSmallInt, SpellsSmall}

-- ---- numbers

pub short_is : (z : ℤ) → IsWithin half32 z → is_short z ≡ true
short_is (pos n) h = lt-ltb n (2 ^ 31) h
short_is (negsuc n) h = lt-ltb n (2 ^ 31) h

pub long_is : (z : ℤ) → IsWithin half64 z → is_long z ≡ true
long_is (pos n) h = lt-ltb n (2 ^ 63) h
long_is (negsuc n) h = lt-ltb n (2 ^ 63) h

short_long : (z : ℤ) → IsWithin half32 z → IsWithin half64 z
short_long (pos n) h = omega (arith, h)
short_long (negsuc n) h = omega (arith, h)

-- ---- lists

each_all : {X : Type 0} (R : X → List ℕ → Type 0) (p : X → Bool) → ((x : X) (b : List ℕ) → R x b → p x ≡ true) → (xs : List X) (b : List ℕ) → SpellsEach R xs b → list_all p xs ≡ true
each_all R p each [] b e = refl
each_all R p each (x ∷ xs) b e = and_from (p x) (list_all p xs) (each x e.0 e.2) (each_all R p each xs e.1 e.3)

each_sum : {X : Type 0} (R : X → List ℕ → Type 0) (f : X → ℕ) → ((x : X) (b : List ℕ) → R x b → f x ≤ length b) → (xs : List X) (b : List ℕ) → SpellsEach R xs b → sum_by f xs ≤ length b
each_sum R f each [] b e = omega arith
each_sum R f each (x ∷ xs) b e = omega (arith, sum_by-cons f x xs, each x e.0 e.2, each_sum R f each xs e.1 e.3, ap length e.4, length-append e.0 e.1)

four_each : (zs : List ℤ) (b : List ℕ) → SpellsEach SpellsShort zs b → 4 * length zs ≤ length b
four_each [] b e = omega arith
four_each (z ∷ zs) b e = omega (arith, ap length e.2.1, length-word w32 (2 ^ 32) wide32 (bits_of half32 z), four_each zs e.1 e.3, ap length e.4, length-append e.0 e.1)

eight_each : (zs : List ℤ) (b : List ℕ) → SpellsEach SpellsLong zs b → 8 * length zs ≤ length b
eight_each [] b e = omega arith
eight_each (z ∷ zs) b e = omega (arith, ap length e.2.1, length-word w64 (2 ^ 64) wide64 (bits_of half64 z), eight_each zs e.1 e.3, ap length e.4, length-append e.0 e.1)

-- ---- texts

padded_size : (s b : List ℕ) → Padded s b → length b ≡ text_size s
padded_size s b p =
    omega (arith, ap length p.form, length-append (word w32 (length s)) (s ++ p.pad), length-append s p.pad, length-word w32 (2 ^ 32) wide32 (length s), p.full)

text_fits : (t b : List ℕ) → SpellsText t b → text_size t ≤ length b
text_fits t b s = omega (arith, padded_size t b s.1)

element_fits : (t b : List ℕ) → SpellsElement t b → text_size t ≤ length b
element_fits t b (h, inl p) = omega (arith, padded_size t b p)
element_fits t b (h, inr p) = omega (arith, padded_size (t ++ 0 ∷ []) b p, length-append t (0 ∷ []))

-- ---- heads

headed_size : (c : ℕ) (w : Bool) (P : List ℕ → Type 0) (b : List ℕ) → (h : Headed c w P b) → length b ≡ 4 + length h.body
headed_size c w P b h = ap length h.form ∙ length-append (header c w) h.body ∙ ap (λ k. k + length h.body) (length-word w32 (2 ^ 32) wide32 (c + flag w))

numbered_size : (n : ℕ) (P : List ℕ → Type 0) (b : List ℕ) → (h : Numbered n P b) → length b ≡ 4 + length h.body
numbered_size n P b h = ap length h.form ∙ length-append (word w32 n) h.body ∙ ap (λ k. k + length h.body) (length-word w32 (2 ^ 32) wide32 n)

counted_size : (n : ℕ) (P : List ℕ → Type 0) (b : List ℕ) → (h : Counted n P b) → length b ≡ 4 + length h.body
counted_size n P b h = ap length h.form ∙ length-append (word w32 (n + shared h.bit)) h.body ∙ ap (λ k. k + length h.body) (length-word w32 (2 ^ 32) wide32 (n + shared h.bit))

word_size : (n : ℕ) → length (word w32 n) ≡ 4
word_size n = length-word w32 (2 ^ 32) wide32 n

-- ---- right

mutual
  pub spelled_right : (t : Tree) (b : List ℕ) → Spells t b → is_right t ≡ true
  spelled_right nil b s = refl
  spelled_right (boolean x) b s = refl
  spelled_right (int z) b (inl s) = long_is z (short_long z s.right.0)
  spelled_right (int z) b (inr s) = long_is z s.right.0
  spelled_right (text t) b s = s.right.0
  spelled_right (name t) b s = s.right.0
  spelled_right (path a ns ss) b s =
      and_from _ _ (and_from (list_all is_text ns) (list_all is_text ss) (each_all SpellsText is_text (λ t c h. h.0) ns s.right.names_bytes s.right.names_right)
      (each_all SpellsText is_text (λ t c h. h.0) ss s.right.subnames_bytes s.right.subnames_right)) (lt-ltb (length ns) (2 ^ 31) s.right.names_fit)
  spelled_right (ints c zs) b s =
      and_from _ _ (and_from (not (nat_eq (ints_count c) 0)) (nat_eq (length zs) (ints_count c)) (ap not s.right.0) (eq-eqb (length zs) (ints_count c) s.right.1))
      (each_all SpellsShort is_short (λ z d h. short_is z h.0) zs s.body s.right.2)
  spelled_right (opaque c w bytes) b s = s.right.0
  spelled_right (dict ts) b s = and_from _ _ s.0 (all_right ts s.3.right.body s.3.right.right)
  spelled_right (array ts) b s = all_right ts s.right.body s.right.right
  spelled_right (packed_bytes bytes) b s = refl
  spelled_right (packed_ints false zs) b s = each_all SpellsShort is_short (λ z d h. short_is z h.0) zs s.right.body s.right.right
  spelled_right (packed_ints true zs) b s = each_all SpellsLong is_long (λ z d h. long_is z h.0) zs s.right.body s.right.right
  spelled_right (packed_texts ts) b s = each_all SpellsElement is_text (λ t d h. h.0) ts s.right.body s.right.right

  all_right : (ts : Trees) (b : List ℕ) → SpellsAll ts b → are_right ts ≡ true
  all_right none b s = refl
  all_right (item t ts) b s = and_from (is_right t) (are_right ts) (spelled_right t s.0 s.2) (all_right ts s.1 s.3)

-- ---- sizes

int_size : (z : ℤ) (n : ℕ) → 12 ≤ n → tree_size (int z) ≤ n
int_size z n le = elim (cases_Bool (nat_le (int_width z) 4)) [ inl e ↦ rw e (omega (arith, le)) | inr e ↦ rw e le ]

-- how many bytes a number below a limit needs
abbrev bytes_for : ℕ → ℕ
bytes_for n = if nat_lt n (2 ^ 7) then 1 else if nat_lt n (2 ^ 15) then 2 else if nat_lt n (2 ^ 31) then 4 else 8

few_bytes : (n : ℕ) → (bytes_for n ≤ 8) × (n < 2 ^ 31 → bytes_for n ≤ 4) × (n < 2 ^ 15 → bytes_for n ≤ 2) × (n < 2 ^ 7 → bytes_for n ≡ 1)
few_bytes n =
    elim (cases_Bool (nat_lt n (2 ^ 7))) [
      | inl a ↦ rw a (omega arith, λ _. omega arith, λ _. omega arith, λ _. refl)
      | inr a ↦ elim (cases_Bool (nat_lt n (2 ^ 15))) [
        | inl b ↦ rw (a, b) (omega arith, λ _. omega arith, λ _. omega arith, λ h. absurd (omega (arith, ltb-false n (2 ^ 7) a, h)))
        | inr b ↦ elim (cases_Bool (nat_lt n (2 ^ 31))) [
          | inl d ↦ rw (a, b, d) (omega arith, λ _. omega arith, λ h. absurd (omega (arith, ltb-false n (2 ^ 15) b, h)), λ h. absurd (omega (arith, ltb-false n (2 ^ 7) a, h)))
          | inr d ↦ rw (a, b, d) (omega arith, λ h. absurd (omega (arith, ltb-false n (2 ^ 31) d, h)), λ h. absurd (omega (arith, ltb-false n (2 ^ 15) b, h)), λ h. absurd (omega (arith, ltb-false n (2 ^ 7) a, h)))
        ]
      ]
    ]

short_width : (z : ℤ) → IsWithin half32 z → nat_le (int_width z) 4 ≡ true
short_width (pos n) h = le-leb (bytes_for n) 4 ((few_bytes n).1 h)
short_width (negsuc n) h = le-leb (bytes_for n) 4 ((few_bytes n).1 h)

two_bytes : (z : ℤ) → IsWithin half16 z → int_width z ≤ 2
two_bytes (pos n) h = (few_bytes n).2 h
two_bytes (negsuc n) h = (few_bytes n).2 h

one_byte : (z : ℤ) → IsWithin half8 z → int_width z ≡ 1
one_byte (pos n) h = (few_bytes n).3 h
one_byte (negsuc n) h = (few_bytes n).3 h

eight_bytes : (z : ℤ) → int_width z ≤ 8
eight_bytes (pos n) = (few_bytes n).0
eight_bytes (negsuc n) = (few_bytes n).0

wider : (half : ℕ) (z : ℤ) → half ≤ half64 → IsWithin half z → IsWithin half64 z
wider half (pos n) le h = omega (arith, le, h)
wider half (negsuc n) le h = omega (arith, le, h)

path_size : (a : Bool) (ns ss : List (List ℕ)) (b : List ℕ) → Headed 22 false (SpellsPath (path_flags a) ns ss) b → tree_size (path a ns ss) ≤ length b
path_size a ns ss b s =
    let p = s.right in
    let x = word w32 (2147483648 + length ns) in
    let y = word w32 (length ss) in
    let z = word w32 (path_flags a) in
    omega (
      arith,
      headed_size 22 false _ b s,
      ap length p.form,
      length-append x (y ++ (z ++ (p.names_bytes ++ p.subnames_bytes))),
      length-append y (z ++ (p.names_bytes ++ p.subnames_bytes)),
      length-append z (p.names_bytes ++ p.subnames_bytes),
      length-append p.names_bytes p.subnames_bytes,
      word_size (2147483648 + length ns),
      word_size (length ss),
      word_size (path_flags a),
      each_sum SpellsText text_size text_fits ns p.names_bytes p.names_right,
      each_sum SpellsText text_size text_fits ss p.subnames_bytes p.subnames_right,
    )

opaque_size : (c : ℕ) (w : Bool) (bytes b : List ℕ) → Headed c w (SpellsOpaque c w bytes) b → tree_size (opaque c w bytes) ≤ length b
opaque_size c w bytes b s =
    elim (cases_Bool (nat_le 32 c)) [
      | inl big ↦
          let body : s.body ≡ word w32 (length bytes / element_size c w) ++ bytes = rw big at s.right.1 in
          rw big (omega (arith, headed_size c w (SpellsOpaque c w bytes) b s, ap length body, length-append (word w32 (length bytes / element_size c w)) bytes, word_size (length bytes / element_size c w)))
      | inr small ↦
          let body : s.body ≡ bytes = rw small at s.right.1 in
          rw small (omega (arith, headed_size c w (SpellsOpaque c w bytes) b s, ap length body))
    ]

mutual
  pub spelled_size : (t : Tree) (b : List ℕ) → Spells t b → tree_size t ≤ length b
  spelled_size nil b s = omega (arith, headed_size 0 false _ b s)
  spelled_size (boolean x) b s = omega (arith, headed_size 1 false _ b s, ap length s.right.form, word_size s.right.bits)
  spelled_size (int z) b (inl s) = rw (short_width z s.right.0) (omega (arith, headed_size 2 false _ b s, ap length s.right.1, word_size (bits_of half32 z)))
  spelled_size (int z) b (inr s) = int_size z (length b) (omega (arith, headed_size 2 true _ b s, ap length s.right.1, length-word w64 (2 ^ 64) wide64 (bits_of half64 z)))
  spelled_size (text t) b s = omega (arith, headed_size 4 false _ b s, text_fits t s.body s.right)
  spelled_size (name t) b s = omega (arith, headed_size 21 false _ b s, text_fits t s.body s.right)
  spelled_size (path a ns ss) b s = path_size a ns ss b s
  spelled_size (ints c zs) b s = omega (arith, headed_size c false _ b s, four_each zs s.body s.right.2)
  spelled_size (opaque c w bytes) b s = opaque_size c w bytes b s
  spelled_size (dict ts) b s = omega (arith, headed_size 27 false _ b s.3, counted_size s.1 _ s.3.body s.3.right, all_size ts s.3.right.body s.3.right.right)
  spelled_size (array ts) b s = omega (arith, headed_size 28 false _ b s, counted_size (count ts) _ s.body s.right, all_size ts s.right.body s.right.right)
  spelled_size (packed_bytes bytes) b s = omega (arith, headed_size 29 false _ b s, padded_size bytes s.body s.right)
  spelled_size (packed_ints false zs) b s = omega (arith, headed_size 30 false _ b s, numbered_size (length zs) _ s.body s.right, four_each zs s.right.body s.right.right)
  spelled_size (packed_ints true zs) b s = omega (arith, headed_size 31 false _ b s, numbered_size (length zs) _ s.body s.right, eight_each zs s.right.body s.right.right)
  spelled_size (packed_texts ts) b s =
      omega (arith, headed_size 34 false _ b s, numbered_size (length ts) _ s.body s.right, each_sum SpellsElement text_size element_fits ts s.right.body s.right.right)

  all_size : (ts : Trees) (b : List ℕ) → SpellsAll ts b → trees_size ts ≤ length b
  all_size none b s = omega arith
  all_size (item t ts) b s = omega (arith, spelled_size t s.0 s.2, all_size ts s.1 s.3, ap length s.4, length-append s.0 s.1)

small_int_size : (z : ℤ) (b : List ℕ) → SpellsSmallInt z b → 1 + int_width z ≤ length b
small_int_size z b (inl s) = rw (one_byte z s.0) (omega (arith, ap length s.1, length-word w8 (2 ^ 8) wide8 (bits_of half8 z)))
small_int_size z b (inr (inl s)) = (let w = two_bytes z s.0 in omega (arith, w, ap length s.1, length-word w16 (2 ^ 16) wide16 (bits_of half16 z)))
small_int_size z b (inr (inr (inl s))) = (let w = leb-true (int_width z) 4 (short_width z s.0) in omega (arith, w, ap length s.1, length-word w32 (2 ^ 32) wide32 (bits_of half32 z)))
small_int_size z b (inr (inr (inr s))) = (let w = eight_bytes z in omega (arith, w, ap length s.1, length-word w64 (2 ^ 64) wide64 (bits_of half64 z)))

pub small_spelled_right : (t : Tree) (b : List ℕ) → SpellsSmall t b → is_right t ≡ true
small_spelled_right (boolean x) b s = refl
small_spelled_right (int z) b (inl s) = long_is z (wider half8 z (omega arith) s.0)
small_spelled_right (int z) b (inr (inl s)) = long_is z (wider half16 z (omega arith) s.0)
small_spelled_right (int z) b (inr (inr (inl s))) = long_is z (wider half32 z (omega arith) s.0)
small_spelled_right (int z) b (inr (inr (inr s))) = long_is z s.0
small_spelled_right t b s = spelled_right t b s

pub small_spelled_size : (t : Tree) (b : List ℕ) → SpellsSmall t b → small_tree_size t ≤ length b
small_spelled_size (boolean false) b s = omega (arith, ap length s)
small_spelled_size (boolean true) b s = omega (arith, ap length s)
small_spelled_size (int z) b s = small_int_size z b s
small_spelled_size t b s = spelled_size t b s

-- a Bool or an Int always fits
pub small_fits : (t : Tree) (b : List ℕ) → SpellsSmall t b → length b ≤ 8388608 → tree_size t ≤ 8388608
small_fits (boolean x) b s le = omega arith
small_fits (int z) b s le = int_size z 8388608 (omega arith)
small_fits t b s le = omega (arith, spelled_size t b s, le)
