-- The parts of a written packet are what they have to be: numbers, values, ids, names, digits.
use Rattle.std.proofs.Common.{◌≡◌, ℕ, ◌+◌, ◌/◌, ◌%◌, ◌^◌, ◌<◌, ◌≤◌, Bool, true, false, List, [], ◌∷◌, ◌++◌, length, refl, sym, arith, inl, inr}
use Rattle.std.specs.Prelude.{◌&&◌, nat_le, nat_lt}
use Rattle.std.specs.Int.{w8, w32}
use Rattle.std.specs.List.{flat_map, AllByRecursion}
use Rattle.std.proofs.lemmas.Bool.{and_parts, and_from, cases_Bool, ltb-true, leb-true, lt-leb, le-leb, ltb-false}
use Rattle.std.proofs.lemmas.List.{length-append}
use Rattle.byte_fields.specs.Fields.{word}
use Rattle.std.specs.Str.{is_utf8}
use Rattle.gd_variant.specs.Tree.{plain as tree_of}
use Rattle.gd_variant.specs.Sound.{is_text, has_no_zero, nesting, is_right}
use Rattle.gd_variant.specs.Size.{tree_size}
use Rattle.gd_variant.specs.declared.value.Variant.{Variant}
use Rattle.variant_codec.specs.Parts.{SpellsEach}
use Rattle.variant_codec.specs.Readers.{Relation, Each, EachOf}
use Rattle.variant_codec.specs.Breaks.{Word}
use Rattle.variant_codec.proofs.Forms.{small_written_spells}
use Rattle.packet_form.specs.Tests.{is_digit, digit_of}
use Rattle.packet_form.specs.Head.{bit}
use Rattle.packet_form.specs.Grammar.{IsValue, IsValues, IsIds, IsPath, IsNameOf, IsDigit, IsDigits, IsDigest, IsFlag}
use Rattle.packet_form.specs.Written.{written_value, written_values, ids_bytes, digit, digits_of, IsSound, AreSound, AreIds, AreBytes, IsName}

-- ---- one after the other

-- each part, as long as all of them are together at most
pub each_written : {X : Type 0} (R : Relation X) (write : X → List ℕ) (Fits : X → Type 0) (most : ℕ) → ((x : X) → Fits x → length (write x) ≤ most → R x (write x)) → (xs : List X) → AllByRecursion Fits xs → length (flat_map write xs) ≤ most → SpellsEach R xs (flat_map write xs)
each_written R write Fits most each [] h le = refl
each_written R write Fits most each (x ∷ xs) h le =
    let both : length (write x ++ flat_map write xs) ≡ length (write x) + length (flat_map write xs) = length-append (write x) (flat_map write xs) in
    (write x, flat_map write xs, each x h.0 (omega (arith, both, le)), each_written R write Fits most each xs h.1 (omega (arith, both, le)), refl)

-- so many parts, none of which depends on those before it
counted_parts : {X : Type 0} (R : Relation X) (write : X → List ℕ) (Fits : X → Type 0) → ((x : X) → Fits x → R x (write x)) → (before xs : List X) → AllByRecursion Fits xs → Each (λ _. R) before xs (flat_map write xs)
counted_parts R write Fits each before [] h = refl
counted_parts R write Fits each before (x ∷ xs) h = (write x, flat_map write xs, each x h.0, counted_parts R write Fits each (before ++ x ∷ []) xs h.1, refl)

pub counted_written : {X : Type 0} (R : Relation X) (write : X → List ℕ) (Fits : X → Type 0) → ((x : X) → Fits x → R x (write x)) → (xs : List X) → AllByRecursion Fits xs → EachOf (λ _. R) (length xs) xs (flat_map write xs)
counted_written R write Fits each xs h = (refl, counted_parts R write Fits each [] xs h)

-- ---- values

pub value_written : (v : Variant) → IsSound v → IsValue v (written_value v)
value_written v s =
    let a = and_parts (is_right (tree_of v) && nat_le (nesting (tree_of v)) 32) (nat_le (tree_size (tree_of v)) 8388608) s in
    let b = and_parts (is_right (tree_of v)) (nat_le (nesting (tree_of v)) 32) a.0 in
    let deep : nesting (tree_of v) ≤ 32 = leb-true (nesting (tree_of v)) 32 b.1 in
    (omega (arith, deep), small_written_spells (tree_of v) b.0 (leb-true (tree_size (tree_of v)) 8388608 a.1))

pub values_written : (vs : List Variant) → AreSound vs → IsValues vs (written_values vs)
values_written [] s = refl
values_written (v ∷ vs) s = (written_value v, written_values vs, value_written v s.0, values_written vs s.1, refl)

pub counted_values : (vs : List Variant) → AreSound vs → EachOf (λ _. IsValue) (length vs) vs (written_values vs)
counted_values vs s = counted_written IsValue written_value IsSound value_written vs s

-- ---- ids

pub ids_written : (ids : List ℕ) → AreIds ids → IsIds (length ids) ids (ids_bytes ids)
ids_written ids h = counted_written Word (word w32) (λ id. id < 2 ^ 32) (λ id lt. (lt, refl)) ids h

-- ---- digits

low_digit : (d n : ℕ) → d ≡ 48 + n → n < 10 → (digit_of d ≡ n) × (is_digit d ≡ true) × (d < 2 ^ 8)
low_digit d n e lt =
    let ge : nat_le 48 d ≡ true = le-leb 48 d (omega (arith, e)) in
    let le : nat_le d 57 ≡ true = le-leb d 57 (omega (arith, e, lt)) in
    (rw le (omega (arith, e)), rw (ge, le) refl, omega (arith, e, lt))

high_digit : (d n : ℕ) → d ≡ 87 + n → 10 ≤ n → n < 16 → (digit_of d ≡ n) × (is_digit d ≡ true) × (d < 2 ^ 8)
high_digit d n e ge lt =
    let no_low : nat_le d 57 ≡ false = lt-leb d 57 (omega (arith, e, ge)) in
    let some : nat_le 48 d ≡ true = le-leb 48 d (omega (arith, e)) in
    let from : nat_le 97 d ≡ true = le-leb 97 d (omega (arith, e, ge)) in
    let to : nat_le d 102 ≡ true = le-leb d 102 (omega (arith, e, lt)) in
    (rw no_low (omega (arith, e)), rw (no_low, some, from, to) refl, omega (arith, e, lt))

digit_is : (n : ℕ) → n < 16 → (digit_of (digit n) ≡ n) × (is_digit (digit n) ≡ true) × (digit n < 2 ^ 8)
digit_is n lt =
    elim (cases_Bool (nat_lt n 10)) [
      | inl a ↦ low_digit (digit n) n (rw a refl) (ltb-true n 10 a)
      | inr a ↦ high_digit (digit n) n (rw a refl) (ltb-false n 10 a) lt
    ]

digit_written : (n : ℕ) → n < 16 → IsDigit n (word w8 (digit n))
digit_written n lt = let d = digit_is n lt in (digit n, sym d.0, (d.1, (d.2, refl)))

digits_written : (n : ℕ) → n < 2 ^ 8 → IsDigits n (digits_of n)
digits_written n lt =
    (n / 16, word w8 (digit (n / 16)), word w8 (digit (n % 16)), digit_written (n / 16) (omega (arith, lt)), (n % 16, omega arith, digit_written (n % 16) (omega arith)), refl)

pub digest_written : (digest : List ℕ) → length digest ≡ 16 → AreBytes digest → IsDigest digest (flat_map digits_of digest)
digest_written digest len fits = (len, (counted_written IsDigits digits_of (λ b. b < 2 ^ 8) digits_written digest fits).1)

pub flag_written : (ok : Bool) → IsFlag ok (word w8 (bit ok))
flag_written true = (1, refl, (refl, (omega arith, refl)))
flag_written false = (0, refl, (refl, (omega arith, refl)))

-- ---- names

pub path_written : (t : List ℕ) → is_text t ≡ true → IsPath t (t ++ 0 ∷ [])
path_written t h = (h, refl)

pub name_written : (t : List ℕ) → IsName t → IsNameOf (length t + 1) t (t ++ 0 ∷ [])
name_written t n = (refl, path_written t (and_from (has_no_zero t) (is_utf8 t) n.zero n.utf8))
