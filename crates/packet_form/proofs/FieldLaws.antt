-- The fields of packets, by the laws of their readers.
use Rattle.std.proofs.Common.{◌≡◌, ℕ, zero, suc, ◌+◌, ◌-◌, ◌*◌, ◌^◌, ◌<◌, Bool, true, false, eqb, List, [], ◌∷◌, ◌++◌, length, get_or, take, Err, refl, sym, ap, ◌∙◌, arith, inl, inr}
use Rattle.std.specs.Prelude.{nat_eq}
use Rattle.std.specs.Int.{w8, w16, w64, byte_len}
use Rattle.std.specs.Str.{is_utf8}
use Rattle.std.proofs.lemmas.Bool.{and_parts, and_from, eqb-true, eqb-false, ne_eqb}
use Rattle.std.proofs.lemmas.List.{length-append, length-take, take_at, take_all, take_more}
use Rattle.byte_fields.specs.Fields.{fault, number_at}
use Rattle.byte_fields.proofs.Fields.{IsWide, wide8, wide16, wide32, wide64, chosen}
use Rattle.gd_variant.specs.Sound.{has_no_zero}
use Rattle.gd_variant.specs.declared.message.Why.TheVariants.{Short, Utf8, Empty, Command, Width, PathEnd, Digits, Count}
use Rattle.variant_codec.specs.Readers.{IsShort, IsRaw, Checked, CheckBreaks, Mapped}
use Rattle.variant_codec.specs.Breaks.{Word, WordBreaks}
use Rattle.variant_codec.proofs.Laws.{IsReader, no_ok, no_err, err_is, here, word_reader, raw_reader, mapped_reader, checked_reader, then_reader, list_reader, seen}
use Rattle.variant_codec.proofs.Fields.{word32}
use Rattle.packet_form.specs.declared.head.CallHead.{CallHead}
use Rattle.packet_form.specs.declared.head.NodeWidth.{NodeWidth}
use Rattle.packet_form.specs.declared.head.NodeWidth.TheVariants.{One, Two, Four}
use Rattle.packet_form.specs.Head.{is_command, has_width, head_of, width_of, method_width}
use Rattle.packet_form.specs.Reading.{first_at, head_at, ids_at, name_length_at, name_at, count_at, digit_at, digits_at, digest_at, zero_at, flag_at, subcommand_at}
use Rattle.packet_form.specs.Tests.{is_some, ends_name, is_digit, digit_of, is_zero, is_flag, is_subcommand}
use Rattle.packet_form.specs.Grammar.{Byte, HalfWord, LongWord, Id, MethodId, IsHead, IsIds, IsNameOf, IsDigit, IsDigest, IsFlag}
use Rattle.packet_form.specs.Breaks.{IsEmpty, HeadBreaks, IdsBreak, NameBreaks, CountBreaks, MethodIdBreaks, DigitBreaks, DigestBreaks, FlagBreaks}

-- ---- numbers

pub byte_reader : IsReader (number_at w8) Byte (IsShort 1)
byte_reader = word_reader w8 (2 ^ 8) wide8

pub half_reader : IsReader (number_at w16) HalfWord (IsShort 2)
half_reader = word_reader w16 (2 ^ 16) wide16

pub long_reader : IsReader (number_at w64) LongWord (IsShort 8)
long_reader = word_reader w64 (2 ^ 64) wide64

node_wide : (w : NodeWidth) → IsWide (width_of w) (2 ^ (8 * byte_len (width_of w)))
node_wide One = wide8
node_wide Two = wide16
node_wide Four = wide32

method_wide : (wide : Bool) → IsWide (method_width wide) (2 ^ (8 * byte_len (method_width wide)))
method_wide true = wide16
method_wide false = wide8

pub id_reader : (h : CallHead) → IsReader (number_at (width_of h.node)) (Id h) (IsShort (byte_len (width_of h.node)))
id_reader h = word_reader (width_of h.node) (2 ^ (8 * byte_len (width_of h.node))) (node_wide h.node)

pub method_reader : (h : CallHead) → IsReader (number_at (method_width h.wide_method)) (MethodId h) (MethodIdBreaks h)
method_reader h = word_reader (method_width h.wide_method) (2 ^ (8 * byte_len (method_width h.wide_method))) (method_wide h.wide_method)

pub ids_reader : (n : ℕ) → IsReader (ids_at n) (IsIds n) (IdsBreak n)
unfolding ids_at
ids_reader n = list_reader (λ _. word32) n

-- ---- the first byte

no_byte : (b : List ℕ) → eqb (length b) 0 ≡ true → b ≡ []
no_byte [] h = refl
no_byte (c ∷ b) h = absurd (omega (arith, eqb-true (length (c ∷ b)) 0 h))

no_byte_reads : number_at w8 [] ≡ Err (fault 0 Short)
unfolding number_at
no_byte_reads = refl

first_again : (n : ℕ) (front rest : List ℕ) → Byte n front → first_at (front ++ rest) ≡ number_at w8 (front ++ rest)
unfolding first_at
first_again n [] rest r = absurd (no_ok (n, []) (fault 0 Short) (sym (byte_reader.again n [] [] r) ∙ no_byte_reads))
first_again n (c ∷ front) rest r = rw (ne_eqb (length (c ∷ (front ++ rest))) 0 (λ e. omega (arith, e))) refl

pub first_reader : IsReader first_at Byte IsEmpty
unfolding first_at
first_reader = record {
  takes = λ bytes y fits e.
      elim (chosen (eqb (length bytes) 0) _ _ _ e) [
        | inl h ↦ absurd (no_err _ y h.1)
        | inr h ↦ byte_reader.takes bytes y fits h.1
      ];
  again = λ n front rest r. first_again n front rest r ∙ byte_reader.again n front rest r;
  breaks = λ bytes f fits e.
      elim (chosen (eqb (length bytes) 0) _ _ _ e) [
        | inl h ↦
            let none = no_byte bytes h.0 in
            here IsEmpty bytes f Empty (ap (λ (l : List ℕ). fault (length l) Empty) none ∙ err_is _ f h.1) (none, refl, refl)
        | inr h ↦
            let k = byte_reader.breaks bytes f fits h.1 in
            let some = eqb-false (length bytes) 0 h.0 in
            absurd (some (omega (arith, k.breaks.0)))
      ];
  broken = λ bytes rest why b. ap first_at b.0 ∙ ap (λ (l : List ℕ). Err (fault (length l) Empty)) (sym (b.1 ∙ b.0)) ∙ ap (λ y. Err (fault (length rest) y)) (sym b.2);
}

pub head_reader : IsReader head_at IsHead HeadBreaks
unfolding head_at
head_reader = mapped_reader head_of (checked_reader has_width Width (checked_reader is_command Command first_reader))

-- ---- names

pub name_length_reader : IsReader name_length_at (Checked is_some Word) (CheckBreaks is_some PathEnd Word WordBreaks)
unfolding name_length_at
name_length_reader = checked_reader is_some PathEnd word32

-- what is_some says
pub more_than_none : (n : ℕ) → is_some n ≡ true → 0 < n
more_than_none zero h = absurd cc
more_than_none (suc n) h = omega arith

-- what was read as a name: so many bytes, of which the last is the only zero, and text before it
abbrev NameField : ℕ → List ℕ → List ℕ → Type 0
NameField len = Mapped (take (len - 1)) (Checked (λ s. is_utf8 (take (len - 1) s)) (Checked (ends_name len) (IsRaw len)))

last_zero : (s : List ℕ) (len : ℕ) → 0 < len → length s ≡ len → get_or s (len - 1) 0 ≡ 0 → s ≡ take (len - 1) s ++ 0 ∷ []
last_zero s len some long last =
    let k : len - 1 + 1 ≡ len = omega (arith, some) in
    sym (take_all len s (omega (arith, long))) ∙ ap (λ n. take n s) (sym k) ∙ take_more s (len - 1) 0 (omega (arith, long, some)) ∙ ap (λ z. take (len - 1) s ++ z ∷ []) last

name_to : (len : ℕ) → 0 < len → (t b : List ℕ) → NameField len t b → IsNameOf len t b
name_to len some t b (s, is, (text, (ends, (long, e)))) =
    let p = and_parts (nat_eq (get_or s (len - 1) 0) 0) (has_no_zero (take (len - 1) s)) ends in
    let whole : s ≡ take (len - 1) s ++ 0 ∷ [] = last_zero s len some long (eqb-true _ 0 p.0) in (
      omega (arith, ap length is, length-take (len - 1) s, long, some),
      (and_from (has_no_zero t) (is_utf8 t) (ap has_no_zero is ∙ p.1) (ap is_utf8 is ∙ text), e ∙ whole ∙ ap (λ (u : List ℕ). u ++ 0 ∷ []) (sym is)),
    )

at_end : (t : List ℕ) → get_or (t ++ 0 ∷ []) (length t) 0 ≡ 0
at_end [] = refl
at_end (c ∷ t) = at_end t

name_from : (len : ℕ) (t b : List ℕ) → IsNameOf len t b → NameField len t b
name_from len t b (long, (text, e)) =
    let p = and_parts (has_no_zero t) (is_utf8 t) text in
    let k : len - 1 ≡ length t = omega (arith, long) in
    let front : take (len - 1) (t ++ 0 ∷ []) ≡ t = take_at t (0 ∷ []) (len - 1) (sym k) in
    let last : get_or (t ++ 0 ∷ []) (len - 1) 0 ≡ 0 = ap (λ n. get_or (t ++ 0 ∷ []) n 0) k ∙ at_end t in
    let ends : ends_name len (t ++ 0 ∷ []) ≡ true = and_from _ _ (ap (λ n. nat_eq n 0) last) (ap has_no_zero front ∙ p.0) in
    (t ++ 0 ∷ [], sym front, (ap is_utf8 front ∙ p.1, (ends, (omega (arith, length-append t (0 ∷ []), long), e))))

pub name_reader : (len : ℕ) → 0 < len → IsReader (name_at len) (IsNameOf len) (NameBreaks len)
unfolding name_at
name_reader len some =
    seen (mapped_reader (take (len - 1)) (checked_reader (λ s. is_utf8 (take (len - 1) s)) Utf8 (checked_reader (ends_name len) PathEnd (raw_reader len)))) (name_to len some) (name_from len)

-- ---- counts, digits and marks

pub count_reader : IsReader count_at (Checked is_some Byte) CountBreaks
unfolding count_at
count_reader = checked_reader is_some Count byte_reader

pub digit_reader : IsReader digit_at IsDigit DigitBreaks
unfolding digit_at
digit_reader = mapped_reader digit_of (checked_reader is_digit Digits byte_reader)

pub digest_reader : IsReader digest_at IsDigest DigestBreaks
unfolding digest_at digits_at
digest_reader = list_reader (λ _. then_reader digit_reader (λ high. mapped_reader (λ low. 16 * high + low) digit_reader)) 16

pub zero_reader : IsReader zero_at (Checked is_zero Byte) (CheckBreaks is_zero Digits Byte (IsShort 1))
unfolding zero_at
zero_reader = checked_reader is_zero Digits byte_reader

pub flag_reader : IsReader flag_at IsFlag FlagBreaks
unfolding flag_at
flag_reader = mapped_reader is_some (checked_reader is_flag Digits byte_reader)

pub subcommand_reader : IsReader subcommand_at (Checked is_subcommand Byte) (CheckBreaks is_subcommand Command Byte (IsShort 1))
unfolding subcommand_at
subcommand_reader = checked_reader is_subcommand Command byte_reader
