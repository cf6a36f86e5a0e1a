-- The readers of a value's parts, by their laws.
use Rattle.std.proofs.Common.{◌≡◌, ℕ, zero, suc, ◌+◌, ◌-◌, ◌*◌, ◌^◌, ◌<◌, Bool, true, false, List, [], ◌∷◌, ◌++◌, length, take, drop, get_or, refl, sym, ap, subst, ◌∙◌, arith, inl, inr, ◌⊎◌}
use Rattle.std.specs.Prelude.{ℤ, not, nat_eq}
use Rattle.std.specs.Int.{Width, w32, w64, byte_len}
use Rattle.std.proofs.lemmas.Bool.{and_parts, eqb-true}
use Rattle.std.proofs.lemmas.List.{length-append, length-take, length-drop, take_at, take_all, take_more, take-append-drop}
use Rattle.byte_fields.specs.Fields.{word, number_at}
use Rattle.byte_fields.specs.Complement.{IsWithin, bits_of, signed_of, half32, half64}
use Rattle.byte_fields.proofs.Fields.{IsWide, wide32, wide64}
use Rattle.byte_fields.proofs.Complement.{signed_of-bits_of, bits_of-below, bits_of-signed_of, signed_of-within}
use Rattle.gd_variant.specs.declared.message.Why.TheVariants.{HeaderBits, Kind, NotCarried, Utf8, Depth, OldPath, PathFlags}
use Rattle.gd_variant.specs.Sound.{has_no_zero, is_text}
use Rattle.variant_codec.specs.Header.{is_kind, is_carried, has_right_flags, has_room}
use Rattle.variant_codec.specs.Parts.{padding, Padded, SpellsText, SpellsElement, SpellsShort, SpellsLong, SpellsEach}
use Rattle.variant_codec.specs.Readers.{Relation, mapped_by, IsWord, IsShort, Mapped, Checked, CheckBreaks, Then, Each}
use Rattle.variant_codec.specs.Reading.{header_at, padded_of, padded_at, text_at, element_at, short_at, long_at, names_at, flags_at}
use Rattle.variant_codec.specs.Tests.{stripped, has_names_bit, is_path_flags}
use Rattle.variant_codec.specs.Breaks.{Word, WordBreaks, Header, HeaderBreaks, PaddedOf, PaddedBreaks, TextBreaks, ElementBreaks}
use Rattle.variant_codec.proofs.Laws.{IsReader, word_reader, raw_reader, mapped_reader, checked_reader, then_reader, seen}

pub word32 : IsReader (number_at w32) Word WordBreaks
word32 = word_reader w32 (2 ^ 32) wide32

pub header_reader : (room : Bool) → IsReader (header_at room) (Header room) (HeaderBreaks room)
unfolding header_at
header_reader room = checked_reader (has_room room) Depth (checked_reader has_right_flags HeaderBits (checked_reader is_carried NotCarried (checked_reader is_kind Kind word32)))

pub names_reader : IsReader names_at (Checked has_names_bit Word) (CheckBreaks has_names_bit OldPath Word WordBreaks)
unfolding names_at
names_reader = checked_reader has_names_bit OldPath word32

pub flags_reader : IsReader flags_at (Checked is_path_flags Word) (CheckBreaks is_path_flags PathFlags Word WordBreaks)
unfolding flags_at
flags_reader = checked_reader is_path_flags PathFlags word32

-- ---- bytes and their padding

padded_of_reader : (n : ℕ) → IsReader (padded_of n) (PaddedOf n) (IsShort (n + padding n))
unfolding padded_of
padded_of_reader n = mapped_reader (take n) (raw_reader (n + padding n))

padded_to : (s b : List ℕ) → Then Word PaddedOf s b → Padded s b
padded_to s b (n, front, more, w, p, e) =
    let x = p.0 in
    let long : length x ≡ n + padding n = p.2.0 in
    let len : length s ≡ n = ap length p.1 ∙ omega (arith, length-take n x) in
    let pad_len : length (drop n x) ≡ padding n = omega (arith, length-drop n x) in
    let parts : more ≡ s ++ drop n x = p.2.1 ∙ sym (take-append-drop n x) ∙ ap (λ (t : List ℕ). t ++ drop n x) (sym p.1) in
    record {
      pad = drop n x;
      short = subst (λ k. k < 2 ^ 32) (sym len) w.0;
      full = pad_len ∙ ap padding (sym len);
      form = e ∙ ap (λ (f : List ℕ). f ++ more) w.1 ∙ ap (λ k. word w32 k ++ more) (sym len) ∙ ap (λ (m : List ℕ). word w32 (length s) ++ m) parts;
    }

padded_from : (s b : List ℕ) → Padded s b → Then Word PaddedOf s b
padded_from s b p =
    let long : length (s ++ p.pad) ≡ length s + padding (length s) = omega (arith, length-append s p.pad, p.full) in
    (length s, word w32 (length s), s ++ p.pad, (p.short, refl), (s ++ p.pad, sym (take_at s p.pad (length s) refl), (long, refl)), p.form)

pub padded_reader : IsReader padded_at Padded PaddedBreaks
unfolding padded_at
padded_reader = seen (then_reader word32 padded_of_reader) padded_to padded_from

-- ---- texts

text_to : (t b : List ℕ) → Then Word (λ n. Checked is_text (PaddedOf n)) t b → SpellsText t b
text_to t b (n, front, more, w, p, e) = (p.0, padded_to t b (n, front, more, w, p.1, e))

text_from : (t b : List ℕ) → SpellsText t b → Then Word (λ n. Checked is_text (PaddedOf n)) t b
text_from t b s = let q = padded_from t b s.1 in (q.0, q.1, q.2, q.3, (s.0, q.4), q.5)

pub text_reader : IsReader text_at SpellsText TextBreaks
unfolding text_at
text_reader = seen (then_reader word32 (λ n. checked_reader is_text Utf8 (padded_of_reader n))) text_to text_from

not_true : (b : Bool) → not b ≡ true → b ≡ false
not_true true h = sym h
not_true false h = refl

-- a text has no zero byte at any place
no_zero_at : (t : List ℕ) (i : ℕ) → has_no_zero t ≡ true → nat_eq (get_or t i 1) 0 ≡ false
no_zero_at [] i h = refl
no_zero_at (b ∷ t) zero h = not_true (nat_eq b 0) (and_parts (not (nat_eq b 0)) (has_no_zero t) h).0
no_zero_at (b ∷ t) (suc i) h = no_zero_at t i (and_parts (not (nat_eq b 0)) (has_no_zero t) h).1

stripped_text : (t : List ℕ) → is_text t ≡ true → stripped t ≡ t
stripped_text t h = rw (no_zero_at t (length t - 1) (and_parts (has_no_zero t) _ h).0) refl

at_end : (t : List ℕ) → get_or (t ++ 0 ∷ []) (length t) 1 ≡ 0
at_end [] = refl
at_end (b ∷ t) = at_end t

stripped_zero : (t : List ℕ) → stripped (t ++ 0 ∷ []) ≡ t
stripped_zero t =
    let len : length (t ++ 0 ∷ []) - 1 ≡ length t = omega (arith, length-append t (0 ∷ [])) in
    rw (len, at_end t) (take_at t (0 ∷ []) (length t) refl)

-- a text of a packed array ended with a zero byte, or it didn't
ended : (s : List ℕ) (b : Bool) → nat_eq (get_or s (length s - 1) 1) 0 ≡ b → (stripped s ≡ s) ⊎ (s ≡ stripped s ++ 0 ∷ [])
ended [] b e = inl refl
ended (c ∷ s) false e = inl (rw e refl)
ended (c ∷ s) true e =
    let last : get_or (c ∷ s) (length (c ∷ s) - 1) 1 ≡ 0 = eqb-true _ 0 e in
    let len : length (c ∷ s) - 1 + 1 ≡ length (c ∷ s) = omega arith in
    let lt : length (c ∷ s) - 1 < length (c ∷ s) = omega arith in
    let whole : c ∷ s ≡ take (length (c ∷ s) - 1) (c ∷ s) ++ 0 ∷ [] =
    sym (take_all (length (c ∷ s)) (c ∷ s) (omega arith)) ∙ ap (λ k. take k (c ∷ s)) (sym len) ∙ take_more (c ∷ s) (length (c ∷ s) - 1) 1 lt ∙ ap (λ z. take (length (c ∷ s) - 1) (c ∷ s) ++ z ∷ []) last in
    inr (whole ∙ ap (λ (f : List ℕ). f ++ 0 ∷ []) (sym (rw e refl)))

element_to : (t b : List ℕ) → Then Word (λ n. Checked is_text (Mapped stripped (PaddedOf n))) t b → SpellsElement t b
element_to t b (n, front, more, w, p, e) =
    let s = p.1.0 in
    let q : Padded s b = padded_to s b (n, front, more, w, p.1.2, e) in (
      p.0,
      elim (ended s _ refl) [
        | inl h ↦ inl (subst (λ u. Padded u b) (sym (p.1.1 ∙ h)) q)
        | inr h ↦ inr (subst (λ u. Padded u b) (h ∙ ap (λ (u : List ℕ). u ++ 0 ∷ []) (sym p.1.1)) q)
      ],
    )

element_from : (t b : List ℕ) → SpellsElement t b → Then Word (λ n. Checked is_text (Mapped stripped (PaddedOf n))) t b
element_from t b (h, inl p) = let q = padded_from t b p in (q.0, q.1, q.2, q.3, (h, (t, sym (stripped_text t h), q.4)), q.5)
element_from t b (h, inr p) = let q = padded_from (t ++ 0 ∷ []) b p in (q.0, q.1, q.2, q.3, (h, (t ++ 0 ∷ [], sym (stripped_zero t), q.4)), q.5)

pub element_reader : IsReader element_at SpellsElement ElementBreaks
unfolding element_at
element_reader = seen (then_reader word32 (λ n. checked_reader is_text Utf8 (mapped_reader stripped (padded_of_reader n)))) element_to element_from

-- ---- signed numbers

abbrev pub Signed : Width → ℕ → Relation ℤ
Signed w half z b = IsWithin half z × (b ≡ word w (bits_of half z))

pub signed_to : (w : Width) (half : ℕ) (z : ℤ) (b : List ℕ) → Mapped (signed_of half) (IsWord w (2 * half)) z b → Signed w half z b
signed_to w half z b (n, e, r) = (subst (IsWithin half) (sym e) (signed_of-within half n r.0), r.1 ∙ ap (word w) (sym (ap (bits_of half) e ∙ bits_of-signed_of half n r.0)))

pub signed_from : (w : Width) (half : ℕ) (z : ℤ) (b : List ℕ) → Signed w half z b → Mapped (signed_of half) (IsWord w (2 * half)) z b
signed_from w half z b (fits, e) = (bits_of half z, sym (signed_of-bits_of half z fits), (bits_of-below half z fits, e))

pub signed_reader : (w : Width) (half : ℕ) → IsWide w (2 * half) → IsReader (mapped_by (signed_of half) (number_at w)) (Signed w half) (IsShort (byte_len w))
signed_reader w half wide = seen (mapped_reader (signed_of half) (word_reader w (2 * half) wide)) (signed_to w half) (signed_from w half)

pub short_reader : IsReader short_at SpellsShort (IsShort 4)
unfolding short_at
short_reader = signed_reader w32 half32 wide32

pub long_reader : IsReader long_at SpellsLong (IsShort 8)
unfolding long_at
long_reader = signed_reader w64 half64 wide64

-- ---- lists whose parts don't depend on those before

pub each_to : {X : Type 0} (R : Relation X) (before xs : List X) (b : List ℕ) → Each (λ _. R) before xs b → SpellsEach R xs b
each_to R before [] b e = e
each_to R before (x ∷ xs) b e = (e.0, e.1, e.2, each_to R (before ++ x ∷ []) xs e.1 e.3, e.4)

pub each_from : {X : Type 0} (R : Relation X) (before xs : List X) (b : List ℕ) → SpellsEach R xs b → Each (λ _. R) before xs b
each_from R before [] b e = e
each_from R before (x ∷ xs) b e = (e.0, e.1, e.2, each_from R (before ++ x ∷ []) xs e.1 e.3, e.4)
