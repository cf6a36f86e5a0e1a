-- Paths and names: a text and the zero byte behind it.
use Rattle.std.proofs.Common.{◌≡◌, ℕ, ◌+◌, ◌-◌, ◌<◌, Bool, true, false, cond, eqb, ltb, List, [], ◌∷◌, ◌++◌, length, Ok, Err, refl, sym, ap, subst, ◌∙◌, arith, inl, inr}
use Rattle.std.specs.Prelude.{not}
use Rattle.std.specs.List.{prefix_len}
use Rattle.std.specs.Str.{is_utf8}
use Rattle.std.proofs.lemmas.Bool.{and_parts, and_from, eqb-true, eq-eqb, ne_eqb, lt-ltb, le-ltb}
use Rattle.std.proofs.lemmas.List.{length-append, take_at}
use Rattle.byte_fields.specs.declared.fault.Fault.{Fault}
use Rattle.byte_fields.specs.Fields.{IsBytes, fault}
use Rattle.byte_fields.proofs.Fields.{chosen, ok_is}
use Rattle.gd_variant.specs.Sound.{has_no_zero}
use Rattle.gd_variant.specs.declared.message.Why.{Why}
use Rattle.gd_variant.specs.declared.message.Why.TheVariants.{Utf8, PathEnd, Trailing}
use Rattle.variant_codec.proofs.Laws.{Broke, no_ok, no_err, err_is, here}
use Rattle.packet_form.specs.Reading.{path_at}
use Rattle.packet_form.specs.Tests.{is_some}
use Rattle.packet_form.specs.Grammar.{IsPath}
use Rattle.packet_form.specs.Breaks.{PathBreaks}
use Rattle.packet_form.proofs.Wholes.{IsWhole}

-- ---- the bytes in front of the first zero byte

-- there is no zero byte, or a first one
data Split (b : List ℕ) : Type 0 where
  endless : has_no_zero b ≡ true → Split b
  ended : (t rest : List ℕ) → has_no_zero t ≡ true → b ≡ t ++ 0 ∷ rest → Split b

no_zero_in : (c : ℕ) (b : List ℕ) → eqb c 0 ≡ false → has_no_zero b ≡ true → has_no_zero (c ∷ b) ≡ true
no_zero_in c b e h = rw (e, h) refl

split_more : (c : ℕ) (b : List ℕ) → eqb c 0 ≡ false → Split b → Split (c ∷ b)
split_more c b e (endless h) = endless (no_zero_in c b e h)
split_more c b e (ended t rest h p) = ended (c ∷ t) rest (no_zero_in c t e h) (ap (λ (l : List ℕ). c ∷ l) p)

split_first : (c : ℕ) (b : List ℕ) (z : Bool) → eqb c 0 ≡ z → Split b → Split (c ∷ b)
split_first c b true e s = ended [] b refl (ap (λ d. d ∷ b) (eqb-true c 0 e))
split_first c b false e s = split_more c b e s

split : (b : List ℕ) → Split b
split [] = endless refl
split (c ∷ b) = split_first c b (eqb c 0) refl (split b)

first_not_zero : (c : ℕ) (t : List ℕ) → has_no_zero (c ∷ t) ≡ true → (eqb c 0 ≡ false) × (has_no_zero t ≡ true)
first_not_zero c t h = let p = and_parts (not (eqb c 0)) (has_no_zero t) h in (not_true (eqb c 0) p.0, p.1)
  where
    not_true : (b : Bool) → not b ≡ true → b ≡ false
    not_true true h = sym h
    not_true false h = refl

before_zero : (t rest : List ℕ) → has_no_zero t ≡ true → prefix_len is_some (t ++ 0 ∷ rest) ≡ length t
before_zero [] rest h = refl
before_zero (c ∷ t) rest h = let p = first_not_zero c t h in rw (p.0, before_zero t rest p.1) (omega arith)

without_zero : (t : List ℕ) → has_no_zero t ≡ true → prefix_len is_some t ≡ length t
without_zero [] h = refl
without_zero (c ∷ t) h = let p = first_not_zero c t h in rw (p.0, without_zero t p.1) (omega arith)

-- ---- what is read then

reads_endless : (b : List ℕ) → has_no_zero b ≡ true → path_at b ≡ Err (fault (length b) PathEnd)
unfolding path_at
reads_endless b h = rw (eq-eqb (prefix_len is_some b) (length b) (without_zero b h)) refl

text_length : (t rest : List ℕ) → length (t ++ 0 ∷ rest) ≡ length t + 1 + length rest
text_length t rest = omega (arith, length-append t (0 ∷ rest))

reads_more : (t rest : List ℕ) → has_no_zero t ≡ true → 0 < length rest → path_at (t ++ 0 ∷ rest) ≡ Err (fault (length rest) Trailing)
unfolding path_at
reads_more t rest h some =
    let len = text_length t rest in
    let some_zero : eqb (length t) (length (t ++ 0 ∷ rest)) ≡ false = ne_eqb _ _ (λ e. omega (arith, e, len)) in
    let behind : ltb (length t + 1) (length (t ++ 0 ∷ rest)) ≡ true = lt-ltb _ _ (omega (arith, len, some)) in
    let left : length (t ++ 0 ∷ rest) - (length t + 1) ≡ length rest = omega (arith, len) in
    rw (before_zero t rest h, some_zero, behind) (ap (λ n. Err (fault n Trailing)) left)

reads_text : (t : List ℕ) → has_no_zero t ≡ true → path_at (t ++ 0 ∷ []) ≡ cond (is_utf8 t) (Ok t) (Err (fault (length (t ++ 0 ∷ [])) Utf8))
unfolding path_at
reads_text t h =
    let len = text_length t [] in
    let some_zero : eqb (length t) (length (t ++ 0 ∷ [])) ≡ false = ne_eqb _ _ (λ e. omega (arith, e, len)) in
    let behind : ltb (length t + 1) (length (t ++ 0 ∷ [])) ≡ false = le-ltb _ _ (omega (arith, len)) in
    rw (before_zero t [] h, some_zero, behind, take_at t (0 ∷ []) (length t) refl) refl

-- ---- the four laws

path_ended : (t rest b : List ℕ) (y : List ℕ) → has_no_zero t ≡ true → b ≡ t ++ 0 ∷ rest → path_at b ≡ Ok y → IsPath y b
path_ended t [] b y h p e =
    elim (chosen (is_utf8 t) _ _ _ (sym (reads_text t h) ∙ ap path_at (sym p) ∙ e)) [
      | inl k ↦ subst (λ u. IsPath u b) (ok_is t y k.1) (and_from (has_no_zero t) (is_utf8 t) h k.0, p)
      | inr k ↦ absurd (no_err _ y k.1)
    ]
path_ended t (c ∷ rest) b y h p e = absurd (no_err _ y (sym (reads_more t (c ∷ rest) h (omega arith)) ∙ ap path_at (sym p) ∙ e))

path_takes : (b : List ℕ) (y : List ℕ) → IsBytes b → path_at b ≡ Ok y → IsPath y b
path_takes b y fits e =
    elim (split b) [
      | endless h ↦ absurd (no_err _ y (sym (reads_endless b h) ∙ e))
      | ended t rest h p ↦ path_ended t rest b y h p e
    ]

path_again : (t b : List ℕ) → IsPath t b → path_at b ≡ Ok t
path_again t b (h, p) = let k = and_parts (has_no_zero t) (is_utf8 t) h in ap path_at p ∙ reads_text t k.0 ∙ rw k.1 refl

path_stops : (t rest b : List ℕ) (f : Fault) → has_no_zero t ≡ true → b ≡ t ++ 0 ∷ rest → path_at b ≡ Err f → Broke PathBreaks b f
path_stops t [] b f h p e =
    elim (chosen (is_utf8 t) _ _ _ (sym (reads_text t h) ∙ ap path_at (sym p) ∙ e)) [
      | inl k ↦ absurd (no_ok _ f k.1)
      | inr k ↦ here PathBreaks b f Utf8 (ap (λ (l : List ℕ). fault (length l) Utf8) p ∙ err_is _ f k.1) (inr (inr (t, h, p, k.0, refl, refl)))
    ]
path_stops t (c ∷ rest) b f h p e =
    let some : 0 < length (c ∷ rest) = omega arith in
    subst (Broke PathBreaks b) (err_is _ f (sym (reads_more t (c ∷ rest) h some) ∙ ap path_at (sym p) ∙ e))
    (record { front = t ++ 0 ∷ []; rest = c ∷ rest; parts = p ∙ cut t (c ∷ rest); left = refl; breaks = inr (inl (t, h, p, some, refl)) })
  where
    cut : (t rest : List ℕ) → t ++ 0 ∷ rest ≡ (t ++ 0 ∷ []) ++ rest
    cut [] rest = refl
    cut (d ∷ t) rest = ap (λ (l : List ℕ). d ∷ l) (cut t rest)

path_breaks : (b : List ℕ) (f : Fault) → IsBytes b → path_at b ≡ Err f → Broke PathBreaks b f
path_breaks b f fits e =
    elim (split b) [
      | endless h ↦ here PathBreaks b f PathEnd (err_is _ f (sym (reads_endless b h) ∙ e)) (inl (h, refl, refl))
      | ended t rest h p ↦ path_stops t rest b f h p e
    ]

path_broken : (b rest : List ℕ) (why : Why) → PathBreaks b rest why → path_at b ≡ Err (fault (length rest) why)
path_broken b rest why (inl (h, r, w)) = reads_endless b h ∙ ap (λ (l : List ℕ). Err (fault (length l) PathEnd)) (sym r) ∙ ap (λ y. Err (fault (length rest) y)) (sym w)
path_broken b rest why (inr (inl (t, h, p, some, w))) = ap path_at p ∙ reads_more t rest h some ∙ ap (λ y. Err (fault (length rest) y)) (sym w)
path_broken b rest why (inr (inr (t, h, p, bad, r, w))) =
    ap path_at p ∙ reads_text t h ∙ rw bad (ap (λ (l : List ℕ). Err (fault (length l) Utf8)) (sym p ∙ sym r)) ∙ ap (λ y. Err (fault (length rest) y)) (sym w)

pub path_whole : IsWhole path_at IsPath PathBreaks
path_whole = record { takes = path_takes; again = path_again; breaks = path_breaks; broken = path_broken }
