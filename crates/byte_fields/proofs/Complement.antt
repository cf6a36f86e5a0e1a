-- The laws of two's complement.
use Rattle.std.proofs.Common.{◌≡◌, ℕ, ◌-◌, ◌*◌, ◌<◌, ℤ, pos, negsuc, false, ltb, refl, arith, inl, inr}
use Rattle.std.proofs.lemmas.Bool.{cases_lt, lt-ltb, le-ltb}
use Rattle.byte_fields.specs.Complement.{IsWithin, bits_of, signed_of}

pub signed_of-bits_of : (half : ℕ) (z : ℤ) → IsWithin half z → signed_of half (bits_of half z) ≡ z
signed_of-bits_of half (pos n) fits = rw (lt-ltb n half fits) refl
signed_of-bits_of half (negsuc n) fits =
    let big : ltb (2 * half - 1 - n) half ≡ false = le-ltb _ _ (omega (arith, fits)) in
    let e : 2 * half - 1 - (2 * half - 1 - n) ≡ n = omega (arith, fits) in
    rw (big, e) refl

pub bits_of-below : (half : ℕ) (z : ℤ) → IsWithin half z → bits_of half z < 2 * half
bits_of-below half (pos n) fits = omega (arith, fits)
bits_of-below half (negsuc n) fits = omega (arith, fits)

pub bits_of-signed_of : (half n : ℕ) → n < 2 * half → bits_of half (signed_of half n) ≡ n
bits_of-signed_of half n lt =
    elim (cases_lt n half) [
      | inl small ↦ rw (lt-ltb n half small) refl
      | inr big ↦ rw (le-ltb n half big) (omega (arith, lt, big))
    ]

pub signed_of-within : (half n : ℕ) → n < 2 * half → IsWithin half (signed_of half n)
signed_of-within half n lt =
    elim (cases_lt n half) [
      | inl small ↦ rw (lt-ltb n half small) small
      | inr big ↦ rw (le-ltb n half big) (omega (arith, lt, big))
    ]
