-- Signed numbers: their equality and their order.
use Rattle.std.proofs.Common.{◌≡◌, ℤ, Bool, true, false, refl, sym, ap, ◌∙◌, arith}
use Rattle.std.specs.Prelude.{int_lt}
use Rattle.std.specs.Ordering.{int_eq}
use Rattle.std.specs.Bool.{one_answer}
use Rattle.std.proofs.lemmas.Int.{ints}
use Rattle.std.proofs.lemmas.Bool.Decides.{Decides-int_eq}

pub int_same : (x : ℤ) → int_eq x x ≡ true
int_same x = (Decides-int_eq x x).1 refl

pub int_is : (x y : ℤ) → int_eq x y ≡ true → x ≡ y
int_is x y h = (Decides-int_eq x y).0 h

pub int_comm : (x y : ℤ) → int_eq x y ≡ int_eq y x
int_comm x y = one_answer (int_eq x y) (int_eq y x) (λ h. (Decides-int_eq x y).0 h, λ h. (Decides-int_eq x y).1 h) (λ h. sym ((Decides-int_eq y x).0 h), λ h. (Decides-int_eq y x).1 (sym h))

-- orders are whole: what isn't below and isn't equal is above
pub int_above : (x y : ℤ) → int_lt x y ≡ false → int_eq x y ≡ false → int_lt y x ≡ true
int_above x y below same = by (int_lt y x) refl
  where
    equal : int_lt y x ≡ false → x ≡ y
    equal e = omega (arith, ints, below, e)

    by : (t : Bool) → int_lt y x ≡ t → t ≡ true
    by true e = refl
    by false e = absurd (cc (sym (int_same x) ∙ ap (int_eq x) (equal e) ∙ same))

pub int_less : (x y z : ℤ) → int_lt x y ≡ true → int_lt y z ≡ true → int_lt x z ≡ true
int_less x y z p q = by (int_lt x z) refl
  where
    by : (t : Bool) → int_lt x z ≡ t → t ≡ true
    by true e = refl
    by false e = absurd (omega (arith, ints, p, q, e))

-- what isn't below what isn't below
pub not_less : (x y z : ℤ) → int_lt y x ≡ false → int_lt z y ≡ false → int_lt z x ≡ false
not_less x y z p q = by (int_lt z x) refl
  where
    by : (t : Bool) → int_lt z x ≡ t → t ≡ false
    by true e = absurd (omega (arith, ints, p, q, e))
    by false e = refl

pub less_not : (x y : ℤ) → int_lt x y ≡ true → int_lt y x ≡ false
less_not x y p = by (int_lt y x) refl
  where
    by : (t : Bool) → int_lt y x ≡ t → t ≡ false
    by true e = absurd (omega (arith, ints, p, e))
    by false e = refl

pub lt_apart : (a b : ℤ) → int_lt a b ≡ true → int_eq a b ≡ false
lt_apart a b h = grind (arith, ints, h)
