-- The equality of texts.
use Rattle.std.proofs.Common.{◌≡◌, ◌≢◌, ℕ, Bool, true, false, ◌&&◌, List, [], ◌∷◌, refl, sym, ap, ap₂, ◌∙◌, nat_eq}
use Rattle.std.specs.Bool.{Decides, one_answer}
use Rattle.std.proofs.lemmas.Bool.{eqb-true, eq-eqb, false≢true}
use Rattle.gd_variant.specs.Words.{text_eq}

both : (a b : Bool) → (a && b) ≡ true → (a ≡ true) × (b ≡ true)
both true true h = (refl, refl)
both true false h = absurd (cc h)
both false b h = absurd (cc h)

pub text_eq-true : (s t : List ℕ) → text_eq s t ≡ true → s ≡ t
text_eq-true [] [] h = refl
text_eq-true [] (b ∷ t) h = absurd (cc h)
text_eq-true (a ∷ s) [] h = absurd (cc h)
text_eq-true (a ∷ s) (b ∷ t) h = ap₂ (λ x xs. x ∷ xs) (eqb-true a b (both (nat_eq a b) (text_eq s t) h).0) (text_eq-true s t (both (nat_eq a b) (text_eq s t) h).1)

pub text_eq-same : (t : List ℕ) → text_eq t t ≡ true
text_eq-same [] = refl
text_eq-same (b ∷ t) = ap (λ e. e && text_eq t t) (eq-eqb b b refl) ∙ text_eq-same t

pub text_eq-Decides : (s t : List ℕ) → Decides (text_eq s t) (s ≡ t)
text_eq-Decides s t = (text_eq-true s t, λ e. ap (text_eq s) (sym e) ∙ text_eq-same s)

pub text_answer : (r : Bool) (s t : List ℕ) → Decides r (s ≡ t) → r ≡ text_eq s t
text_answer r s t h = one_answer r (text_eq s t) h (text_eq-Decides s t)

pub text_eq-other : (s t : List ℕ) → text_eq s t ≡ false → s ≢ t
text_eq-other s t h e = false≢true (sym h ∙ ap (λ u. text_eq u t) e ∙ text_eq-same t)

pub text_eq-sym : (s t : List ℕ) → text_eq s t ≡ text_eq t s
text_eq-sym s t = one_answer (text_eq s t) (text_eq t s) (text_eq-Decides s t) (λ h. sym (text_eq-true t s h), λ e. text_eq-from t s (sym e))
  where
    text_eq-from : (a b : List ℕ) → a ≡ b → text_eq a b ≡ true
    text_eq-from a b e = ap (text_eq a) (sym e) ∙ text_eq-same a
