-- Texts of which none stands twice are no more than those among which they all are.
use Rattle.std.proofs.Common.{◌≡◌, ℕ, ◌≤◌, suc, Bool, true, false, cond, not, ◌||◌, List, [], ◌∷◌, refl, sym, ap, ◌∙◌, length, arith}
use Rattle.std.specs.List.{list_any}
use Rattle.std.proofs.lemmas.Bool.{or_parts, or_from}
use Rattle.gd_variant.specs.Words.{text_eq, has_text}
use Rattle.scene_model.specs.Valid.{has_twice}
use Rattle.scene_model.proofs.TextLaws.{text_eq-true, text_eq-sym}
use Rattle.peer_laws.proofs.Tests.{not_false}

-- a list without the first place of a text
abbrev pub without_text : List ℕ → List (List ℕ) → List (List ℕ)
without_text t [] = []
without_text t (u ∷ us) = cond (text_eq t u) us (u ∷ without_text t us)

without_length : (t : List ℕ) (us : List (List ℕ)) → has_text t us ≡ true → length us ≡ suc (length (without_text t us))
without_length t [] h = absurd (cc h)
without_length t (u ∷ us) h = step (text_eq t u) (without_length t us) h
  where
    step : (b : Bool) → (has_text t us ≡ true → length us ≡ suc (length (without_text t us))) → (b || has_text t us) ≡ true → suc (length us) ≡ suc (length (cond b us (u ∷ without_text t us)))
    step true more k = refl
    step false more k = ap suc (more k)

or_more : (c a b : Bool) → (a ≡ true → b ≡ true) → (c || a) ≡ true → (c || b) ≡ true
or_more true a b more h = refl
or_more false a b more h = more h

-- another text stays
other_stays : (t v : List ℕ) (us : List (List ℕ)) → text_eq t v ≡ false → has_text v us ≡ true → has_text v (without_text t us) ≡ true
other_stays t v [] other h = absurd (cc h)
other_stays t v (u ∷ us) other h = step (text_eq t u) refl (other_stays t v us other)
  where
    step : (b : Bool) → text_eq t u ≡ b → (has_text v us ≡ true → has_text v (without_text t us) ≡ true) → has_text v (cond b us (u ∷ without_text t us)) ≡ true
    step true e more = sym (ap (λ w. text_eq v w || has_text v us) (sym (text_eq-true t u e)) ∙ ap (λ c. c || has_text v us) (text_eq-sym v t ∙ other)) ∙ h
    step false e more = or_more (text_eq v u) (has_text v us) (has_text v (without_text t us)) more h

-- whether some texts aren't all in a list
abbrev pub some_outside : List (List ℕ) → List (List ℕ) → Bool
some_outside us ts = list_any (λ t. not (has_text t us)) ts

rest_inside : (t : List ℕ) (us ts : List (List ℕ)) → has_text t ts ≡ false → some_outside us ts ≡ false → some_outside (without_text t us) ts ≡ false
rest_inside t us [] other h = refl
rest_inside t us (v ∷ vs) other h =
    let o = or_parts (text_eq t v) (has_text t vs) other in
    let p = or_parts (not (has_text v us)) (some_outside us vs) h in
    or_from (not (has_text v (without_text t us))) (some_outside (without_text t us) vs) (ap not (other_stays t v us o.0 (not_false (has_text v us) p.0))) (rest_inside t us vs o.1 p.1)

pub distinct_few : (us ts : List (List ℕ)) → has_twice ts ≡ false → some_outside us ts ≡ false → length ts ≤ length us
distinct_few us [] apart h = omega arith
distinct_few us (t ∷ ts) apart h =
    let a = or_parts (has_text t ts) (has_twice ts) apart in
    let p = or_parts (not (has_text t us)) (some_outside us ts) h in
    omega (arith, without_length t us (not_false (has_text t us) p.0), distinct_few (without_text t us) ts a.1 (rest_inside t us ts a.0 p.1))
