-- What is found in a list.
use Rattle.std.proofs.Common.{◌≡◌, Bool, true, false, cond, ◌||◌, List, [], ◌∷◌, ◌++◌, refl, sym, ap, ◌∙◌, Some}
use Rattle.std.specs.Prelude.{find, flat_map}
use Rattle.std.specs.List.{list_any, list_all}
use Rattle.std.proofs.lemmas.Bool.{and_parts, or_parts}
use Rattle.std.proofs.lemmas.List.Folds.{list_any-append}

-- what is found passes what each element passes
pub all_found : {X : Type 0} (p q : X → Bool) (xs : List X) (x : X) → list_all p xs ≡ true → find q xs ≡ Some x → p x ≡ true
all_found p q [] x h f = absurd (cc f)
all_found p q (y ∷ ys) x h f = step (q y) (λ e. all_found p q ys x (and_parts (p y) (list_all p ys) h).1 e) f
  where
    step : (b : Bool) → (find q ys ≡ Some x → p x ≡ true) → cond b (Some y) (find q ys) ≡ Some x → p x ≡ true
    step true more e = let same : y ≡ x = cc in ap p (sym same) ∙ (and_parts (p y) (list_all p ys) h).0
    step false more e = more e

-- searches through joined lists

pub find_past : {X : Type 0} (p : X → Bool) (xs ys : List X) → list_any p xs ≡ false → find p (xs ++ ys) ≡ find p ys
find_past p [] ys h = refl
find_past p (x ∷ xs) ys h = ap (λ b. cond b (Some x) (find p (xs ++ ys))) (or_parts (p x) (list_any p xs) h).0 ∙ find_past p xs ys (or_parts (p x) (list_any p xs) h).1

pub find_here : {X : Type 0} (p : X → Bool) (xs ys : List X) (x : X) → find p xs ≡ Some x → find p (xs ++ ys) ≡ Some x
find_here p [] ys x h = absurd (cc h)
find_here p (z ∷ xs) ys x h = step (p z) h (λ e. find_here p xs ys x e)
  where
    step : (b : Bool) → cond b (Some z) (find p xs) ≡ Some x → (find p xs ≡ Some x → find p (xs ++ ys) ≡ Some x) → cond b (Some z) (find p (xs ++ ys)) ≡ Some x
    step true e more = e
    step false e more = more e

-- of joined lists that have nothing that passes, one comes to have it
pub find_among : {X C : Type 0} (p : X → Bool) (f g : C → List X) (own : C → Bool) (x : X) → ((c : C) → own c ≡ false → g c ≡ f c) → ((c : C) → own c ≡ true → list_any p (f c) ≡ false → find p (g c) ≡ Some x)
    → (cs : List C) → list_any own cs ≡ true → list_any p (flat_map f cs) ≡ false → find p (flat_map g cs) ≡ Some x
find_among p f g own x same found [] h k = absurd (cc h)
find_among p f g own x same found (c ∷ cs) h k =
    let parts = or_parts (list_any p (f c)) (list_any p (flat_map f cs)) (sym (list_any-append p (f c) (flat_map f cs)) ∙ k) in
    step (own c) refl h parts.0 (λ e. find_among p f g own x same found cs e parts.1)
  where
    step : (b : Bool) → own c ≡ b → (b || list_any own cs) ≡ true → list_any p (f c) ≡ false → (list_any own cs ≡ true → find p (flat_map g cs) ≡ Some x) → find p (g c ++ flat_map g cs) ≡ Some x
    step true e some fails more = find_here p (g c) (flat_map g cs) x (found c e fails)
    step false e some fails more = find_past p (g c) (flat_map g cs) (ap (list_any p) (same c e) ∙ fails) ∙ more some
