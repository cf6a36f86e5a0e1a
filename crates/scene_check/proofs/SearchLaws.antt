-- What the next place of a text says of the elements that have it as their key.
use Rattle.std.proofs.Common.{◌≡◌, ◌≢◌, ℕ, zero, suc, ◌+◌, ◌-◌, ◌<◌, ◌≤◌, ◌⊎◌, inl, inr, Bool, true, false, cond, ◌||◌, List, [], ◌∷◌, refl, sym, ap, ap₂, ◌∙◌, map, take, drop, Option, Some, None, is_some, arith}
use Rattle.std.specs.Prelude.{slice_get, option_map, find}
use Rattle.std.specs.List.{list_any}
use Rattle.std.proofs.lemmas.Bool.{cases_lt, lt-ltb, le-ltb}
use Rattle.std.proofs.lemmas.List.{length-take}
use Rattle.std.proofs.lemmas.Option.{slice_get-map, slice_get_past}
use Rattle.std.proofs.lemmas.Map.Keys.{any_passes_from_place}
use Rattle.gd_variant.specs.Words.{text_eq, some_is}
use Rattle.scene_check.specs.Places.{IsFirstFrom, IsNext, is_below}
use Rattle.scene_model.proofs.TextLaws.{text_eq-true, text_eq-same}
use Rattle.scene_check.proofs.PlaceLaws.{front_get}

-- lists by their places

pub any_none : {X : Type 0} (p : X → Bool) (xs : List X) → ((k : ℕ) (x : X) → slice_get xs k ≡ Some x → p x ≡ false) → list_any p xs ≡ false
any_none p [] h = refl
any_none p (x ∷ xs) h = ap₂ (λ a b. a || b) (h 0 x refl) (any_none p xs (λ k y e. h (suc k) y e))

pub get-drop : {X : Type 0} (xs : List X) (n k : ℕ) → slice_get (drop n xs) k ≡ slice_get xs (n + k)
get-drop xs zero k = ap (slice_get xs) (omega arith)
get-drop {X} [] (suc n) k = ap (λ (ys : List X). slice_get ys k) (drop_empty (suc n))
  where
    drop_empty : (m : ℕ) → drop {A = X} m [] ≡ []
    drop_empty zero = refl
    drop_empty (suc m) = refl
get-drop (x ∷ xs) (suc n) k =
    let e : suc n + k ≡ suc (n + k) = omega arith in
    get-drop xs n k ∙ sym (ap (slice_get (x ∷ xs)) e)

pub find_first : {X : Type 0} (p : X → Bool) (xs : List X) (i : ℕ) (x : X) → slice_get xs i ≡ Some x → p x ≡ true → ((k : ℕ) (y : X) → k < i → slice_get xs k ≡ Some y → p y ≡ false) → find p xs ≡ Some x
find_first p [] i x e h before = absurd (cc e)
find_first p (y ∷ ys) zero x e h before =
    let is : y ≡ x = cc in
    ap (λ b. cond b (Some y) (find p ys)) (ap p is ∙ h) ∙ ap Some is
find_first p (y ∷ ys) (suc i) x e h before =
    ap (λ b. cond b (Some y) (find p ys)) (before 0 y (omega arith) refl) ∙ find_first p ys i x e h (λ k z w f. before (suc k) z (omega (arith, w)) f)

pub find_rest : {X : Type 0} (p : X → Bool) (xs : List X) (m : ℕ) → ((k : ℕ) (y : X) → k < m → slice_get xs k ≡ Some y → p y ≡ false) → find p xs ≡ find p (drop m xs)
find_rest p xs zero before = refl
find_rest {X} p [] (suc m) before = refl
find_rest p (x ∷ xs) (suc m) before =
    ap (λ b. cond b (Some x) (find p xs)) (before 0 x (omega arith) refl) ∙ find_rest p xs m (λ k y w e. before (suc k) y (omega (arith, w)) e)

-- elements by their keys

-- whether an element has this text as its key
abbrev pub has_key : {X : Type 0} → (X → Option (List ℕ)) → List ℕ → X → Bool
has_key key t x = some_is (text_eq t) (key x)

key_is : (t : List ℕ) (o : Option (List ℕ)) → some_is (text_eq t) o ≡ true → o ≡ Some t
key_is t None h = absurd (cc h)
key_is t (Some u) h = ap Some (sym (text_eq-true t u h))

key_other : (t : List ℕ) (o : Option (List ℕ)) → o ≢ Some t → some_is (text_eq t) o ≡ false
key_other t o n = elim (bool_cases (some_is (text_eq t) o)) [ inl same ↦ absurd (n (key_is t o same)) | inr other ↦ other ]
  where
    bool_cases : (b : Bool) → (b ≡ true) ⊎ (b ≡ false)
    bool_cases true = inl refl
    bool_cases false = inr refl

has_key_at : {X : Type 0} (key : X → Option (List ℕ)) (t : List ℕ) (x : X) → key x ≡ Some t → has_key key t x ≡ true
has_key_at key t x e = ap (some_is (text_eq t)) e ∙ text_eq-same t

-- what stands at a place of the mapped list
pub mapped_back : {X : Type 0} (key : X → Option (List ℕ)) (xs : List X) (k : ℕ) (t : List ℕ) → slice_get (map key xs) k ≡ Some (Some t) → (x : X) × (slice_get xs k ≡ Some x) × (key x ≡ Some t)
mapped_back {X} key xs k t e = elim (slice_get xs k) as (λ o. option_map key o ≡ Some (Some t) → (x : X) × (o ≡ Some x) × (key x ≡ Some t)) [ None ↦ λ h. absurd (cc h) | Some x ↦ λ h. (x, refl, cc) ] (sym (slice_get-map key xs k) ∙ e)

mapped_there : {X : Type 0} (key : X → Option (List ℕ)) (xs : List X) (k : ℕ) (x : X) (t : List ℕ) → slice_get xs k ≡ Some x → key x ≡ Some t → slice_get (map key xs) k ≡ Some (Some t)
mapped_there key xs k x t e h = slice_get-map key xs k ∙ ap (option_map key) e ∙ ap Some h

pub front_back : {X : Type 0} (key : X → Option (List ℕ)) (xs : List X) (m k : ℕ) (x : X) (t : List ℕ) → k < m → slice_get xs k ≡ Some x → key x ≡ Some t → slice_get (take m (map key xs)) k ≡ Some (Some t)
front_back key xs m k x t w e h = front_get (map key xs) m k w ∙ mapped_there key xs k x t e h

pub front_there : {X : Type 0} (xs : List X) (m k : ℕ) (x : X) → slice_get (take m xs) k ≡ Some x → (k < m) × (slice_get xs k ≡ Some x)
front_there {X} xs m k x e = elim (cases_lt k m) [ inl w ↦ (w, sym (front_get xs m k w) ∙ e) | inr p ↦ absurd (past p) ]
  where
    past : m ≤ k → ⊥
    past p = let short = length-take m xs in let none = slice_get_past (take m xs) k (omega (arith, p, short)) in cc

-- no element before the next place has the key
not_before : {X : Type 0} (key : X → Option (List ℕ)) (xs : List X) (m : ℕ) (t : List ℕ) (from at : ℕ) → at ≤ m → ((k : ℕ) → from ≤ k → k < at → slice_get (take m (map key xs)) k ≢ Some (Some t)) → (k : ℕ) (x : X) → from ≤ k → k < at → slice_get xs k ≡ Some x → has_key key t x ≡ false
not_before key xs m t from at low h k x f w e = key_other t (key x) (λ is. h k f w (front_back key xs m k x t (omega (arith, low, w)) e is))

pub next_finds : {X : Type 0} (key : X → Option (List ℕ)) (xs : List X) (m : ℕ) (t : List ℕ) (at : ℕ) (x : X) → IsFirstFrom t 0 (take m (map key xs)) at → slice_get xs at ≡ Some x → find (has_key key t) xs ≡ Some x
next_finds key xs m t at x h e =
    let there = front_there (map key xs) m at (Some t) h.here in
    let back = mapped_back key xs at t there.1 in
    let same : back.0 ≡ x = some_same back.0 x (sym back.1 ∙ e) in
    find_first (has_key key t) xs at x e (has_key_at key t x (ap key (sym same) ∙ back.2)) (λ k y w f. not_before key xs m t 0 at (omega (arith, there.0)) h.not_before k y (omega arith) w f)
  where
    some_same : {Y : Type 0} (a b : Y) → Some a ≡ Some b → a ≡ b
    some_same a b g = cc

pub next_none_finds : {X : Type 0} (key : X → Option (List ℕ)) (xs : List X) (m : ℕ) (t : List ℕ) → IsNext t 0 (take m (map key xs)) None → find (has_key key t) xs ≡ find (has_key key t) (drop m xs)
next_none_finds key xs m t h = find_rest (has_key key t) xs m (λ k y w e. not_before key xs m t 0 m (omega arith) (λ j f v. h j f) k y (omega arith) w e)

pub next_is_before : {X : Type 0} (key : X → Option (List ℕ)) (xs : List X) (m : ℕ) (t : List ℕ) (i : ℕ) (o : Option ℕ) → i ≤ m → IsNext t 0 (take m (map key xs)) o → list_any (has_key key t) (take i xs) ≡ is_below i o
next_is_before key xs m t i None low h = any_none (has_key key t) (take i xs) (λ k x e. let there = front_there xs i k x e in not_before key xs m t 0 m (omega arith) (λ j f v. h j f) k x (omega arith) (omega (arith, there.0, low)) there.1)
next_is_before {X} key xs m t i (Some at) low h = elim (cases_lt at i) [ inl w ↦ found w ∙ sym (lt-ltb at i w) | inr p ↦ none p ∙ sym (le-ltb at i p) ]
  where
    there : (at < m) × (slice_get (map key xs) at ≡ Some (Some t))
    there = front_there (map key xs) m at (Some t) h.here

    found : at < i → list_any (has_key key t) (take i xs) ≡ true
    found w = let back = mapped_back key xs at t there.1 in any_passes_from_place (has_key key t) (take i xs) at back.0 (front_get xs i at w ∙ back.1) (has_key_at key t back.0 back.2)

    none : i ≤ at → list_any (has_key key t) (take i xs) ≡ false
    none p = any_none (has_key key t) (take i xs) (λ k x e. let here = front_there xs i k x e in not_before key xs m t 0 at (omega (arith, there.0)) h.not_before k x (omega arith) (omega (arith, here.0, p)) here.1)

pub next_is_after : {X : Type 0} (key : X → Option (List ℕ)) (xs : List X) (t : List ℕ) (from : ℕ) (o : Option ℕ) → IsNext t from (map key xs) o → list_any (has_key key t) (drop from xs) ≡ is_some o
next_is_after key xs t from None h = any_none (has_key key t) (drop from xs) (λ k x e. key_other t (key x) (λ is. h (from + k) (omega arith) (mapped_there key xs (from + k) x t (sym (get-drop xs from k) ∙ e) is)))
next_is_after key xs t from (Some at) h =
    let back = mapped_back key xs at t h.here in
    let e : from + (at - from) ≡ at = omega (arith, h.from_on) in
    any_passes_from_place (has_key key t) (drop from xs) (at - from) back.0 (get-drop xs from (at - from) ∙ ap (slice_get xs) e ∙ back.1) (has_key_at key t back.0 back.2)
