-- The names of a path, and its parent.
use Rattle.std.proofs.Common.{◌≡◌, ℕ, zero, suc, ◌+◌, ◌-◌, ◌<◌, ◌≤◌, Bool, true, false, cond, ◌||◌, List, [], ◌∷◌, refl, sym, ap, ◌∙◌, length, get_or, take, drop, nat_eq, Some, None, arith, add-one}
use Rattle.std.specs.List.{list_any}
use Rattle.std.proofs.lemmas.Bool.{eq-eqb}
use Rattle.std.proofs.lemmas.List.{drop_more}
use Rattle.scene_model.specs.Paths.{slash, names_of, add_to_first, parent_of, parent_step, IsCutAt}

-- whether a slash stands in a text
abbrev pub has_slash : List ℕ → Bool
has_slash = list_any (λ b. nat_eq b slash)

none_here : (a b : Bool) → (a || b) ≡ false → (a ≡ false) × (b ≡ false)
none_here false false h = (refl, refl)
none_here true b h = absurd (cc h)
none_here false true h = absurd (cc h)

pub names_whole : (t : List ℕ) → has_slash t ≡ false → names_of t ≡ t ∷ []
names_whole [] h = refl
names_whole (b ∷ bs) h =
    let n = none_here (nat_eq b slash) (has_slash bs) h in
    ap (λ c. cond c ([] ∷ names_of bs) (add_to_first b (names_of bs))) n.0 ∙ ap (add_to_first b) (names_whole bs n.1)

cut_names : (t : List ℕ) (k : ℕ) → k < length t → get_or t k 0 ≡ slash → has_slash (take k t) ≡ false → names_of t ≡ take k t ∷ names_of (drop (suc k) t)
cut_names [] k w e h = absurd (omega arith)
cut_names (b ∷ bs) zero w e h = ap (λ c. cond c ([] ∷ names_of bs) (add_to_first b (names_of bs))) (eq-eqb b slash e)
cut_names (b ∷ bs) (suc k) w e h =
    let n = none_here (nat_eq b slash) (has_slash (take k bs)) h in
    ap (λ c. cond c ([] ∷ names_of bs) (add_to_first b (names_of bs))) n.0 ∙ ap (add_to_first b) (cut_names bs k (omega arith) e n.1)

pub cut_at : (t : List ℕ) (k : ℕ) → k < length t → get_or t k 0 ≡ slash → has_slash (take k t) ≡ false → IsCutAt t k
cut_at t k w e h = record { within = w; names = rw add-one (cut_names t k w e h) }

-- a byte that is a slash begins the rest after the parent's path, where no later one does
pub parent_here : (t : List ℕ) (i : ℕ) → i < length t → get_or t i 0 ≡ slash → parent_of (drop (i + 1) t) ≡ None → parent_of (drop i t) ≡ Some []
parent_here t i w e h = ap parent_of (drop_more t i 0 w) ∙ ap (parent_step (get_or t i 0)) h ∙ ap (λ c. cond c (Some []) None) (eq-eqb (get_or t i 0) slash e)

pub parent_not_here : (t : List ℕ) (i : ℕ) → i < length t → nat_eq (get_or t i 0) slash ≡ false → parent_of (drop (i + 1) t) ≡ None → parent_of (drop i t) ≡ None
parent_not_here t i w e h = ap parent_of (drop_more t i 0 w) ∙ ap (parent_step (get_or t i 0)) h ∙ ap (λ c. cond c (Some []) None) e

pub parent_before : (t : List ℕ) (i : ℕ) → i < length t → parent_of (drop i t) ≡ Some [] → parent_of t ≡ Some (take i t)
parent_before [] i w h = absurd (omega arith)
parent_before (b ∷ bs) zero w h = h
parent_before (b ∷ bs) (suc i) w h = ap (parent_step b) (parent_before bs i (omega arith) h)

pub parent_found : (t : List ℕ) (at : ℕ) → 0 < at → at ≤ length t → parent_of (drop at t) ≡ None → get_or t (at - 1) 0 ≡ slash → Some (take (at - 1) t) ≡ parent_of t
parent_found t at p w h e =
    let back : at - 1 + 1 ≡ at = omega arith in
    sym (parent_before t (at - 1) (omega arith) (parent_here t (at - 1) (omega arith) e (ap (λ n. parent_of (drop n t)) back ∙ h)))
