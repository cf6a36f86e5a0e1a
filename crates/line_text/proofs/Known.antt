-- A text among some.
use Rattle.std.proofs.Common.{◌≡◌, ℕ, ◌<◌, true, List, map, get_or, length, Bor, sym, ap, ◌∙◌, subst}
use Rattle.std.proofs.lemmas.List.{get_or-map, length-map}
use Rattle.std.proofs.lemmas.List.Folds.{list_any_at}
use Rattle.gd_variant.specs.Words.{has_text, text_eq}

abbrev names : List (Bor (List ℕ)) → List (List ℕ)
names known = map (λ k. k.now) known

pub known_here : (key : List ℕ) (known : List (Bor (List ℕ))) (i : ℕ) (k : Bor (List ℕ)) (s : List ℕ) → i < length known → s ≡ (get_or known i k).now → text_eq key s ≡ true → true ≡ has_text key (names known)
known_here key known i k s lt is e =
    sym (list_any_at (text_eq key) (names known) i s (subst (λ n. i < n) (sym (length-map known (λ (k : Bor (List ℕ)). k.now))) lt) (ap (text_eq key) (get_or-map (λ (k : Bor (List ℕ)). k.now) known i k s lt ∙ sym is) ∙ e))
