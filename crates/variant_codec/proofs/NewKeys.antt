-- Whether a key is new to some pairs, pair by pair.
use Rattle.std.proofs.Common.{◌≡◌, ℕ, ◌<◌, Bool, true, false, List, [], ◌∷◌, map, get_or, length, refl, sym, ap, ◌∙◌}
use Rattle.std.specs.Prelude.{not, ◌||◌}
use Rattle.std.specs.List.{list_any}
use Rattle.std.proofs.lemmas.List.Folds.{list_any_at}
use Rattle.gd_variant.specs.declared.value.Pair.{Pair}
use Rattle.gd_variant.specs.Tree.{Tree, tree_eq, plain, plain_pair}
use Rattle.variant_codec.specs.Tests.{is_new_to}

abbrev has : Tree → Pair → Bool
has k p = tree_eq k (plain p.key)

any_is : (k : Tree) (ps : List Pair) → list_any (λ p. tree_eq k p.key) (map plain_pair ps) ≡ list_any (has k) ps
any_is k [] = refl
any_is k (p ∷ ps) = ap (λ b. has k p || b) (any_is k ps)

pub not_new : (k : Tree) (ps : List Pair) (i : ℕ) (p : Pair) → i < length ps → p ≡ get_or ps i p → tree_eq k (plain p.key) ≡ true → false ≡ is_new_to (map plain_pair ps) k
not_new k ps i p lt at here = sym (ap not (any_is k ps ∙ list_any_at (has k) ps i p lt (ap (has k) (sym at) ∙ here)))
