-- The bytes of a list, item by item.
use Rattle.std.proofs.Common.{◌≡◌, ℕ, ◌+◌, ◌<◌, List, [], ◌∷◌, ◌++◌, take, get_or, length, ap, ◌∙◌, arith}
use Rattle.std.proofs.lemmas.List.{take_more}
use Rattle.gd_variant.specs.declared.value.Variant.{Variant}
use Rattle.gd_variant.specs.declared.value.Pair.{Pair}
use Rattle.gd_variant.specs.declared.value.Variant.TheVariants.{Dict, Array}
use Rattle.gd_variant.specs.Tree.{plain, plains, plain_pairs}
use Rattle.gd_variant.specs.Size.{tree_size, trees_size}
use Rattle.gd_variant.proofs.TreeOf.{plain_dict, plain_array}

size_push : (vs : List Variant) (v : Variant) → trees_size (plains (vs ++ v ∷ [])) ≡ trees_size (plains vs) + tree_size (plain v)
size_push [] v = omega arith
size_push (w ∷ vs) v = omega (arith, size_push vs v)

size_pair_push : (ps : List Pair) (p : Pair) → trees_size (plain_pairs (ps ++ p ∷ [])) ≡ trees_size (plain_pairs ps) + (tree_size (plain p.key) + tree_size (plain p.value))
size_pair_push [] p = omega arith
size_pair_push (q ∷ ps) p = omega (arith, size_pair_push ps p)

-- one more item of a list
pub size_more : (vs : List Variant) (i : ℕ) (v : Variant) → i < length vs → v ≡ get_or vs i v → trees_size (plains (take (i + 1) vs)) ≡ trees_size (plains (take i vs)) + tree_size (plain v)
size_more vs i v lt is = rw (take_more vs i v lt, ← is) (size_push (take i vs) v)

pub size_pair_more : (ps : List Pair) (i : ℕ) (p : Pair) → i < length ps → p ≡ get_or ps i p
    → trees_size (plain_pairs (take (i + 1) ps)) ≡ trees_size (plain_pairs (take i ps)) + (tree_size (plain p.key) + tree_size (plain p.value))
size_pair_more ps i p lt is = rw (take_more ps i p lt, ← is) (size_pair_push (take i ps) p)

pub size_dict : (v : Variant) (ps : List Pair) → v ≡ Dict ps → tree_size (plain v) ≡ 8 + trees_size (plain_pairs ps)
size_dict v ps e = ap (λ w. tree_size (plain w)) e ∙ ap tree_size (plain_dict ps)

pub size_array : (v : Variant) (vs : List Variant) → v ≡ Array vs → tree_size (plain v) ≡ 8 + trees_size (plains vs)
size_array v vs e = ap (λ w. tree_size (plain w)) e ∙ ap tree_size (plain_array vs)
