-- How deep a value nests, level by level and item by item.
use Rattle.std.proofs.Common.{◌≡◌, ℕ, suc, ◌+◌, ◌<◌, max, List, [], ◌∷◌, ◌++◌, take, get_or, length, ap, ◌∙◌, arith}
use Rattle.std.proofs.lemmas.List.{take_more}
use Rattle.gd_variant.specs.declared.value.Variant.{Variant}
use Rattle.gd_variant.specs.declared.value.Pair.{Pair}
use Rattle.gd_variant.specs.declared.value.Variant.TheVariants.{Dict, Array}
use Rattle.gd_variant.specs.Tree.{plain, plains, plain_pairs}
use Rattle.gd_variant.specs.Sound.{nesting, deepest}
use Rattle.gd_variant.proofs.TreeOf.{plain_dict, plain_array}

deepest_push : (vs : List Variant) (v : Variant) → deepest (plains (vs ++ v ∷ [])) ≡ max (nesting (plain v)) (deepest (plains vs))
deepest_push [] v = omega arith
deepest_push (w ∷ vs) v = omega (arith, deepest_push vs v)

deepest_pair_push : (ps : List Pair) (p : Pair) → deepest (plain_pairs (ps ++ p ∷ [])) ≡ max (max (nesting (plain p.key)) (nesting (plain p.value))) (deepest (plain_pairs ps))
deepest_pair_push [] p = omega arith
deepest_pair_push (q ∷ ps) p = omega (arith, deepest_pair_push ps p)

-- one more item of a list
pub deepest_more : (vs : List Variant) (i : ℕ) (v : Variant) → i < length vs → v ≡ get_or vs i v → deepest (plains (take (i + 1) vs)) ≡ max (nesting (plain v)) (deepest (plains (take i vs)))
deepest_more vs i v lt is = rw (take_more vs i v lt, ← is) (deepest_push (take i vs) v)

pub deepest_pair_more : (ps : List Pair) (i : ℕ) (p : Pair) → i < length ps → p ≡ get_or ps i p
    → deepest (plain_pairs (take (i + 1) ps)) ≡ max (max (nesting (plain p.key)) (nesting (plain p.value))) (deepest (plain_pairs (take i ps)))
deepest_pair_more ps i p lt is = rw (take_more ps i p lt, ← is) (deepest_pair_push (take i ps) p)

pub nesting_dict : (v : Variant) (ps : List Pair) → v ≡ Dict ps → nesting (plain v) ≡ suc (deepest (plain_pairs ps))
nesting_dict v ps e = ap (λ w. nesting (plain w)) e ∙ ap nesting (plain_dict ps)

pub nesting_array : (v : Variant) (vs : List Variant) → v ≡ Array vs → nesting (plain v) ≡ suc (deepest (plains vs))
nesting_array v vs e = ap (λ w. nesting (plain w)) e ∙ ap nesting (plain_array vs)
