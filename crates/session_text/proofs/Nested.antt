-- Values inside values.
use Rattle.std.proofs.Common.{◌≡◌, List, [], ◌∷◌, map, refl, sym, ap, ◌∙◌, codes}
use Rattle.gd_variant.specs.declared.value.Variant.{Variant}
use Rattle.gd_variant.specs.declared.value.Variant.TheVariants.{Dict, Array}
use Rattle.gd_variant.specs.declared.value.Pair.{Pair}
use Rattle.gd_variant.specs.Tree.{plain, plains, plain_pairs}
use Rattle.gd_variant.proofs.TreeOf.{plain_array, plain_dict}
use Rattle.serde_json.specs.Data.{Items, array, item}
use Rattle.serde_json.specs.View.{items_of}
use Rattle.session_text.specs.Json.{tagged_of}
use Rattle.session_text.specs.Values.{pair_of, pairs_data, pairs_of, tree_data, trees_data, value_of, values_of}

trees_data_is : (vs : List Variant) → trees_data (plains vs) ≡ items_of (map value_of vs)
trees_data_is [] = refl
trees_data_is (v ∷ vs) = ap (λ (ds : Items). item (value_of v) ds) (trees_data_is vs)

pairs_data_is : (ps : List Pair) → pairs_data (plain_pairs ps) ≡ items_of (map pair_of ps)
pairs_data_is [] = refl
pairs_data_is (p ∷ ps) = ap (λ (ds : Items). item (pair_of p) ds) (pairs_data_is ps)

-- an array
pub array_data : (value : Variant) (vs : List Variant) → value ≡ Array vs → values_of vs ≡ value_of value
array_data value vs is = ap array (sym (trees_data_is vs)) ∙ ap tree_data (sym (ap plain is ∙ plain_array vs))

-- a dictionary
pub dict_data : (value : Variant) (ps : List Pair) → value ≡ Dict ps → tagged_of (codes "dict") (pairs_of ps) ≡ value_of value
dict_data value ps is = ap (λ (ds : Items). tagged_of (codes "dict") (array ds)) (sym (pairs_data_is ps)) ∙ ap tree_data (sym (ap plain is ∙ plain_dict ps))
