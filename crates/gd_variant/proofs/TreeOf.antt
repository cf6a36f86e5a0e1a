-- The plain tree of a value determines the value.
use Rattle.std.proofs.Common.{◌≡◌, true, List, [], ◌∷◌, map, refl, sym, ap, ap₂, subst, ◌∙◌}
use Rattle.std.proofs.lemmas.Bool.{and_parts}
use Rattle.gd_variant.specs.declared.value.Variant.{Variant}
use Rattle.gd_variant.specs.declared.value.Pair.{Pair}
use Rattle.gd_variant.specs.declared.value.Variant.TheFolds.{ind-Variant, map-Variant, map-Pair, fold-Pair, fold-roll-Variant, fold_out-Pair, fold-roll-Pair}
use Rattle.gd_variant.specs.declared.value.Variant.TheViews.{roll-Variant, roll-Pair}
use Rattle.gd_variant.specs.declared.value.Variant.TheVariants.{Nil, Bool as Boolean, Int, Text, Name, Path, Ints, Opaque, Dict, Array, PackedBytes, PackedInts, PackedTexts, rolls-Nil, rolls-Bool, rolls-Int, rolls-Text, rolls-Name, rolls-Path, rolls-Ints, rolls-Opaque, rolls-Dict, rolls-Array, rolls-PackedBytes, rolls-PackedInts, rolls-PackedTexts}
use Rattle.gd_variant.specs.declared.value.Variant.TheOpen.{Variant-F, Pair-F}
use Rattle.gd_variant.specs.Back.{value_of, values_from, pairs_from, pair_of}
use Rattle.gd_variant.specs.Sound.{is_right, are_right, keys_distinct, is_new_key}
use Rattle.gd_variant.specs.Tree.{Tree, Trees, nil, boolean, int, text, name, path, ints, opaque, dict, array, packed_bytes, packed_ints, packed_texts, none, item, trees_of, PairTree, pairs_of, tree_step, pair_step, inner_tree, plain, plains, plain_pair, plain_pairs}

-- a pair inside a dictionary, its values seen as trees
abbrev pub inner_pair : Pair → PairTree
inner_pair = fold-Pair Tree PairTree tree_step pair_step

pub inner_layer : (y : Variant-F Variant Pair) → inner_tree (roll-Variant y) ≡ tree_step (map-Variant Variant Pair Tree PairTree inner_tree inner_pair y)
inner_layer y = fold-roll-Variant Tree PairTree tree_step pair_step y

at_layer : (v : Variant) (y : Variant-F Variant Pair) → roll-Variant y ≡ v → tree_step (map-Variant Variant Pair Tree PairTree inner_tree inner_pair y) ≡ inner_tree v
at_layer v y e = sym (inner_layer y) ∙ ap inner_tree e

-- the tree of any value is its fold
pub plain_is : (v : Variant) → plain v ≡ inner_tree v
plain_is Nil = at_layer Nil Variant-F.Nil rolls-Nil
plain_is (Boolean b) = at_layer (Boolean b) (Variant-F.Bool b) (rolls-Bool b)
plain_is (Int z) = at_layer (Int z) (Variant-F.Int z) (rolls-Int z)
plain_is (Text t) = at_layer (Text t) (Variant-F.Text t) (rolls-Text t)
plain_is (Name t) = at_layer (Name t) (Variant-F.Name t) (rolls-Name t)
plain_is (Path p) = at_layer (Path p) (Variant-F.Path p) (rolls-Path p)
plain_is (Ints i) = at_layer (Ints i) (Variant-F.Ints i) (rolls-Ints i)
plain_is (Opaque o) = at_layer (Opaque o) (Variant-F.Opaque o) (rolls-Opaque o)
plain_is (PackedBytes b) = at_layer (PackedBytes b) (Variant-F.PackedBytes b) (rolls-PackedBytes b)
plain_is (PackedInts r) = at_layer (PackedInts r) (Variant-F.PackedInts r) (rolls-PackedInts r)
plain_is (PackedTexts ts) = at_layer (PackedTexts ts) (Variant-F.PackedTexts ts) (rolls-PackedTexts ts)
plain_is v = refl

inner_pair_is : (p : Pair) → inner_pair p ≡ plain_pair p
inner_pair_is p = fold_out-Pair Tree PairTree tree_step pair_step p ∙ ap₂ (λ (k : Tree) (v : Tree). record { key = k; value = v }) (sym (plain_is p.key)) (sym (plain_is p.value))

map_same : {A B : Type 0} (f g : A → B) → ((a : A) → f a ≡ g a) → (xs : List A) → map f xs ≡ map g xs
map_same f g each [] = refl
map_same {B = B} f g each (x ∷ xs) = ap₂ (λ (y : B) (ys : List B). y ∷ ys) (each x) (map_same f g each xs)

pub plain_dict : (ps : List Pair) → plain (Dict ps) ≡ dict (plain_pairs ps)
plain_dict ps = plain_is (Dict ps) ∙ sym (at_layer (Dict ps) (Variant-F.Dict ps) (rolls-Dict ps)) ∙ ap (λ (ts : List PairTree). dict (pairs_of ts)) (map_same inner_pair plain_pair inner_pair_is ps)

pub plain_array : (vs : List Variant) → plain (Array vs) ≡ array (plains vs)
plain_array vs = plain_is (Array vs) ∙ sym (at_layer (Array vs) (Variant-F.Array vs) (rolls-Array vs)) ∙ ap (λ (ts : List Tree). array (trees_of ts)) (map_same inner_tree plain (λ v. sym (plain_is v)) vs)

-- ---- back from a tree to its value

values_back : {A : Type 0} (f : A → Variant) → ((a : A) → value_of (inner_tree (f a)) ≡ f a) → (xs : List A) → values_from (trees_of (map inner_tree (map f xs))) ≡ map f xs
values_back f each [] = refl
values_back f each (a ∷ xs) = ap₂ (λ (v : Variant) (vs : List Variant). v ∷ vs) (each a) (values_back f each xs)

pairs_back : {A : Type 0} (g : A → Pair) → ((a : A) → pair_of (inner_pair (g a)) ≡ g a) → (xs : List A) → pairs_from (pairs_of (map inner_pair (map g xs))) ≡ map g xs
pairs_back g each [] = refl
pairs_back g each (a ∷ xs) = ap₂ (λ (p : Pair) (ps : List Pair). p ∷ ps) (each a) (pairs_back g each xs)

layer_back : {A B : Type 0} (f : A → Variant) (g : B → Pair) → ((a : A) → value_of (inner_tree (f a)) ≡ f a) → ((b : B) → pair_of (inner_pair (g b)) ≡ g b)
    → (y : Variant-F A B) → value_of (tree_step (map-Variant Variant Pair Tree PairTree inner_tree inner_pair (map-Variant A B Variant Pair f g y))) ≡ roll-Variant (map-Variant A B Variant Pair f g y)
layer_back f g each pair Variant-F.Nil = refl
layer_back f g each pair (Variant-F.Dict ps) = ap (λ (qs : List Pair). roll-Variant (Variant-F.Dict qs)) (pairs_back g pair ps)
layer_back f g each pair (Variant-F.Array vs) = ap (λ (us : List Variant). roll-Variant (Variant-F.Array us)) (values_back f each vs)
layer_back f g each pair (Variant-F.Path p) = refl
layer_back f g each pair y = refl

inner_pair_layer : (y : Pair-F Variant Pair) → inner_pair (roll-Pair y) ≡ pair_step (map-Pair Variant Pair Tree PairTree inner_tree inner_pair y)
inner_pair_layer y = fold-roll-Pair Tree PairTree tree_step pair_step y

pair_back : {A B : Type 0} (f : A → Variant) (g : B → Pair) → ((a : A) → value_of (inner_tree (f a)) ≡ f a)
    → (y : Pair-F A B) → pair_of (pair_step (map-Pair Variant Pair Tree PairTree inner_tree inner_pair (map-Pair A B Variant Pair f g y))) ≡ roll-Pair (map-Pair A B Variant Pair f g y)
pair_back f g each y = ap₂ (λ (k : Variant) (v : Variant). roll-Pair (record { key = k; value = v })) (each y.key) (each y.value)

inner_back : (v : Variant) → value_of (inner_tree v) ≡ v
inner_back = ind-Variant (λ v. value_of (inner_tree v) ≡ v) (λ p. pair_of (inner_pair p) ≡ p)
    (λ x y is. subst (λ z. value_of (inner_tree (roll-Variant z)) ≡ roll-Variant z) is
    (ap value_of (inner_layer _) ∙ layer_back (λ e. e.0) (λ e. e.0) (λ e. e.1) (λ e. e.1) y))
    (λ x y is. subst (λ z. pair_of (inner_pair (roll-Pair z)) ≡ roll-Pair z) is
    (ap pair_of (inner_pair_layer _) ∙ pair_back (λ e. e.0) (λ e. e.0) (λ e. e.1) y))

-- a value is that of its tree
pub plain_back : (v : Variant) → value_of (plain v) ≡ v
plain_back v = ap value_of (plain_is v) ∙ inner_back v

-- values with one tree are one value
pub plain_same : (v w : Variant) → plain v ≡ plain w → v ≡ w
plain_same v w e = sym (plain_back v) ∙ ap value_of e ∙ plain_back w

-- ---- from a value to its tree

inner_pair_there : (k v : Tree) → inner_tree (value_of k) ≡ k → inner_tree (value_of v) ≡ v → (qs : List PairTree) (ts : Trees) → pairs_of qs ≡ ts
    → pairs_of (inner_pair (pair_of (record { key = k; value = v })) ∷ qs) ≡ item k (item v ts)
inner_pair_there k v hk hv qs ts e =
    ap (λ (p : PairTree). pairs_of (p ∷ qs)) (inner_pair_layer (record { key = value_of k; value = value_of v }))
    ∙ ap₂ (λ (x : Tree) (y : Tree). item x (item y (pairs_of qs))) hk hv
    ∙ ap (λ (us : Trees). item k (item v us)) e

mutual
  inner_there : (t : Tree) → is_right t ≡ true → inner_tree (value_of t) ≡ t
  inner_there nil h = inner_layer _
  inner_there (boolean b) h = inner_layer _
  inner_there (int z) h = inner_layer _
  inner_there (text t) h = inner_layer _
  inner_there (name t) h = inner_layer _
  inner_there (path a ns ss) h = inner_layer _
  inner_there (ints c zs) h = inner_layer _
  inner_there (opaque c w bs) h = inner_layer _
  inner_there (dict ts) h = let p = and_parts (keys_distinct ts) (are_right ts) h in inner_layer _ ∙ ap dict (pairs_there ts p.0 p.1)
  inner_there (array ts) h = inner_layer _ ∙ ap array (values_there ts h)
  inner_there (packed_bytes bs) h = inner_layer _
  inner_there (packed_ints w zs) h = inner_layer _
  inner_there (packed_texts ts) h = inner_layer _

  values_there : (ts : Trees) → are_right ts ≡ true → trees_of (map inner_tree (values_from ts)) ≡ ts
  values_there none h = refl
  values_there (item t ts) h = let p = and_parts (is_right t) (are_right ts) h in ap₂ item (inner_there t p.0) (values_there ts p.1)

  pairs_there : (ts : Trees) → keys_distinct ts ≡ true → are_right ts ≡ true → pairs_of (map inner_pair (pairs_from ts)) ≡ ts
  pairs_there none d h = refl
  pairs_there (item k none) d h = absurd cc
  pairs_there (item k (item v ts)) d h =
      let p = and_parts (is_right k) (are_right (item v ts)) h in
      let q = and_parts (is_right v) (are_right ts) p.1 in
      let e = and_parts (is_new_key k ts) (keys_distinct ts) d in
      inner_pair_there k v (inner_there k p.0) (inner_there v q.0) (map inner_pair (pairs_from ts)) ts (pairs_there ts e.1 q.1)

-- a right tree is that of its value
pub plain_there : (t : Tree) → is_right t ≡ true → plain (value_of t) ≡ t
plain_there t h = plain_is (value_of t) ∙ inner_there t h
