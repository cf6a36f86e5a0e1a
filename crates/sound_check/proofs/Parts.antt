-- Parts of a value that is small enough to be sound.
use Rattle.std.proofs.Common.{◌≡◌, ℕ, ◌+◌, ◌<◌, ◌≤◌, Bool, true, false, List, [], ◌∷◌, take, get_or, length, refl, sym, ap, ap₂, ◌∙◌, arith}
use Rattle.std.specs.Prelude.{◌&&◌}
use Rattle.std.specs.List.{list_all}
use Rattle.std.proofs.lemmas.Bool.{le-leb}
use Rattle.std.proofs.lemmas.List.Folds.{list_all_more, list_all_at}
use Rattle.gd_variant.specs.declared.value.Variant.{Variant}
use Rattle.gd_variant.specs.declared.value.Variant.TheVariants.{Dict, Array}
use Rattle.gd_variant.specs.declared.value.Pair.{Pair}
use Rattle.gd_variant.specs.Tree.{Tree, Trees, plain, plains, plain_pairs}
use Rattle.gd_variant.specs.Tree as tree
use Rattle.gd_variant.specs.Size.{tree_size, trees_size}
use Rattle.gd_variant.specs.Sound.{is_right, are_right, keys_distinct}
use Rattle.gd_variant.proofs.TreeOf.{plain_dict, plain_array}
use Rattle.sound_check.specs.Fits.{all_fit, fits}

alone : (right short : Bool) → short ≡ true → ((right && true) && short) ≡ right
alone true short e = e
alone false short e = refl

mutual
  pub fits_is : (t : Tree) → tree_size t ≤ 8388608 → fits t ≡ is_right t
  fits_is tree.nil h = alone _ _ (le-leb (tree_size tree.nil) 8388608 h)
  fits_is (tree.boolean b) h = alone _ _ (le-leb (tree_size (tree.boolean b)) 8388608 h)
  fits_is (tree.int z) h = alone _ _ (le-leb (tree_size (tree.int z)) 8388608 h)
  fits_is (tree.text s) h = alone _ _ (le-leb (tree_size (tree.text s)) 8388608 h)
  fits_is (tree.name s) h = alone _ _ (le-leb (tree_size (tree.name s)) 8388608 h)
  fits_is (tree.path a ns ss) h = alone _ _ (le-leb (tree_size (tree.path a ns ss)) 8388608 h)
  fits_is (tree.ints c zs) h = alone _ _ (le-leb (tree_size (tree.ints c zs)) 8388608 h)
  fits_is (tree.opaque c w bs) h = alone _ _ (le-leb (tree_size (tree.opaque c w bs)) 8388608 h)
  fits_is (tree.dict ts) h = ap (λ b. keys_distinct ts && b) (all_fit_is ts (omega (arith, h)))
  fits_is (tree.array ts) h = all_fit_is ts (omega (arith, h))
  fits_is (tree.packed_bytes bs) h = alone _ _ (le-leb (tree_size (tree.packed_bytes bs)) 8388608 h)
  fits_is (tree.packed_ints w zs) h = alone _ _ (le-leb (tree_size (tree.packed_ints w zs)) 8388608 h)
  fits_is (tree.packed_texts ts) h = alone _ _ (le-leb (tree_size (tree.packed_texts ts)) 8388608 h)

  pub all_fit_is : (ts : Trees) → trees_size ts ≤ 8388608 → all_fit ts ≡ are_right ts
  all_fit_is tree.none h = refl
  all_fit_is (tree.item t ts) h = ap₂ (λ a b. a && b) (fits_is t (omega (arith, h))) (all_fit_is ts (omega (arith, h)))

and_assoc : (a b c : Bool) → (a && (b && c)) ≡ ((a && b) && c)
and_assoc true b c = refl
and_assoc false b c = refl

abbrev pub item_fits : Variant → Bool
item_fits v = fits (plain v)

abbrev pub pair_fits : Pair → Bool
pair_fits p = fits (plain p.key) && fits (plain p.value)

items_fit_is : (vs : List Variant) → all_fit (plains vs) ≡ list_all item_fits vs
items_fit_is [] = refl
items_fit_is (v ∷ vs) = ap (λ b. item_fits v && b) (items_fit_is vs)

pairs_fit_is : (ps : List Pair) → all_fit (plain_pairs ps) ≡ list_all pair_fits ps
pairs_fit_is [] = refl
pairs_fit_is (p ∷ ps) = ap (λ b. fits (plain p.key) && (fits (plain p.value) && b)) (pairs_fit_is ps) ∙ and_assoc (fits (plain p.key)) (fits (plain p.value)) (list_all pair_fits ps)

more : {X : Type 0} (all : List X → Bool) (each : X → Bool) → ((xs : List X) → all xs ≡ list_all each xs) → (xs : List X) (i : ℕ) (x : X) → i < length xs → x ≡ get_or xs i x
    → all (take i xs) ≡ true → each x ≡ true → all (take (i + 1) xs) ≡ true
more all each is xs i x lt at front here =
    is (take (i + 1) xs) ∙ list_all_more each xs i x lt ∙ ap (λ b. b && each (get_or xs i x)) (sym (is (take i xs)) ∙ front) ∙ ap each (sym at) ∙ here

stops : {X : Type 0} (all : List X → Bool) (each : X → Bool) → ((xs : List X) → all xs ≡ list_all each xs) → (xs : List X) (i : ℕ) (x : X) → i < length xs → x ≡ get_or xs i x
    → each x ≡ false → false ≡ all xs
stops all each is xs i x lt at here = sym (is xs ∙ list_all_at each xs i x lt (ap each (sym at) ∙ here))

-- one item more of an array, and one that doesn't fit
pub fit_more : (vs : List Variant) (i : ℕ) (v : Variant) → i < length vs → v ≡ get_or vs i v → all_fit (plains (take i vs)) ≡ true → fits (plain v) ≡ true → all_fit (plains (take (i + 1) vs)) ≡ true
fit_more = more (λ vs. all_fit (plains vs)) item_fits items_fit_is

pub fit_stops : (vs : List Variant) (i : ℕ) (v : Variant) → i < length vs → v ≡ get_or vs i v → fits (plain v) ≡ false → false ≡ all_fit (plains vs)
fit_stops = stops (λ vs. all_fit (plains vs)) item_fits items_fit_is

-- one pair more of a dictionary, and one that doesn't fit
pub pair_more : (ps : List Pair) (i : ℕ) (p : Pair) → i < length ps → p ≡ get_or ps i p → all_fit (plain_pairs (take i ps)) ≡ true → pair_fits p ≡ true → all_fit (plain_pairs (take (i + 1) ps)) ≡ true
pair_more = more (λ ps. all_fit (plain_pairs ps)) pair_fits pairs_fit_is

pub pair_stops : (ps : List Pair) (i : ℕ) (p : Pair) → i < length ps → p ≡ get_or ps i p → pair_fits p ≡ false → false ≡ all_fit (plain_pairs ps)
pair_stops = stops (λ ps. all_fit (plain_pairs ps)) pair_fits pairs_fit_is

pub fits_dict : (v : Variant) (ps : List Pair) → v ≡ Dict ps → fits (tree.dict (plain_pairs ps)) ≡ fits (plain v)
fits_dict v ps e = sym (ap (λ w. fits (plain w)) e ∙ ap fits (plain_dict ps))

pub fits_array : (v : Variant) (vs : List Variant) → v ≡ Array vs → all_fit (plains vs) ≡ fits (plain v)
fits_array v vs e = sym (ap (λ w. fits (plain w)) e ∙ ap fits (plain_array vs))
