-- Lists of trees and of pairs, and the trees that hold them.
use Rattle.std.proofs.Common.{◌≡◌, ℕ, suc, ◌*◌, ◌<◌, Bool, true, false, List, [], ◌∷◌, ◌++◌, length, refl, sym, ap, ◌∙◌, append_assoc, arith}
use Rattle.std.specs.Prelude.{not, ◌&&◌, ◌||◌}
use Rattle.std.specs.List.{list_all, list_any}
use Rattle.std.proofs.lemmas.Bool.{and_parts, and_from}
use Rattle.std.proofs.lemmas.List.Folds.{list_all-append}
use Rattle.gd_variant.specs.Tree.{Tree, Trees, none, item, trees_of, PairTree, pairs_of, tree_eq}
use Rattle.gd_variant.specs.Sound.{deepest, is_new_key, keys_distinct}
use Rattle.gd_variant.proofs.Equal.{tree_told, tree_again}
use Rattle.variant_codec.specs.Parts.{count}
use Rattle.variant_codec.specs.Grammar.{SpellsAll}
use Rattle.variant_codec.specs.Readers.{Each}
use Rattle.variant_codec.specs.Tests.{is_new_to}
use Rattle.variant_codec.specs.Breaks.{SpellsWithin, Pair}

-- ---- arrays

pub count_trees : (ts : List Tree) → count (trees_of ts) ≡ length ts
count_trees [] = refl
count_trees (t ∷ ts) = ap suc (count_trees ts)

abbrev pub list_of : Trees → List Tree
list_of none = []
list_of (item t ts) = t ∷ list_of ts

pub list_back : (ts : Trees) → trees_of (list_of ts) ≡ ts
list_back none = refl
list_back (item t ts) = ap (item t) (list_back ts)

pub list_count : (ts : Trees) → length (list_of ts) ≡ count ts
list_count none = refl
list_count (item t ts) = ap suc (list_count ts)

pub all_to : (n : ℕ) (before ts : List Tree) (b : List ℕ) → Each (λ _. SpellsWithin n) before ts b → SpellsAll (trees_of ts) b
all_to n before [] b e = e
all_to n before (t ∷ ts) b e = (e.0, e.1, e.2.1, all_to n (before ++ t ∷ []) ts e.1 e.3, e.4)

pub deep_to : (n : ℕ) (before ts : List Tree) (b : List ℕ) → 0 < n → Each (λ _. SpellsWithin n) before ts b → deepest (trees_of ts) < n
deep_to n before [] b lt e = lt
deep_to n before (t ∷ ts) b lt e = omega (arith, e.2.0, deep_to n (before ++ t ∷ []) ts e.1 lt e.3)

pub all_from : (n : ℕ) (before : List Tree) (ts : Trees) (b : List ℕ) → deepest ts < n → SpellsAll ts b → Each (λ _. SpellsWithin n) before (list_of ts) b
all_from n before none b lt e = e
all_from n before (item t ts) b lt e = (e.0, e.1, (omega (arith, lt), e.2), all_from n (before ++ t ∷ []) ts e.1 (omega (arith, lt)) e.3, e.4)

-- ---- dictionaries

abbrev pub pairs_list : Trees → List PairTree
pairs_list none = []
pairs_list (item k none) = []
pairs_list (item k (item v ts)) = record { key = k; value = v } ∷ pairs_list ts

pub pairs_back : (ts : Trees) → keys_distinct ts ≡ true → pairs_of (pairs_list ts) ≡ ts
pairs_back none h = refl
pairs_back (item k none) h = absurd cc
pairs_back (item k (item v ts)) h = ap (λ us. item k (item v us)) (pairs_back ts (and_parts (is_new_key k ts) (keys_distinct ts) h).1)

pub count_pairs : (ps : List PairTree) → count (pairs_of ps) ≡ 2 * length ps
count_pairs [] = refl
count_pairs (p ∷ ps) = omega (arith, count_pairs ps)

pub pairs_all : (n : ℕ) (before ps : List PairTree) (b : List ℕ) → Each (Pair (SpellsWithin n)) before ps b → SpellsAll (pairs_of ps) b
pairs_all n before [] b e = e
pairs_all n before (p ∷ ps) b (front, more, (key, value, fresh, k, v, parts), rest, whole) =
    (key, value ++ more, k.1, (value, more, v.1, pairs_all n (before ++ p ∷ []) ps more rest, refl), whole ∙ ap (λ (f : List ℕ). f ++ more) parts ∙ append_assoc key value more)

pub pairs_deep : (n : ℕ) (before ps : List PairTree) (b : List ℕ) → 0 < n → Each (Pair (SpellsWithin n)) before ps b → deepest (pairs_of ps) < n
pairs_deep n before [] b lt e = lt
pairs_deep n before (p ∷ ps) b lt (front, more, (key, value, fresh, k, v, parts), rest, whole) =
    omega (arith, k.0, v.0, pairs_deep n (before ++ p ∷ []) ps more lt rest)

-- equality of trees goes both ways
not_held : (b : Bool) → (b ≡ true → ⊥) → b ≡ false
not_held true h = absurd (h refl)
not_held false h = refl

differs : (t u : Tree) → tree_eq t u ≡ false → tree_eq u t ≡ false
differs t u e = not_held (tree_eq u t) (λ h. let again : tree_eq t u ≡ true = ap (tree_eq t) (tree_told u t h) ∙ tree_again t in absurd cc)

not_true : (b : Bool) → not b ≡ true → b ≡ false
not_true true h = sym h
not_true false h = refl

neither : (a b : Bool) → not (a || b) ≡ true → (a ≡ false) × (not b ≡ true)
neither true b h = absurd cc
neither false b h = (refl, h)

not_either : (a b : Bool) → a ≡ false → not b ≡ true → not (a || b) ≡ true
not_either true b e h = absurd cc
not_either false b e h = h

-- no earlier key is a later one
abbrev Apart : List PairTree → Trees → Type 0
Apart before ts = list_all (λ (q : PairTree). is_new_key q.key ts) before ≡ true

apart_none : (before : List PairTree) → Apart before none
apart_none [] = refl
apart_none (q ∷ before) = apart_none before

apart_more : (before : List PairTree) (k v : Tree) (ts : Trees) → is_new_to before k ≡ true → Apart before ts → Apart before (item k (item v ts))
apart_more [] k v ts h a = refl
apart_more (q ∷ before) k v ts h a =
    let m = neither (tree_eq k q.key) (list_any (λ (p : PairTree). tree_eq k p.key) before) h in
    let b = and_parts (is_new_key q.key ts) (list_all (λ (p : PairTree). is_new_key p.key ts) before) a in
    and_from _ _ (and_from (not (tree_eq q.key k)) (is_new_key q.key ts) (ap not (differs k q.key m.0)) b.0) (apart_more before k v ts m.1 b.1)

apart_less : (before : List PairTree) (k v : Tree) (ts : Trees) → Apart before (item k (item v ts)) → (is_new_to before k ≡ true) × Apart before ts
apart_less [] k v ts a = (refl, refl)
apart_less (q ∷ before) k v ts a =
    let b = and_parts (not (tree_eq q.key k) && is_new_key q.key ts) _ a in
    let d = and_parts (not (tree_eq q.key k)) (is_new_key q.key ts) b.0 in
    let r = apart_less before k v ts b.1 in
    (not_either (tree_eq k q.key) _ (differs q.key k (not_true (tree_eq q.key k) d.0)) r.0, and_from (is_new_key q.key ts) _ d.1 r.1)

pub pairs_distinct : (n : ℕ) (before ps : List PairTree) (b : List ℕ) → Each (Pair (SpellsWithin n)) before ps b → (keys_distinct (pairs_of ps) ≡ true) × Apart before (pairs_of ps)
pairs_distinct n before [] b e = (refl, apart_none before)
pairs_distinct n before (p ∷ ps) b (front, more, (key, value, fresh, k, v, parts), rest, whole) =
    let r = pairs_distinct n (before ++ p ∷ []) ps more rest in
    let a = and_parts _ _ (sym (list_all-append (λ (q : PairTree). is_new_key q.key (pairs_of ps)) before (p ∷ [])) ∙ r.1) in
    let here = (and_parts (is_new_key p.key (pairs_of ps)) true a.1).0 in
    (and_from (is_new_key p.key (pairs_of ps)) (keys_distinct (pairs_of ps)) here r.0, apart_more before p.key p.value (pairs_of ps) fresh a.0)

pub pairs_from : (n : ℕ) (before : List PairTree) (ts : Trees) (b : List ℕ) → keys_distinct ts ≡ true → Apart before ts → deepest ts < n → SpellsAll ts b → Each (Pair (SpellsWithin n)) before (pairs_list ts) b
pairs_from n before none b d a lt e = e
pairs_from n before (item k none) b d a lt e = absurd cc
pairs_from n before (item k (item v ts)) b d a lt (key, others, sk, (value, more, sv, all, inner), outer) =
    let f = apart_less before k v ts a in
    let g = and_parts (is_new_key k ts) (keys_distinct ts) d in
    let p : PairTree = record { key = k; value = v } in
    let next : Apart (before ++ p ∷ []) ts = list_all-append (λ (q : PairTree). is_new_key q.key ts) before (p ∷ []) ∙ and_from _ _ f.1 (and_from (is_new_key k ts) true g.0 refl) in (
      key ++ value,
      more,
      (key, value, f.0, (omega (arith, lt), sk), (omega (arith, lt), sv), refl),
      pairs_from n (before ++ p ∷ []) ts more g.1 next (omega (arith, lt)) all,
      outer ∙ ap (λ (o : List ℕ). key ++ o) inner ∙ sym (append_assoc key value more),
    )
