-- The equality of trees, and of values, decides whether they are one.
use Rattle.std.proofs.Common.{◌≡◌, ℕ, Bool, true, false, List, [], ◌∷◌, refl, sym, ap, ap₂, ◌∙◌}
use Rattle.std.specs.Prelude.{ℤ, nat_eq}
use Rattle.std.specs.Bool.{Decides}
use Rattle.std.specs.Ordering.{int_eq}
use Rattle.std.proofs.lemmas.Bool.{and_parts, and_from}
use Rattle.std.proofs.lemmas.Bool.Decides.{Decides-int_eq, Decides-eqb, same_from_decides}
use Rattle.gd_variant.specs.declared.value.Variant.{Variant}
use Rattle.gd_variant.specs.Words.{text_eq}
use Rattle.gd_variant.specs.Tree.{Tree, Trees, nil, boolean, int, text, name, path, ints, opaque, dict, array, packed_bytes, packed_ints, packed_texts, none, item, bool_eq, list_eq, tree_eq, trees_eq, plain, same_value}
use Rattle.gd_variant.proofs.TreeOf.{plain_same}

bool_told : (a b : Bool) → bool_eq a b ≡ true → a ≡ b
bool_told true b e = sym e
bool_told false true e = absurd cc
bool_told false false e = refl

bool_again : (a : Bool) → bool_eq a a ≡ true
bool_again true = refl
bool_again false = refl

text_told : (s t : List ℕ) → text_eq s t ≡ true → s ≡ t
text_told [] [] e = refl
text_told [] (b ∷ t) e = absurd cc
text_told (a ∷ s) [] e = absurd cc
text_told (a ∷ s) (b ∷ t) e = let h = and_parts (nat_eq a b) (text_eq s t) e in ap₂ (λ (x : ℕ) (xs : List ℕ). x ∷ xs) ((Decides-eqb a b).0 h.0) (text_told s t h.1)

text_again : (s : List ℕ) → text_eq s s ≡ true
text_again [] = refl
text_again (a ∷ s) = and_from (nat_eq a a) (text_eq s s) ((Decides-eqb a a).1 refl) (text_again s)

list_told : {X : Type 0} (eq : X → X → Bool) → ((x y : X) → eq x y ≡ true → x ≡ y) → (xs ys : List X) → list_eq eq xs ys ≡ true → xs ≡ ys
list_told eq told [] [] e = refl
list_told eq told [] (y ∷ ys) e = absurd cc
list_told eq told (x ∷ xs) [] e = absurd cc
list_told {X} eq told (x ∷ xs) (y ∷ ys) e = let h = and_parts (eq x y) (list_eq eq xs ys) e in ap₂ (λ (z : X) (zs : List X). z ∷ zs) (told x y h.0) (list_told eq told xs ys h.1)

list_again : {X : Type 0} (eq : X → X → Bool) → ((x : X) → eq x x ≡ true) → (xs : List X) → list_eq eq xs xs ≡ true
list_again eq again [] = refl
list_again eq again (x ∷ xs) = and_from (eq x x) (list_eq eq xs xs) (again x) (list_again eq again xs)

int_told : (y z : ℤ) → int_eq y z ≡ true → y ≡ z
int_told y z e = (Decides-int_eq y z).0 e

int_again : (z : ℤ) → int_eq z z ≡ true
int_again z = (Decides-int_eq z z).1 refl

nat_told : (m n : ℕ) → nat_eq m n ≡ true → m ≡ n
nat_told m n e = (Decides-eqb m n).0 e

mutual
  pub tree_told : (t u : Tree) → tree_eq t u ≡ true → t ≡ u
  tree_told nil nil e = refl
  tree_told (boolean a) (boolean b) e = ap boolean (bool_told a b e)
  tree_told (int y) (int z) e = ap int (int_told y z e)
  tree_told (text s) (text t) e = ap text (text_told s t e)
  tree_told (name s) (name t) e = ap name (text_told s t e)
  tree_told (path a ns ss) (path b ms ts) e =
      let h = and_parts _ (list_eq text_eq ss ts) e in
      let k = and_parts (bool_eq a b) (list_eq text_eq ns ms) h.0 in
      let p = bool_told a b k.0 in
      let q = list_told text_eq text_told ns ms k.1 in
      let r = list_told text_eq text_told ss ts h.1 in
      cc
  tree_told (ints c xs) (ints d ys) e =
      let h = and_parts (nat_eq c d) (list_eq int_eq xs ys) e in
      ap₂ ints (nat_told c d h.0) (list_told int_eq int_told xs ys h.1)
  tree_told (opaque c w xs) (opaque d v ys) e =
      let h = and_parts _ (text_eq xs ys) e in
      let k = and_parts (nat_eq c d) (bool_eq w v) h.0 in
      let p = nat_told c d k.0 in
      let q = bool_told w v k.1 in
      let r = text_told xs ys h.1 in
      cc
  tree_told (dict ts) (dict us) e = ap dict (trees_told ts us e)
  tree_told (array ts) (array us) e = ap array (trees_told ts us e)
  tree_told (packed_bytes s) (packed_bytes t) e = ap packed_bytes (text_told s t e)
  tree_told (packed_ints w xs) (packed_ints v ys) e =
      let h = and_parts (bool_eq w v) (list_eq int_eq xs ys) e in
      ap₂ packed_ints (bool_told w v h.0) (list_told int_eq int_told xs ys h.1)
  tree_told (packed_texts ss) (packed_texts ts) e = ap packed_texts (list_told text_eq text_told ss ts e)
  tree_told t u e = absurd cc

  pub trees_told : (ts us : Trees) → trees_eq ts us ≡ true → ts ≡ us
  trees_told none none e = refl
  trees_told none (item u us) e = absurd cc
  trees_told (item t ts) none e = absurd cc
  trees_told (item t ts) (item u us) e =
      let h = and_parts (tree_eq t u) (trees_eq ts us) e in
      ap₂ item (tree_told t u h.0) (trees_told ts us h.1)

mutual
  pub tree_again : (t : Tree) → tree_eq t t ≡ true
  tree_again nil = refl
  tree_again (boolean a) = bool_again a
  tree_again (int y) = int_again y
  tree_again (text s) = text_again s
  tree_again (name s) = text_again s
  tree_again (path a ns ss) = and_from _ _ (and_from _ _ (bool_again a) (list_again text_eq text_again ns)) (list_again text_eq text_again ss)
  tree_again (ints c xs) = and_from _ _ ((Decides-eqb c c).1 refl) (list_again int_eq int_again xs)
  tree_again (opaque c w xs) = and_from _ _ (and_from _ _ ((Decides-eqb c c).1 refl) (bool_again w)) (text_again xs)
  tree_again (dict ts) = trees_again ts
  tree_again (array ts) = trees_again ts
  tree_again (packed_bytes s) = text_again s
  tree_again (packed_ints w xs) = and_from _ _ (bool_again w) (list_again int_eq int_again xs)
  tree_again (packed_texts ts) = list_again text_eq text_again ts

  pub trees_again : (ts : Trees) → trees_eq ts ts ≡ true
  trees_again none = refl
  trees_again (item t ts) = and_from _ _ (tree_again t) (trees_again ts)

pub tree_decides : (t u : Tree) → Decides (tree_eq t u) (t ≡ u)
tree_decides t u = (tree_told t u, λ e. ap (tree_eq t) (sym e) ∙ tree_again t)

pub value_decides : (v w : Variant) → Decides (same_value v w) (v ≡ w)
value_decides v w = (λ e. plain_same v w (tree_told (plain v) (plain w) e), λ e. ap (λ x. tree_eq (plain v) (plain x)) (sym e) ∙ tree_again (plain v))

-- a test that tells whether two values are one answers as the equality of their trees
pub is_same_value : (v w : Variant) (r : Bool) → Decides r (v ≡ w) → r ≡ same_value v w
is_same_value v w r d = same_from_decides r (same_value v w) d (value_decides v w)
