-- A key whose written form is new is new; a set that grows knows what it knew.
use Rattle.std.proofs.Common.{◌≡◌, ℕ, Bool, true, false, List, [], ◌∷◌, ◌++◌, map, refl, sym, ap, subst, ◌∙◌, inl, inr}
use Rattle.std.specs.Prelude.{not, ◌||◌}
use Rattle.std.specs.List.{list_all, list_any}
use Rattle.std.specs.declared.cmp.Ordering.{Ordering}
use Rattle.std.specs.declared.cmp.Ordering.TheVariants.{Less, Equal, Greater}
use Rattle.std.specs.Ordering.{match_ordering, nat_cmp}
use Rattle.std.specs.Cmp.Lexicographic.{slice_cmp}
use Rattle.std.specs.BTreeMap.{is_at}
use Rattle.std.specs.BTreeSet.{BTreeSet, insert_key}
use Rattle.std.specs.Global.{Vec}
use Rattle.std.proofs.lemmas.Bool.{and_parts, and_from, or_cases, cases_Bool}
use Rattle.std.proofs.lemmas.List.Folds.{list_all-append}
use Rattle.std.proofs.lemmas.List.{map_push}
use Rattle.gd_variant.specs.declared.value.Pair.{Pair}
use Rattle.gd_variant.specs.Tree.{Tree, PairTree, plain_pair, tree_eq}
use Rattle.gd_variant.proofs.Equal.{tree_told}
use Rattle.variant_codec.specs.Written.{written}
use Rattle.variant_codec.specs.Tests.{is_new_to}
use Rattle.variant_codec.specs.Known.{holds, IsKnown, AreKnown}

not_same : (seen : BTreeSet (Vec ℕ)) (k t : Tree) → holds seen (written k) ≡ false → holds seen (written t) ≡ true → tree_eq k t ≡ false
not_same seen k t out is =
    elim (cases_Bool (tree_eq k t)) [
      | inl e ↦ let f : holds seen (written k) ≡ true = ap (λ u. holds seen (written u)) (tree_told k t e) ∙ is in absurd cc
      | inr e ↦ e
    ]

none_has : (seen : BTreeSet (Vec ℕ)) (ps : List PairTree) (k : Tree) → AreKnown seen ps → holds seen (written k) ≡ false → list_any (λ (p : PairTree). tree_eq k p.key) ps ≡ false
none_has seen [] k known out = refl
none_has seen (p ∷ ps) k known out =
    let a = and_parts (holds seen (written p.key)) (list_all (λ (q : PairTree). holds seen (written q.key)) ps) known in
    rw (not_same seen k p.key out a.0) (none_has seen ps k a.1 out)

pub fresh_is : (seen : BTreeSet (Vec ℕ)) (ps : List PairTree) (k : Tree) (bytes : List ℕ) (found : Bool) → bytes ≡ written k → found ≡ holds seen bytes → found ≡ false → AreKnown seen ps → true ≡ is_new_to ps k
fresh_is seen ps k bytes found is e no_form known = sym (ap not (none_has seen ps k known (ap (holds seen) (sym is) ∙ sym e ∙ no_form)))

or_right : (a b : Bool) → b ≡ true → (a || b) ≡ true
or_right true b e = refl
or_right false b e = e

kept_step : {K : Type 0} (p : K → Bool) (x k : K) (xs ys : List K) (o : Ordering) → list_any p (x ∷ xs) ≡ true → (list_any p xs ≡ true → list_any p ys ≡ true) → list_any p (match_ordering o (k ∷ x ∷ xs) (x ∷ xs) (x ∷ ys)) ≡ true
kept_step p x k xs ys Less h more = or_right (p k) (list_any p (x ∷ xs)) h
kept_step p x k xs ys Equal h more = h
kept_step p x k xs ys Greater h more = elim (or_cases (p x) (list_any p xs) h) [ inl e ↦ rw e refl | inr e ↦ or_right (p x) (list_any p ys) (more e) ]

pub kept : {K : Type 0} (p : K → Bool) (cmp : K → K → Ordering) (ks : List K) (k : K) → list_any p ks ≡ true → list_any p (insert_key cmp ks k) ≡ true
kept p cmp [] k h = absurd cc
kept p cmp (x ∷ xs) k h = kept_step p x k xs (insert_key cmp xs k) (cmp k x) h (kept p cmp xs k)

abbrev spelled_as : List ℕ → Vec ℕ → Bool
spelled_as bytes k = is_at (λ (x : Vec ℕ). slice_cmp nat_cmp bytes x.items) k

pub known_kept : (old now : BTreeSet (Vec ℕ)) (cmp : Vec ℕ → Vec ℕ → Ordering) (form : Vec ℕ) (t : Tree) → now.keys ≡ insert_key cmp old.keys form → IsKnown old t → IsKnown now t
known_kept old now cmp form t e h = ap (list_any (spelled_as (written t))) e ∙ kept (spelled_as (written t)) cmp old.keys form h

-- the set knows one pair more
all_kept : (old now : BTreeSet (Vec ℕ)) (ps : List PairTree) → ((k : Tree) → IsKnown old k → IsKnown now k) → AreKnown old ps → AreKnown now ps
all_kept old now [] keeps known = refl
all_kept old now (p ∷ ps) keeps known =
    let a = and_parts (holds old (written p.key)) (list_all (λ (q : PairTree). holds old (written q.key)) ps) known in
    and_from _ _ (keeps p.key a.0) (all_kept old now ps keeps a.1)

pub known_more : (old now : BTreeSet (Vec ℕ)) (ps : List PairTree) (p : PairTree) → ((k : Tree) → IsKnown old k → IsKnown now k) → IsKnown now p.key → AreKnown old ps → AreKnown now (ps ++ p ∷ [])
known_more old now ps p keeps adds known =
    list_all-append (λ (q : PairTree). holds now (written q.key)) ps (p ∷ []) ∙ and_from _ _ (all_kept old now ps keeps known) (and_from (holds now (written p.key)) true adds refl)

-- one pair more in the list that the code keeps
pub known_push : (now : BTreeSet (Vec ℕ)) (before after slice : List Pair) (p : Pair) → slice ≡ before → after ≡ before ++ p ∷ [] → AreKnown now (map plain_pair slice ++ plain_pair p ∷ []) → AreKnown now (map plain_pair after)
known_push now before after slice p e f known =
    subst (λ ps. AreKnown now ps) (ap (λ (qs : List Pair). map plain_pair qs ++ plain_pair p ∷ []) e ∙ sym (ap (map plain_pair) f ∙ map_push plain_pair before p)) known

pub at_slice : (seen : BTreeSet (Vec ℕ)) (items slice : List Pair) → slice ≡ items → AreKnown seen (map plain_pair items) → AreKnown seen (map plain_pair slice)
at_slice seen items slice e known = subst (λ (qs : List Pair). AreKnown seen (map plain_pair qs)) (sym e) known
