-- Keys that are seen from the last to the first.
use Rattle.std.proofs.Common.{◌≡◌, ℕ, zero, suc, ◌+◌, Bool, true, false, List, [], ◌∷◌, map, drop, get_or, length, ◌≤◌, refl, sym, ap, ◌∙◌, subst, arith}
use Rattle.std.specs.Prelude.{not, ◌&&◌, ◌||◌}
use Rattle.std.specs.List.{list_all, list_any}
use Rattle.std.proofs.lemmas.Bool.{and_from, and_parts}
use Rattle.std.proofs.lemmas.List.{drop_more}
use Rattle.std.specs.BTreeSet.{BTreeSet}
use Rattle.std.specs.Global.{Vec}
use Rattle.gd_variant.specs.declared.value.Pair.{Pair}
use Rattle.gd_variant.specs.Tree.{Tree, PairTree, tree_eq, plain, plain_pair, plain_pairs}
use Rattle.gd_variant.specs.Sound.{is_new_key, keys_distinct}
use Rattle.variant_codec.specs.Known.{AreKnown, IsKnown, holds}
use Rattle.variant_codec.specs.Tests.{is_new_to}
use Rattle.variant_codec.specs.Written.{written}
use Rattle.variant_codec.proofs.KnownKeys.{fresh_is}

not_or : (a b : Bool) → not (a || b) ≡ (not a && not b)
not_or true b = refl
not_or false b = refl

-- both ways to say that a key is new
new_is : (k : Tree) (ps : List Pair) → is_new_to (map plain_pair ps) k ≡ is_new_key k (plain_pairs ps)
new_is k [] = refl
new_is k (p ∷ ps) = not_or (tree_eq k (plain p.key)) (list_any (λ (q : PairTree). tree_eq k q.key) (map plain_pair ps)) ∙ ap (λ b. not (tree_eq k (plain p.key)) && b) (new_is k ps)

-- a key whose form isn't in the set is new
pub fresh_key : (seen : BTreeSet (Vec ℕ)) (ps : List Pair) (k : Tree) (bytes : List ℕ) (found : Bool) → bytes ≡ written k → found ≡ holds seen bytes → found ≡ false → AreKnown seen (map plain_pair ps) → true ≡ is_new_key k (plain_pairs ps)
fresh_key seen ps k bytes found is e none known = fresh_is seen (map plain_pair ps) k bytes found is e none known ∙ new_is k ps

kept : (old now : BTreeSet (Vec ℕ)) (ps : List PairTree) → ((k : Tree) → IsKnown old k → IsKnown now k) → AreKnown old ps → AreKnown now ps
kept old now [] keeps known = refl
kept old now (p ∷ ps) keeps known =
    let parts = and_parts (holds old (written p.key)) (list_all (λ (q : PairTree). holds old (written q.key)) ps) known in
    and_from _ _ (keeps p.key parts.0) (kept old now ps keeps parts.1)

-- what is known of the pairs that were seen
pub record Seen (seen : BTreeSet (Vec ℕ)) (later : List Pair) (at : ℕ) (pairs : List Pair) : Type 0 where
  pub within : at ≤ length pairs
  pub place : later ≡ drop at pairs
  pub known : AreKnown seen (map plain_pair later)
  pub distinct : keys_distinct (plain_pairs later) ≡ true

-- the pair in front of them
in_front : (later pairs : List Pair) (at place : ℕ) (p : Pair) → at ≡ place + 1 → at ≤ length pairs → p ≡ get_or pairs place p → later ≡ drop at pairs → drop place pairs ≡ p ∷ later
in_front later pairs at place p next lt here is =
    drop_more pairs place p (omega (arith, next, lt)) ∙ ap (λ q. q ∷ drop (place + 1) pairs) (sym here) ∙ ap (λ n. p ∷ drop n pairs) (sym next) ∙ ap (λ qs. p ∷ qs) (sym is)

-- one pair more
pub seen_on : (old now : BTreeSet (Vec ℕ)) (later rest pairs : List Pair) (at place : ℕ) (p : Pair) (fresh : Bool) → at ≡ place + 1 → p ≡ get_or pairs place p → rest ≡ drop place pairs
    → ((k : Tree) → IsKnown old k → IsKnown now k) → IsKnown now (plain p.key) → (AreKnown old (map plain_pair later) → fresh ≡ is_new_key (plain p.key) (plain_pairs later)) → fresh ≡ true
    → Seen old later at pairs → Seen now rest place pairs
seen_on old now later rest pairs at place p fresh next here is keeps adds new is_one s =
    let all : rest ≡ p ∷ later = is ∙ in_front later pairs at place p next s.within here s.place in record {
      within = omega (arith, next, s.within);
      place = is;
      known = subst (λ qs. AreKnown now (map plain_pair qs)) (sym all) (and_from (holds now (written (plain p.key))) _ adds (kept old now (map plain_pair later) keeps s.known));
      distinct = ap (λ qs. keys_distinct (plain_pairs qs)) all ∙ and_from (is_new_key (plain p.key) (plain_pairs later)) _ (sym (new s.known) ∙ is_one) s.distinct;
    }

and_false : (a b : Bool) → b ≡ false → (a && b) ≡ false
and_false true b e = e
and_false false b e = refl

-- a pair whose key stands behind it
repeated : (n : ℕ) (pairs : List Pair) → keys_distinct (plain_pairs (drop n pairs)) ≡ false → keys_distinct (plain_pairs pairs) ≡ false
repeated zero pairs e = e
repeated (suc n) [] e = e
repeated (suc n) (p ∷ ps) e = and_false (is_new_key (plain p.key) (plain_pairs ps)) _ (repeated n ps e)

first_repeated : (a b : Bool) → a ≡ false → (a && b) ≡ false
first_repeated true b e = absurd cc
first_repeated false b e = refl

pub seen_stops : (old : BTreeSet (Vec ℕ)) (later pairs : List Pair) (at place : ℕ) (p : Pair) (fresh : Bool) → at ≡ place + 1 → p ≡ get_or pairs place p
    → (AreKnown old (map plain_pair later) → fresh ≡ is_new_key (plain p.key) (plain_pairs later)) → fresh ≡ false → Seen old later at pairs → false ≡ keys_distinct (plain_pairs pairs)
seen_stops old later pairs at place p fresh next here new isnt s =
    let all : drop place pairs ≡ p ∷ later = in_front later pairs at place p next s.within here s.place in
    sym (repeated place pairs (ap (λ qs. keys_distinct (plain_pairs qs)) all ∙ first_repeated (is_new_key (plain p.key) (plain_pairs later)) _ (sym (new s.known) ∙ isnt)))
