-- Numbers that rows have, and the first of some that is known.
use Rattle.std.proofs.Common.{◌≡◌, ℕ, ◌+◌, ◌<◌, ◌≤◌, ℤ, Bool, true, false, cond, not, ◌&&◌, ◌||◌, List, [], ◌∷◌, ◌++◌, refl, sym, ap, ap₂, ◌∙◌, Option, Some, None, length, drop, get_or, drop-cons, suc, arith, is_some}
use Rattle.std.specs.Prelude.{nat_eq, position, is_none}
use Rattle.std.specs.List.{list_any}
use Rattle.std.proofs.lemmas.List.{drop_all}
use Rattle.std.proofs.lemmas.List.Folds.{list_any-append}
use Rattle.gd_variant.specs.Words.{has_nat}
use Rattle.peer_model.specs.Updates.{Live}
use Rattle.peer_model.specs.Faults.{known_ids, first_known}
use Rattle.headless_tree.specs.Nodes.{is_row_of}
use Rattle.headless_tree.specs.Numbers.{has_number}
use Rattle.headless_tree.proofs.Numbered.{none_placed}
use Rattle.peer_laws.specs.Facts.{rows_under}

-- a number is among those of an authority's rows exactly where one of its nodes has it
pub known_is_any : (c : ℤ) (id : ℕ) (nodes : List Live) → has_nat id (known_ids (rows_under c nodes)) ≡ list_any (has_number c id) nodes
known_is_any c id [] = refl
known_is_any c id (n ∷ ns) = step (known_is_any c id ns) (is_row_of c n)
  where
    step : has_nat id (known_ids (rows_under c ns)) ≡ list_any (has_number c id) ns → (b : Bool)
        → has_nat id (known_ids (cond b (n ∷ rows_under c ns) (rows_under c ns))) ≡ ((b && has_nat id (n.num ∷ n.ids)) || list_any (has_number c id) ns)
    step more true = list_any-append (nat_eq id) (n.num ∷ n.ids) (known_ids (rows_under c ns)) ∙ ap (λ b. has_nat id (n.num ∷ n.ids) || b) more
    step more false = more

-- the first of some numbers that passes a test, or is among those that were seen
abbrev pub first_new : (ℕ → Bool) → List ℕ → List ℕ → Option ℕ
first_new test seen [] = None
first_new test seen (id ∷ ids) = cond (test id || has_nat id seen) (Some id) (first_new test (seen ++ id ∷ []) ids)

swapped : (e t s : Bool) → (e || (t || s)) ≡ (t || (s || (e || false)))
swapped true true s = refl
swapped true false true = refl
swapped true false false = refl
swapped false true s = refl
swapped false false true = refl
swapped false false false = refl

pub first_known_new : (test : ℕ → Bool) (known seen ids : List ℕ) → ((id : ℕ) → has_nat id known ≡ (test id || has_nat id seen)) → first_known known ids ≡ first_new test seen ids
first_known_new test known seen [] h = refl
first_known_new test known seen (id ∷ ids) h = ap₂ (λ b o. cond b (Some id) o) (h id) (first_known_new test (id ∷ known) (seen ++ id ∷ []) ids more)
  where
    more : (k : ℕ) → (nat_eq k id || has_nat k known) ≡ (test k || has_nat k (seen ++ id ∷ []))
    more k = ap (λ b. nat_eq k id || b) (h k) ∙ swapped (nat_eq k id) (test k) (has_nat k seen) ∙ ap (λ b. test k || b) (sym (list_any-append (nat_eq k) seen (id ∷ [])))

-- the first number of a spawn that is known at its sender
abbrev pub new_for : ℤ → List Live → ℕ → Bool
new_for c nodes id = list_any (has_number c id) nodes

no_more : (b : Bool) → b ≡ (b || false)
no_more true = refl
no_more false = refl

pub known_first : (c : ℤ) (nodes : List Live) (ids : List ℕ) → first_known (known_ids (rows_under c nodes)) ids ≡ first_new (new_for c nodes) [] ids
known_first c nodes ids = first_known_new (new_for c nodes) (known_ids (rows_under c nodes)) [] ids (λ id. known_is_any c id nodes ∙ no_more (list_any (has_number c id) nodes))

-- a number that is known comes first
pub known_here : (c : ℤ) (nodes : List Live) (id : ℕ) (ids : List ℕ) → true ≡ list_any (has_number c id) nodes → Some id ≡ first_known (known_ids (rows_under c nodes)) (id ∷ ids)
known_here c nodes id ids h = sym (known_first c nodes (id ∷ ids) ∙ ap (λ b. cond (b || false) (Some id) (first_new (new_for c nodes) (id ∷ []) ids)) (sym h))

one_more : (n : ℕ) → suc n ≡ n + 1
one_more n = omega arith

-- what a search found among the numbers that are left
pub known_there : (c : ℤ) (nodes : List Live) (seen ids whole : List ℕ) (i : ℕ) → i < length ids → first_new (new_for c nodes) seen (drop i ids) ≡ first_new (new_for c nodes) [] whole
    → (new_for c nodes (get_or ids i 0) || has_nat (get_or ids i 0) seen) ≡ true → Some (get_or ids i 0) ≡ first_known (known_ids (rows_under c nodes)) whole
known_there c nodes seen ids whole i w h is =
    let id = get_or ids i 0 in
    let test = new_for c nodes in
    sym (known_first c nodes whole ∙ sym h ∙ ap (first_new test seen) (drop-cons ids i 0 w ∙ ap (λ k. get_or ids i 0 ∷ drop k ids) (one_more i)) ∙ ap (λ b. cond b (Some id) (first_new test (seen ++ id ∷ []) (drop (i + 1) ids))) is)

-- nothing is left
pub known_nowhere : (c : ℤ) (nodes : List Live) (seen ids whole : List ℕ) (i : ℕ) → length ids ≤ i → first_new (new_for c nodes) seen (drop i ids) ≡ first_new (new_for c nodes) [] whole
    → None ≡ first_known (known_ids (rows_under c nodes)) whole
known_nowhere c nodes seen ids whole i w h = sym (known_first c nodes whole ∙ sym h ∙ ap (first_new (new_for c nodes) seen) (drop_all i ids w))

turned : (a b : Bool) → a ≡ not b → not a ≡ b
turned true false h = refl
turned false true h = refl
turned true true h = absurd (cc h)
turned false false h = absurd (cc h)

pub some_placed : {X : Type 0} (p : X → Bool) (xs : List X) → is_some (position p xs) ≡ list_any p xs
some_placed p xs = by (position p xs) (none_placed p xs)
  where
    by : (o : Option ℕ) → is_none o ≡ not (list_any p xs) → is_some o ≡ list_any p xs
    by None h = turned true (list_any p xs) h
    by (Some i) h = turned false (list_any p xs) h
