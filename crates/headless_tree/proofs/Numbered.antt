-- Paths once and numbers once: what stays so when a node comes or goes, and where a number leads.
use Rattle.std.proofs.Common.{◌≡◌, ℕ, zero, suc, ◌+◌, ◌⊎◌, inl, inr, Bool, true, false, cond, not, ◌&&◌, ◌||◌, List, [], ◌∷◌, ℤ, refl, sym, ap, ap₂, ◌∙◌, length, map, nat_eq, nat_lt, Option, Some, None, is_some}
use Rattle.std.specs.Prelude.{find, position, slice_get, insert, remove, is_none}
use Rattle.std.specs.List.{position_or_len, list_any, list_all}
use Rattle.std.specs.Ordering.{int_eq}
use Rattle.std.proofs.lemmas.Bool.{eqb-true, eq-eqb, true≢false}
use Rattle.std.proofs.lemmas.Bool.Decides.{Decides-int_eq}
use Rattle.gd_variant.specs.Words.{text_eq, has_nat, some_is}
use Rattle.scene_model.specs.declared.scene.Node.{Node}
use Rattle.scene_model.proofs.TextLaws.{text_eq-true, text_eq-same, text_eq-sym}
use Rattle.scene_model.proofs.ListLaws.{found_is_any}
use Rattle.scene_model.specs.Nodes.{Live, fixed_live}
use Rattle.headless_tree.specs.Nodes.{is_at, is_spawned, is_row_of}
use Rattle.headless_tree.specs.Numbers.{Paths, path_under, numbers_of, has_number, has_its_path, is_numbered, has_paths_once, are_free, KeepsOthers}
use Rattle.headless_tree.proofs.Places.{found_at, not_found, found_within, get_some}

-- tests joined

pub both : (a b : Bool) → (a && b) ≡ true → (a ≡ true) × (b ≡ true)
both true true h = (refl, refl)
both true false h = absurd (cc h)
both false b h = absurd (cc h)

pub and_true : (a b : Bool) → a ≡ true → b ≡ true → (a && b) ≡ true
and_true true b p q = q
and_true false b p q = absurd (cc p)

pub neither : (a b : Bool) → (a || b) ≡ false → (a ≡ false) × (b ≡ false)
neither false false h = (refl, refl)
neither false true h = absurd (cc h)
neither true b h = absurd (cc h)

pub or_false : (a b : Bool) → a ≡ false → b ≡ false → (a || b) ≡ false
or_false false b p q = q
or_false true b p q = absurd (cc p)

pub unnot : (a : Bool) → not a ≡ true → a ≡ false
unnot true h = absurd (cc h)
unnot false h = refl

some_same : {X : Type 0} (x y : X) → Some x ≡ Some y → x ≡ y
some_same x y e = cc

-- lists with an element more or less

pub all_insert : {X : Type 0} (p : X → Bool) (xs : List X) (i : ℕ) (x : X) → p x ≡ true → list_all p xs ≡ true → list_all p (insert xs i x) ≡ true
all_insert p xs zero x h k = and_true (p x) (list_all p xs) h k
all_insert p [] (suc i) x h k = and_true (p x) true h refl
all_insert p (y ∷ ys) (suc i) x h k = and_true (p y) (list_all p (insert ys i x)) (both (p y) (list_all p ys) k).0 (all_insert p ys i x h (both (p y) (list_all p ys) k).1)

none_insert : {X : Type 0} (p : X → Bool) (xs : List X) (i : ℕ) (x : X) → p x ≡ false → list_any p xs ≡ false → list_any p (insert xs i x) ≡ false
none_insert p xs zero x h k = or_false (p x) (list_any p xs) h k
none_insert p [] (suc i) x h k = or_false (p x) false h refl
none_insert p (y ∷ ys) (suc i) x h k = or_false (p y) (list_any p (insert ys i x)) (neither (p y) (list_any p ys) k).0 (none_insert p ys i x h (neither (p y) (list_any p ys) k).1)

pub all_remove : {X : Type 0} (p : X → Bool) (xs : List X) (i : ℕ) → list_all p xs ≡ true → list_all p (remove xs i) ≡ true
all_remove p [] zero h = refl
all_remove p [] (suc i) h = refl
all_remove p (x ∷ xs) zero h = (both (p x) (list_all p xs) h).1
all_remove p (x ∷ xs) (suc i) h = and_true (p x) (list_all p (remove xs i)) (both (p x) (list_all p xs) h).0 (all_remove p xs i (both (p x) (list_all p xs) h).1)

none_remove : {X : Type 0} (p : X → Bool) (xs : List X) (i : ℕ) → list_any p xs ≡ false → list_any p (remove xs i) ≡ false
none_remove p [] zero h = refl
none_remove p [] (suc i) h = refl
none_remove p (x ∷ xs) zero h = (neither (p x) (list_any p xs) h).1
none_remove p (x ∷ xs) (suc i) h = or_false (p x) (list_any p (remove xs i)) (neither (p x) (list_any p xs) h).0 (none_remove p xs i (neither (p x) (list_any p xs) h).1)

-- what stands at a place passes what all pass, and fails what all fail
pub all_at : {X : Type 0} (p : X → Bool) (xs : List X) (i : ℕ) (x : X) → slice_get xs i ≡ Some x → list_all p xs ≡ true → p x ≡ true
all_at p [] zero x here h = absurd (cc here)
all_at p [] (suc i) x here h = absurd (cc here)
all_at p (y ∷ ys) zero x here h = ap p (sym (some_same y x here)) ∙ (both (p y) (list_all p ys) h).0
all_at p (y ∷ ys) (suc i) x here h = all_at p ys i x here (both (p y) (list_all p ys) h).1

pub none_at : {X : Type 0} (p : X → Bool) (xs : List X) (i : ℕ) (x : X) → slice_get xs i ≡ Some x → list_any p xs ≡ false → p x ≡ false
none_at p [] zero x here h = absurd (cc here)
none_at p [] (suc i) x here h = absurd (cc here)
none_at p (y ∷ ys) zero x here h = ap p (sym (some_same y x here)) ∙ (neither (p y) (list_any p ys) h).0
none_at p (y ∷ ys) (suc i) x here h = none_at p ys i x here (neither (p y) (list_any p ys) h).1

-- what a search finds passes its test, and fails what all fail
pub find_passes : {X : Type 0} (p : X → Bool) (xs : List X) (x : X) → find p xs ≡ Some x → p x ≡ true
find_passes p [] x h = absurd (cc h)
find_passes {X} p (y ∷ ys) x h = step (p y) refl h (λ k. find_passes p ys x k)
  where
    step : (b : Bool) → p y ≡ b → cond b (Some y) (find p ys) ≡ Some x → (find p ys ≡ Some x → p x ≡ true) → p x ≡ true
    step true e k more = ap p (sym (some_same y x k)) ∙ e
    step false e k more = more k

found_fails : {X : Type 0} (p q : X → Bool) (xs : List X) (x : X) → find p xs ≡ Some x → list_any q xs ≡ false → q x ≡ false
found_fails p q [] x h none = absurd (cc h)
found_fails {X} p q (y ∷ ys) x h none = step (p y) h (λ k. found_fails p q ys x k (neither (q y) (list_any q ys) none).1)
  where
    step : (b : Bool) → cond b (Some y) (find p ys) ≡ Some x → (find p ys ≡ Some x → q x ≡ false) → q x ≡ false
    step true k more = ap q (sym (some_same y x k)) ∙ (neither (q y) (list_any q ys) none).0
    step false k more = more k

-- a search that finds no place
pub none_placed : {X : Type 0} (p : X → Bool) (xs : List X) → is_none (position p xs) ≡ not (list_any p xs)
none_placed {X} p xs = by (position p xs) refl
  where
    by : (o : Option ℕ) → position p xs ≡ o → is_none o ≡ not (list_any p xs)
    by None e = ap not (sym (ap is_some (not_found p xs e)) ∙ found_is_any p xs)
    by (Some i) e = ap not (sym (get_some xs i (found_within p xs i e)) ∙ ap is_some (found_at p xs i e) ∙ found_is_any p xs)

pub none_is : (b : Bool) (o : Option ℕ) → is_some o ≡ not b → b ≡ is_none o
none_is true None h = refl
none_is true (Some i) h = absurd (cc h)
none_is false None h = absurd (cc h)
none_is false (Some i) h = refl

-- numbers in lists of numbers
pub all_has : (p : ℕ → Bool) (ks : List ℕ) (k : ℕ) → list_all p ks ≡ true → has_nat k ks ≡ true → p k ≡ true
all_has p [] k h is = absurd (cc is)
all_has p (x ∷ xs) k h is = step (nat_eq k x) refl is (λ more. all_has p xs k (both (p x) (list_all p xs) h).1 more)
  where
    step : (b : Bool) → nat_eq k x ≡ b → (b || has_nat k xs) ≡ true → (has_nat k xs ≡ true → p k ≡ true) → p k ≡ true
    step true e is more = ap p (eqb-true k x e) ∙ (both (p x) (list_all p xs) h).0
    step false e is more = more is

pub none_has : (p : ℕ → Bool) (ks : List ℕ) (k : ℕ) → list_any p ks ≡ false → has_nat k ks ≡ true → p k ≡ false
none_has p [] k h is = absurd (cc is)
none_has p (x ∷ xs) k h is = step (nat_eq k x) refl is (λ more. none_has p xs k (neither (p x) (list_any p xs) h).1 more)
  where
    step : (b : Bool) → nat_eq k x ≡ b → (b || has_nat k xs) ≡ true → (has_nat k xs ≡ true → p k ≡ false) → p k ≡ false
    step true e is more = ap p (eqb-true k x e) ∙ (neither (p x) (list_any p xs) h).0
    step false e is more = more is

or_right : (a b : Bool) → b ≡ true → (a || b) ≡ true
or_right true b h = refl
or_right false b h = h

same_nat : (k : ℕ) → nat_eq k k ≡ true
same_nat k = eq-eqb k k refl

pub all_with : (p q : ℕ → Bool) (ks : List ℕ) → ((k : ℕ) → has_nat k ks ≡ true → p k ≡ true → q k ≡ true) → list_all p ks ≡ true → list_all q ks ≡ true
all_with p q [] h all = refl
all_with p q (x ∷ xs) h all =
    and_true (q x) (list_all q xs) (h x (ap (λ b. b || has_nat x xs) (same_nat x)) (both (p x) (list_all p xs) all).0)
    (all_with p q xs (λ k is. h k (or_right (nat_eq k x) (has_nat k xs) is)) (both (p x) (list_all p xs) all).1)

-- paths once

pub once_insert : (ns : List Live) (i : ℕ) (n : Live) → list_any (is_at n.path) ns ≡ false → has_paths_once ns ≡ true → has_paths_once (insert ns i n) ≡ true
once_insert ns zero n fresh once = and_true (not (list_any (is_at n.path) ns)) (has_paths_once ns) (ap not fresh) once
once_insert [] (suc i) n fresh once = refl
once_insert (m ∷ ms) (suc i) n fresh once =
    let parts = both (not (list_any (is_at m.path) ms)) (has_paths_once ms) once in
    let none = neither (is_at n.path m) (list_any (is_at n.path) ms) fresh in
    and_true (not (list_any (is_at m.path) (insert ms i n))) (has_paths_once (insert ms i n))
    (ap not (none_insert (is_at m.path) ms i n (text_eq-sym n.path m.path ∙ none.0) (unnot (list_any (is_at m.path) ms) parts.0)))
    (once_insert ms i n none.1 parts.1)

pub once_remove : (ns : List Live) (i : ℕ) → has_paths_once ns ≡ true → has_paths_once (remove ns i) ≡ true
once_remove [] zero once = refl
once_remove [] (suc i) once = refl
once_remove (n ∷ ns) zero once = (both (not (list_any (is_at n.path) ns)) (has_paths_once ns) once).1
once_remove (n ∷ ns) (suc i) once =
    let parts = both (not (list_any (is_at n.path) ns)) (has_paths_once ns) once in
    and_true (not (list_any (is_at n.path) (remove ns i))) (has_paths_once (remove ns i))
    (ap not (none_remove (is_at n.path) ns i (unnot (list_any (is_at n.path) ns) parts.0)))
    (once_remove ns i parts.1)

-- no other node has the path of the one that is taken away
gone_once : (ns : List Live) (i : ℕ) (n : Live) → slice_get ns i ≡ Some n → has_paths_once ns ≡ true → list_any (is_at n.path) (remove ns i) ≡ false
gone_once [] zero n here once = absurd (cc here)
gone_once [] (suc i) n here once = absurd (cc here)
gone_once (m ∷ ms) zero n here once = ap (λ (x : Live). list_any (is_at x.path) ms) (sym (some_same m n here)) ∙ unnot (list_any (is_at m.path) ms) (both (not (list_any (is_at m.path) ms)) (has_paths_once ms) once).0
gone_once (m ∷ ms) (suc i) n here once =
    let parts = both (not (list_any (is_at m.path) ms)) (has_paths_once ms) once in
    or_false (is_at n.path m) (list_any (is_at n.path) (remove ms i))
    (text_eq-sym m.path n.path ∙ none_at (is_at m.path) ms i n here (unnot (list_any (is_at m.path) ms) parts.0))
    (gone_once ms i n here parts.1)

-- the first node that passes a test is the first with its path
same_first : (test : Live → Bool) (ns : List Live) (n : Live) → find test ns ≡ Some n → has_paths_once ns ≡ true → position_or_len test ns ≡ position_or_len (is_at n.path) ns
same_first test [] n h once = absurd (cc h)
same_first test (m ∷ ms) n h once = step (test m) refl h (λ k. same_first test ms n k parts.1)
  where
    parts : (not (list_any (is_at m.path) ms) ≡ true) × (has_paths_once ms ≡ true)
    parts = both (not (list_any (is_at m.path) ms)) (has_paths_once ms) once

    mine : (b : Bool) → is_at n.path m ≡ b → position_or_len (is_at n.path) (m ∷ ms) ≡ cond (not b) (1 + position_or_len (is_at n.path) ms) 0
    mine b e = ap (λ c. cond (not c) (1 + position_or_len (is_at n.path) ms) 0) e

    tested : (b : Bool) → test m ≡ b → position_or_len test (m ∷ ms) ≡ cond (not b) (1 + position_or_len test ms) 0
    tested b e = ap (λ c. cond (not c) (1 + position_or_len test ms) 0) e

    step : (b : Bool) → test m ≡ b → cond b (Some m) (find test ms) ≡ Some n → (find test ms ≡ Some n → position_or_len test ms ≡ position_or_len (is_at n.path) ms) → position_or_len test (m ∷ ms) ≡ position_or_len (is_at n.path) (m ∷ ms)
    step true e k more = tested true e ∙ sym (mine true (ap (λ (x : Live). text_eq m.path x.path) (sym (some_same m n k)) ∙ text_eq-same m.path))
    step false e k more =
        tested false e ∙ ap (λ i. 1 + i) (more k)
        ∙ sym (mine false (text_eq-sym m.path n.path ∙ found_fails test (is_at m.path) ms n k (unnot (list_any (is_at m.path) ms) parts.0)))

-- where a number leads

spawned_has : (b : Bool) (xs : List ℕ) (k : ℕ) → has_nat k (cond b xs []) ≡ true → (b ≡ true) × (has_nat k xs ≡ true)
spawned_has true xs k h = (refl, h)
spawned_has false xs k h = absurd (cc h)

some_text : (t : List ℕ) (o : Option (List ℕ)) → some_is (text_eq t) o ≡ true → o ≡ Some t
some_text t None h = absurd (cc h)
some_text t (Some s) h = ap Some (sym (text_eq-true t s h))

record HasRow (ps : Paths) (ns : List Live) (auth : ℤ) (id : ℕ) : Type 0 where
  place : ℕ
  node : Live
  first : position (has_number auth id) ns ≡ Some place
  at : slice_get ns place ≡ Some node
  passes : has_number auth id node ≡ true
  kept : path_under ps auth id ≡ Some node.path
  leads : position (is_at node.path) ns ≡ Some place

module _ (ps : Paths) (ns : List Live) (auth : ℤ) (id : ℕ) (numbered : is_numbered ps ns ≡ true) (once : has_paths_once ns ≡ true) where
  kept_of : (n : Live) → has_number auth id n ≡ true → has_its_path ps n ≡ true → path_under ps auth id ≡ Some n.path
  kept_of n h known =
      let parts = both (is_row_of auth n) (has_nat id (n.num ∷ n.ids)) h in
      let row = both (is_spawned n) (int_eq n.auth auth) parts.0 in
      let all = ap (λ b. list_all (λ k. some_is (text_eq n.path) (path_under ps n.auth k)) (cond b (n.num ∷ n.ids) [])) (sym row.0) ∙ known in
      ap (λ a. path_under ps a id) (sym ((Decides-int_eq n.auth auth).0 row.1))
      ∙ some_text n.path (path_under ps n.auth id) (all_has (λ k. some_is (text_eq n.path) (path_under ps n.auth k)) (n.num ∷ n.ids) id all parts.1)

  row_or_none : (position (has_number auth id) ns ≡ None) ⊎ HasRow ps ns auth id
  row_or_none = by (position (has_number auth id) ns) refl
    where
      found : (i : ℕ) (n : Live) → position (has_number auth id) ns ≡ Some i → slice_get ns i ≡ Some n → HasRow ps ns auth id
      found i n e here =
          let is = sym (found_at (has_number auth id) ns i e) ∙ here in
          let pass = find_passes (has_number auth id) ns n is in
          record {
            place = i;
            node = n;
            first = e;
            at = here;
            passes = pass;
            kept = kept_of n pass (all_at (has_its_path ps) ns i n here numbered);
            leads = ap (λ k. cond (nat_lt k (length ns)) (Some k) None) (sym (same_first (has_number auth id) ns n is once)) ∙ e;
          }

      at_place : (i : ℕ) (o : Option Live) → position (has_number auth id) ns ≡ Some i → slice_get ns i ≡ o → is_some o ≡ true → HasRow ps ns auth id
      at_place i None e here some = absurd (cc some)
      at_place i (Some n) e here some = found i n e here

      by : (o : Option ℕ) → position (has_number auth id) ns ≡ o → (position (has_number auth id) ns ≡ None) ⊎ HasRow ps ns auth id
      by None e = inl e
      by (Some i) e = inr (at_place i (slice_get ns i) e refl (get_some ns i (found_within (has_number auth id) ns i e)))

  -- no path is kept under the number
  pub no_path : path_under ps auth id ≡ None → position (has_number auth id) ns ≡ None
  no_path none = elim row_or_none [ inl e ↦ e | inr r ↦ absurd (cc (sym none ∙ r.kept)) ]

  -- no node stands at the path that is kept
  pub no_place : (p : List ℕ) → path_under ps auth id ≡ Some p → position (is_at p) ns ≡ None → position (has_number auth id) ns ≡ None
  no_place p kept none = elim row_or_none [ inl e ↦ e | inr r ↦ absurd (cc (sym none ∙ ap (λ t. position (is_at t) ns) (some_same p r.node.path (sym kept ∙ r.kept)) ∙ r.leads)) ]

  -- the node there has another number
  pub other_row : (p : List ℕ) (i : ℕ) (n : Live) → path_under ps auth id ≡ Some p → position (is_at p) ns ≡ Some i → slice_get ns i ≡ Some n → has_number auth id n ≡ false → position (has_number auth id) ns ≡ None
  other_row p i n kept place here fails = elim row_or_none [
    | inl e ↦ e
    | inr r ↦
        let same = some_same i r.place (sym place ∙ ap (λ t. position (is_at t) ns) (some_same p r.node.path (sym kept ∙ r.kept)) ∙ r.leads) in
        absurd (true≢false (sym r.passes ∙ ap (has_number auth id) (some_same r.node n (sym r.at ∙ ap (slice_get ns) (sym same) ∙ here)) ∙ fails))
  ]

  -- the node there has the number
  pub this_row : (p : List ℕ) (i : ℕ) (n : Live) → path_under ps auth id ≡ Some p → position (is_at p) ns ≡ Some i → slice_get ns i ≡ Some n → has_number auth id n ≡ true → position (has_number auth id) ns ≡ Some i
  this_row p i n kept place here passes = elim row_or_none [
    | inl e ↦ absurd (true≢false (sym passes ∙ none_at (has_number auth id) ns i n here (sym (found_is_any (has_number auth id) ns) ∙ ap is_some (not_found (has_number auth id) ns e))))
    | inr r ↦ r.first ∙ sym r.leads ∙ sym (ap (λ t. position (is_at t) ns) (some_same p r.node.path (sym kept ∙ r.kept))) ∙ place
  ]

-- the nodes that are left, and a node more

kept_by : (auth : ℤ) (ids : List ℕ) (old new : Paths) → KeepsOthers auth ids old new → (m : Live) → ((id : ℕ) → has_nat id (numbers_of m) ≡ true → some_is (text_eq m.path) (path_under old m.auth id) ≡ true → (int_eq auth m.auth && has_nat id ids) ≡ false) → has_its_path old m ≡ true → has_its_path new m ≡ true
kept_by auth ids old new others m apart =
    all_with (λ id. some_is (text_eq m.path) (path_under old m.auth id)) (λ id. some_is (text_eq m.path) (path_under new m.auth id)) (numbers_of m)
    (λ id has is. ap (some_is (text_eq m.path)) (others m.auth id (apart id has is)) ∙ is)

not_true : (b : Bool) → (b ≡ true → ⊥) → b ≡ false
not_true true h = absurd (h refl)
not_true false h = refl

pub kept_apart : (n m : Live) (old new : Paths) → KeepsOthers n.auth (numbers_of n) old new → is_at n.path m ≡ false → has_its_path old n ≡ true → has_its_path old m ≡ true → has_its_path new m ≡ true
kept_apart n m old new others apart known =
    kept_by n.auth (numbers_of n) old new others m
    (λ id has is. not_true (int_eq n.auth m.auth && has_nat id (numbers_of n)) (λ h.
    let parts = both (int_eq n.auth m.auth) (has_nat id (numbers_of n)) h in
    let mine = some_text n.path (path_under old n.auth id) (all_has (λ k. some_is (text_eq n.path) (path_under old n.auth k)) (numbers_of n) id known parts.1) in
    let its = ap (λ a. path_under old a id) ((Decides-int_eq n.auth m.auth).0 parts.0) ∙ some_text m.path (path_under old m.auth id) is in
    true≢false (sym (text_eq-same m.path) ∙ ap (text_eq m.path) (some_same m.path n.path (sym its ∙ mine)) ∙ apart)))

pub kept_free : (n m : Live) (old new : Paths) → KeepsOthers n.auth (numbers_of n) old new → list_any (λ id. has_number n.auth id m) (numbers_of n) ≡ false → has_its_path old m ≡ true → has_its_path new m ≡ true
kept_free n m old new others free =
    kept_by n.auth (numbers_of n) old new others m
    (λ id has is. not_true (int_eq n.auth m.auth && has_nat id (numbers_of n)) (λ h.
    let parts = both (int_eq n.auth m.auth) (has_nat id (numbers_of n)) h in
    let mine = spawned_has (is_spawned m) (m.num ∷ m.ids) id has in
    let same = (Decides-int_eq n.auth m.auth).0 parts.0 in
    true≢false (sym (and_true (is_row_of n.auth m) (has_nat id (m.num ∷ m.ids)) (and_true (is_spawned m) (int_eq m.auth n.auth) mine.0 ((Decides-int_eq m.auth n.auth).1 (sym same))) mine.1)
    ∙ none_has (λ k. has_number n.auth k m) (numbers_of n) id free parts.1)))

all_apart : (n : Live) (ms : List Live) (old new : Paths) → KeepsOthers n.auth (numbers_of n) old new → has_its_path old n ≡ true → list_any (is_at n.path) ms ≡ false → is_numbered old ms ≡ true → is_numbered new ms ≡ true
all_apart n [] old new others known none all = refl
all_apart n (m ∷ ms) old new others known none all =
    and_true (has_its_path new m) (is_numbered new ms)
    (kept_apart n m old new others (neither (is_at n.path m) (list_any (is_at n.path) ms) none).0 known (both (has_its_path old m) (is_numbered old ms) all).0)
    (all_apart n ms old new others known (neither (is_at n.path m) (list_any (is_at n.path) ms) none).1 (both (has_its_path old m) (is_numbered old ms) all).1)

-- without the node at a place, once nothing is kept under its numbers
pub numbered_less : (ns : List Live) (i : ℕ) (n : Live) (old new : Paths) → KeepsOthers n.auth (numbers_of n) old new → slice_get ns i ≡ Some n → has_paths_once ns ≡ true → is_numbered old ns ≡ true → is_numbered new (remove ns i) ≡ true
numbered_less ns i n old new others here once all =
    all_apart n (remove ns i) old new others (all_at (has_its_path old) ns i n here all) (gone_once ns i n here once) (all_remove (has_its_path old) ns i all)

none_false : {X : Type 0} (xs : List X) → list_any (λ x. false) xs ≡ false
none_false [] = refl
none_false (x ∷ xs) = none_false xs

none_or : {X : Type 0} (p q : X → Bool) (xs : List X) → list_any p xs ≡ false → list_any q xs ≡ false → list_any (λ x. p x || q x) xs ≡ false
none_or p q [] h k = refl
none_or p q (x ∷ xs) h k =
    or_false (p x || q x) (list_any (λ y. p y || q y) xs)
    (or_false (p x) (q x) (neither (p x) (list_any p xs) h).0 (neither (q x) (list_any q xs) k).0)
    (none_or p q xs (neither (p x) (list_any p xs) h).1 (neither (q x) (list_any q xs) k).1)

all_not : {X : Type 0} (p : X → Bool) (xs : List X) → list_all (λ x. not (p x)) xs ≡ true → list_any p xs ≡ false
all_not p [] h = refl
all_not p (x ∷ xs) h =
    let parts = both (not (p x)) (list_all (λ y. not (p y)) xs) h in
    or_false (p x) (list_any p xs) (unnot (p x) parts.0) (all_not p xs parts.1)

swap_none : {X Y : Type 0} (f : X → Y → Bool) (xs : List X) (ys : List Y) → list_any (λ x. list_any (f x) ys) xs ≡ false → list_any (λ y. list_any (λ x. f x y) xs) ys ≡ false
swap_none f [] ys h = none_false ys
swap_none f (x ∷ xs) ys h =
    let parts = neither (list_any (f x) ys) (list_any (λ z. list_any (f z) ys) xs) h in
    none_or (f x) (λ y. list_any (λ z. f z y) xs) ys parts.0 (swap_none f xs ys parts.1)

all_free : (n : Live) (ms : List Live) (old new : Paths) → KeepsOthers n.auth (numbers_of n) old new → list_any (λ m. list_any (λ id. has_number n.auth id m) (numbers_of n)) ms ≡ false → is_numbered old ms ≡ true → is_numbered new ms ≡ true
all_free n [] old new others free all = refl
all_free n (m ∷ ms) old new others free all =
    let parts = neither (list_any (λ id. has_number n.auth id m) (numbers_of n)) (list_any (λ x. list_any (λ id. has_number n.auth id x) (numbers_of n)) ms) free in
    and_true (has_its_path new m) (is_numbered new ms)
    (kept_free n m old new others parts.0 (both (has_its_path old m) (is_numbered old ms) all).0)
    (all_free n ms old new others parts.1 (both (has_its_path old m) (is_numbered old ms) all).1)

-- beside a node whose numbers no other has
pub numbered_beside : (n : Live) (ns : List Live) (old new : Paths) → are_free n ns ≡ true → KeepsOthers n.auth (numbers_of n) old new → is_numbered old ns ≡ true → is_numbered new ns ≡ true
numbered_beside n ns old new free others all =
    all_free n ns old new others (swap_none (λ id m. has_number n.auth id m) (numbers_of n) ns (all_not (λ id. list_any (has_number n.auth id) ns) (numbers_of n) free)) all

pub fixed_numbered : (ps : Paths) (xs : List Node) → is_numbered ps (map fixed_live xs) ≡ true
fixed_numbered ps [] = refl
fixed_numbered ps (x ∷ xs) = fixed_numbered ps xs

-- values alone

-- a node without its values
abbrev pub bare : Live → Live
bare n = record n { values = [] }

numbered_bare : (ps : Paths) (ns : List Live) → is_numbered ps (map bare ns) ≡ is_numbered ps ns
numbered_bare ps [] = refl
numbered_bare ps (n ∷ ns) = ap (λ b. has_its_path ps n && b) (numbered_bare ps ns)

any_bare : (path : List ℕ) (ns : List Live) → list_any (is_at path) (map bare ns) ≡ list_any (is_at path) ns
any_bare path [] = refl
any_bare path (n ∷ ns) = ap (λ b. is_at path n || b) (any_bare path ns)

once_bare : (ns : List Live) → has_paths_once (map bare ns) ≡ has_paths_once ns
once_bare [] = refl
once_bare (n ∷ ns) = ap₂ (λ a b. not a && b) (any_bare n.path ns) (once_bare ns)

-- nodes that differ in values alone have the same paths and numbers
pub numbered_same : (ps : Paths) (ms ns : List Live) → map bare ms ≡ map bare ns → is_numbered ps ns ≡ true → is_numbered ps ms ≡ true
numbered_same ps ms ns same h = sym (numbered_bare ps ms) ∙ ap (is_numbered ps) same ∙ numbered_bare ps ns ∙ h

pub once_same : (ms ns : List Live) → map bare ms ≡ map bare ns → has_paths_once ns ≡ true → has_paths_once ms ≡ true
once_same ms ns same h = sym (once_bare ms) ∙ ap has_paths_once same ∙ once_bare ns ∙ h
