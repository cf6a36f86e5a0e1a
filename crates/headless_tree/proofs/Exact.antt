-- The table of numbers holds no others than those of the nodes.
use Rattle.std.proofs.Common.{◌≡◌, ℕ, zero, suc, Bool, true, false, cond, not, ◌&&◌, ◌||◌, List, [], ◌∷◌, ℤ, refl, sym, ap, subst, ◌∙◌, map, filter, Option, Some, None, arith}
use Rattle.std.specs.Prelude.{slice_get, insert, remove, is_none}
use Rattle.std.specs.List.{list_all, list_any}
use Rattle.std.specs.Ordering.{int_eq}
use Rattle.std.proofs.lemmas.Int.{ints}
use Rattle.gd_variant.specs.Words.{has_nat}
use Rattle.scene_model.specs.Nodes.{Live}
use Rattle.headless_tree.specs.Nodes.{is_spawned, is_row_of, without_rows}
use Rattle.headless_tree.specs.Numbers.{Paths, path_under, numbers_of, has_number, is_new, KeepsOthers, HasNoneUnder, KeepsOtherAuthorities, HasNoOthers}
use Rattle.headless_tree.proofs.Numbered.{both, neither, or_false, unnot, all_has, bare}

is_no : {X : Type 0} (o : Option X) → is_none o ≡ true → o ≡ None
is_no None h = refl
is_no (Some x) h = absurd (cc h)

same_int : (a b : ℤ) → int_eq a b ≡ true → a ≡ b
same_int a b h = grind (arith, ints)

-- a new table holds none
pub only_new : (ps : Paths) (ns : List Live) → ps ≡ [] → HasNoOthers ps ns
only_new ps ns e = λ auth id fresh. ap (λ (qs : Paths). path_under qs auth id) e

-- values alone
number_bare : (auth : ℤ) (id : ℕ) (ns : List Live) → list_any (has_number auth id) (map bare ns) ≡ list_any (has_number auth id) ns
number_bare auth id [] = refl
number_bare auth id (n ∷ ns) = ap (λ b. has_number auth id n || b) (number_bare auth id ns)

pub only_same : (ps : Paths) (ms ns : List Live) → map bare ms ≡ map bare ns → HasNoOthers ps ns → HasNoOthers ps ms
only_same ps ms ns same h = λ auth id fresh.
    h auth id (ap not (sym (number_bare auth id ns) ∙ ap (list_any (has_number auth id)) (sym same) ∙ number_bare auth id ms) ∙ fresh)

-- a number that a node hasn't isn't among its own
not_its : (s e : Bool) (id : ℕ) (ks : List ℕ) → ((s && e) && has_nat id ks) ≡ false → (e && has_nat id (cond s ks [])) ≡ false
not_its true e id ks h = h
not_its false true id ks h = refl
not_its false false id ks h = refl

hasnt : (s e : Bool) (id : ℕ) (ks : List ℕ) → (e && has_nat id (cond s ks [])) ≡ false → ((s && e) && has_nat id ks) ≡ false
hasnt true e id ks h = h
hasnt false e id ks h = refl

none_inserted : {X : Type 0} (p : X → Bool) (xs : List X) (i : ℕ) (x : X) → list_any p (insert xs i x) ≡ false → (p x ≡ false) × (list_any p xs ≡ false)
none_inserted p xs zero x h = neither (p x) (list_any p xs) h
none_inserted p [] (suc i) x h = neither (p x) false h
none_inserted p (y ∷ ys) (suc i) x h =
    let parts = neither (p y) (list_any p (insert ys i x)) h in
    let more = none_inserted p ys i x parts.1 in
    (more.0, or_false (p y) (list_any p ys) parts.0 more.1)

-- a node more
pub only_more : (x : Live) (ns : List Live) (i : ℕ) (old new : Paths) → KeepsOthers x.auth (numbers_of x) old new → HasNoOthers old ns → HasNoOthers new (insert ns i x)
only_more x ns i old new others h = λ auth id fresh.
    let parts = none_inserted (has_number auth id) ns i x (unnot (list_any (has_number auth id) (insert ns i x)) fresh) in
    others auth id (not_its (is_spawned x) (int_eq x.auth auth) id (x.num ∷ x.ids) parts.0) ∙ h auth id (ap not parts.1)

-- under a number that was taken away, no path stands
gone_there : (x : Live) (new : Paths) → list_all (λ id. is_none (path_under new x.auth id)) (numbers_of x) ≡ true → (auth : ℤ) (id : ℕ) → (int_eq x.auth auth && has_nat id (numbers_of x)) ≡ true → path_under new auth id ≡ None
gone_there x new gone auth id h =
    let parts = both (int_eq x.auth auth) (has_nat id (numbers_of x)) h in
    subst (λ a. path_under new a id ≡ None) (same_int x.auth auth parts.0) (is_no (path_under new x.auth id) (all_has (λ k. is_none (path_under new x.auth k)) (numbers_of x) id gone parts.1))

-- a node that couldn't be added
pub only_undone : (x : Live) (ns : List Live) (old new : Paths) → KeepsOthers x.auth (numbers_of x) old new → list_all (λ id. is_none (path_under new x.auth id)) (numbers_of x) ≡ true → HasNoOthers old ns → HasNoOthers new ns
only_undone x ns old new others gone h = λ auth id fresh. by auth id fresh (int_eq x.auth auth && has_nat id (numbers_of x)) refl
  where
    by : (auth : ℤ) (id : ℕ) → is_new auth ns id ≡ true → (b : Bool) → (int_eq x.auth auth && has_nat id (numbers_of x)) ≡ b → path_under new auth id ≡ None
    by auth id fresh true e = gone_there x new gone auth id e
    by auth id fresh false e = others auth id e ∙ h auth id fresh

pub others_twice : (auth : ℤ) (ids : List ℕ) (old mid new : Paths) → KeepsOthers auth ids old mid → KeepsOthers auth ids mid new → KeepsOthers auth ids old new
others_twice auth ids old mid new first then = λ a id h. then a id h ∙ first a id h

none_removed : {X : Type 0} (p : X → Bool) (xs : List X) (i : ℕ) (x : X) → slice_get xs i ≡ Some x → p x ≡ false → list_any p (remove xs i) ≡ false → list_any p xs ≡ false
none_removed p [] zero x here e h = refl
none_removed p [] (suc i) x here e h = refl
none_removed {X} p (y ∷ ys) zero x here e h = or_false (p y) (list_any p ys) (ap p (same y x here) ∙ e) h
  where
    same : (a b : X) → Some a ≡ Some b → a ≡ b
    same a b k = cc
none_removed p (y ∷ ys) (suc i) x here e h =
    let parts = neither (p y) (list_any p (remove ys i)) h in
    or_false (p y) (list_any p ys) parts.0 (none_removed p ys i x here e parts.1)

-- a node less
pub only_less : (ns : List Live) (i : ℕ) (x : Live) (old new : Paths) → KeepsOthers x.auth (numbers_of x) old new → list_all (λ id. is_none (path_under new x.auth id)) (numbers_of x) ≡ true → slice_get ns i ≡ Some x → HasNoOthers old ns → HasNoOthers new (remove ns i)
only_less ns i x old new others gone here h = λ auth id fresh. by auth id fresh (int_eq x.auth auth && has_nat id (numbers_of x)) refl
  where
    by : (auth : ℤ) (id : ℕ) → is_new auth (remove ns i) id ≡ true → (b : Bool) → (int_eq x.auth auth && has_nat id (numbers_of x)) ≡ b → path_under new auth id ≡ None
    by auth id fresh true e = gone_there x new gone auth id e
    by auth id fresh false e =
        let lacks = hasnt (is_spawned x) (int_eq x.auth auth) id (x.num ∷ x.ids) e in
        others auth id e ∙ h auth id (ap not (none_removed (has_number auth id) ns i x here lacks (unnot (list_any (has_number auth id) (remove ns i)) fresh)))

-- the rows of an authority gone
not_both : (s r : Bool) (gone auth a : ℤ) → int_eq gone auth ≡ false → (s && int_eq a gone) ≡ true → ((s && int_eq a auth) && r) ≡ false
not_both false r gone auth a h e = refl
not_both true true gone auth a h e = grind (arith, ints)
not_both true false gone auth a h e = by (int_eq a auth)
  where
    by : (b : Bool) → (b && false) ≡ false
    by true = refl
    by false = refl

number_among : (gone auth : ℤ) (id : ℕ) → int_eq gone auth ≡ false → (ns : List Live) → list_any (has_number auth id) (without_rows gone ns) ≡ list_any (has_number auth id) ns
number_among gone auth id h [] = refl
number_among gone auth id h (n ∷ ns) = step (is_row_of gone n) refl (number_among gone auth id h ns)
  where
    step : (b : Bool) → is_row_of gone n ≡ b → list_any (has_number auth id) (without_rows gone ns) ≡ list_any (has_number auth id) ns → list_any (has_number auth id) (cond (not b) (n ∷ without_rows gone ns) (without_rows gone ns)) ≡ (has_number auth id n || list_any (has_number auth id) ns)
    step true e more = more ∙ sym (ap (λ b. b || list_any (has_number auth id) ns) (not_both (is_spawned n) (has_nat id (n.num ∷ n.ids)) gone auth n.auth h e))
    step false e more = ap (λ b. has_number auth id n || b) more

pub only_others : (gone : ℤ) (ns : List Live) (old new : Paths) → HasNoneUnder gone new → KeepsOtherAuthorities gone old new → HasNoOthers old ns → HasNoOthers new (without_rows gone ns)
only_others gone ns old new none others h = λ auth id fresh. by auth id fresh (int_eq gone auth) refl
  where
    by : (auth : ℤ) (id : ℕ) → is_new auth (without_rows gone ns) id ≡ true → (b : Bool) → int_eq gone auth ≡ b → path_under new auth id ≡ None
    by auth id fresh true e = subst (λ a. path_under new a id ≡ None) (same_int gone auth e) (none id)
    by auth id fresh false e = others auth id e ∙ h auth id (ap not (sym (number_among gone auth id e ns)) ∙ fresh)
