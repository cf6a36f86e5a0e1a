-- Writing under one number after another.
use Rattle.std.proofs.Common.{◌≡◌, ℕ, ◌+◌, ◌<◌, ◌≤◌, Bool, true, false, cond, not, ◌&&◌, ◌||◌, List, [], ◌∷◌, ◌++◌, ℤ, refl, sym, ap, ◌∙◌, length, get_or, filter, take, nat_eq, Option, Some, None, arith}
use Rattle.std.proofs.lemmas.Int.{ints}
use Rattle.std.proofs.lemmas.Map.Entries.{lookup-filter-keys}
use Rattle.std.specs.Prelude.{slice_get}
use Rattle.std.specs.List.{list_all}
use Rattle.std.specs.Ordering.{int_eq}
use Rattle.std.proofs.lemmas.Bool.{eqb-true, eq-eqb, true≢false}
use Rattle.std.proofs.lemmas.List.{take_more, take_all}
use Rattle.std.proofs.lemmas.List.Folds.{list_all-append}
use Rattle.std.proofs.lemmas.Option.{slice_get-get_or}
use Rattle.gd_variant.specs.Words.{has_nat}
use Rattle.headless_tree.specs.Numbers.{Paths, path_under, KeepsOthers}
use Rattle.headless_tree.proofs.Numbered.{both, and_true, or_false, neither, none_at, all_with}

and_false : (a b : Bool) → b ≡ false → (a && b) ≡ false
and_false true b h = h
and_false false b h = refl

-- fewer numbers
fewer : (a b c : Bool) → (b ≡ false → c ≡ false) → (a && b) ≡ false → (a && c) ≡ false
fewer true b c h k = h k
fewer false b c h k = refl

pub others_more : (auth : ℤ) (some all : List ℕ) (old mid new : Paths) → ((id : ℕ) → has_nat id all ≡ false → has_nat id some ≡ false) → KeepsOthers auth all old mid → KeepsOthers auth some mid new → KeepsOthers auth all old new
others_more auth some all old mid new within first then = λ a id h. then a id (fewer (int_eq auth a) (has_nat id all) (has_nat id some) (within id) h) ∙ first a id h

-- of one number, as a map's key
pub other_key : (x : Bool) (k id : ℕ) → (x && has_nat k (id ∷ [])) ≡ false → (x && nat_eq id k) ≡ false
other_key false k id h = refl
other_key true k id h = by (nat_eq id k) refl
  where
    by : (b : Bool) → nat_eq id k ≡ b → b ≡ false
    by true e = absurd (true≢false (sym (eq-eqb id id refl) ∙ (neither (nat_eq id id) false (ap (λ n. nat_eq n id || false) (eqb-true id k e) ∙ h)).0))
    by false e = refl

-- what a write under one number makes of a test of all
all_after : (t : Option (List ℕ) → Bool) (auth : ℤ) (id : ℕ) (old new : Paths) → t (path_under new auth id) ≡ true → KeepsOthers auth (id ∷ []) old new → (ks : List ℕ) → list_all (λ k. t (path_under old auth k)) ks ≡ true → list_all (λ k. t (path_under new auth k)) ks ≡ true
all_after t auth id old new here others ks =
    all_with (λ k. t (path_under old auth k)) (λ k. t (path_under new auth k)) ks (λ k has is. by k is (nat_eq k id) refl)
  where
    by : (k : ℕ) → t (path_under old auth k) ≡ true → (b : Bool) → nat_eq k id ≡ b → t (path_under new auth k) ≡ true
    by k is true e = ap (λ n. t (path_under new auth n)) (eqb-true k id e) ∙ here
    by k is false e = ap t (others auth k (and_false (int_eq auth auth) (nat_eq k id || false) (or_false (nat_eq k id) false e refl))) ∙ is

-- the first ids are written, beside the node's own number
pub record IsWritten (t : Option (List ℕ) → Bool) (auth : ℤ) (num : ℕ) (ids : List ℕ) (at : ℕ) (old now : Paths) : Type 0 where
  pub done : list_all (λ k. t (path_under now auth k)) (num ∷ take at ids) ≡ true
  pub others : KeepsOthers auth (num ∷ ids) old now

own_number : (num : ℕ) (ids : List ℕ) (id : ℕ) → has_nat id (num ∷ ids) ≡ false → has_nat id (num ∷ []) ≡ false
own_number num ids id h = or_false (nat_eq id num) false (neither (nat_eq id num) (has_nat id ids) h).0 refl

pub written_starts : (t : Option (List ℕ) → Bool) (auth : ℤ) (num : ℕ) (ids : List ℕ) (old now : Paths) → t (path_under now auth num) ≡ true → KeepsOthers auth (num ∷ []) old now → IsWritten t auth num ids 0 old now
written_starts t auth num ids old now here others = record {
  done = and_true (t (path_under now auth num)) true here refl;
  others = λ a id h. others a id (fewer (int_eq auth a) (has_nat id (num ∷ ids)) (has_nat id (num ∷ [])) (own_number num ids id) h);
}

one_of : (num : ℕ) (ids : List ℕ) (at id : ℕ) → slice_get ids at ≡ Some id → (k : ℕ) → has_nat k (num ∷ ids) ≡ false → has_nat k (id ∷ []) ≡ false
one_of num ids at id here k h = or_false (nat_eq k id) false (none_at (nat_eq k) ids at id here (neither (nat_eq k num) (has_nat k ids) h).1) refl

pub others_then : (t : Option (List ℕ) → Bool) (auth : ℤ) (num : ℕ) (ids : List ℕ) (at id : ℕ) (old now new : Paths) → at < length ids → id ≡ get_or ids at id → IsWritten t auth num ids at old now → KeepsOthers auth (id ∷ []) now new → KeepsOthers auth (num ∷ ids) old new
others_then t auth num ids at id old now new low is w others =
    others_more auth (id ∷ []) (num ∷ ids) old now new (one_of num ids at id (slice_get-get_or ids at id low ∙ ap Some (sym is))) w.others others

pub written_more : (t : Option (List ℕ) → Bool) (auth : ℤ) (num : ℕ) (ids : List ℕ) (at id : ℕ) (old now new : Paths) → at < length ids → id ≡ get_or ids at id → IsWritten t auth num ids at old now → t (path_under new auth id) ≡ true → KeepsOthers auth (id ∷ []) now new → IsWritten t auth num ids (at + 1) old new
written_more t auth num ids at id old now new low is w here others = record {
  done =
      let before = all_after t auth id now new here others (num ∷ take at ids) w.done in
      ap (list_all (λ k. t (path_under new auth k))) (ap (λ ks. num ∷ ks) (take_more ids at id low ∙ ap (λ x. take at ids ++ x ∷ []) (sym is)))
      ∙ list_all-append (λ k. t (path_under new auth k)) (num ∷ take at ids) (id ∷ [])
      ∙ and_true (list_all (λ k. t (path_under new auth k)) (num ∷ take at ids)) (t (path_under new auth id) && true) before (and_true (t (path_under new auth id)) true here refl);
  others = others_then t auth num ids at id old now new low is w others;
}

pub written_all : (t : Option (List ℕ) → Bool) (auth : ℤ) (num : ℕ) (ids : List ℕ) (at : ℕ) (old now : Paths) → length ids ≤ at → IsWritten t auth num ids at old now → list_all (λ k. t (path_under now auth k)) (num ∷ ids) ≡ true
written_all t auth num ids at old now past w = ap (λ ks. list_all (λ k. t (path_under now auth k)) (num ∷ ks)) (sym (take_all at ids past)) ∙ w.done

-- what stands at a place, whatever the default
pub at_place : (ids : List ℕ) (at : ℕ) → at < length ids → get_or ids at 0 ≡ get_or ids at (get_or ids at 0)
at_place ids at low = by (sym (slice_get-get_or ids at 0 low) ∙ slice_get-get_or ids at (get_or ids at 0) low)
  where
    by : {x y : ℕ} → Some x ≡ Some y → x ≡ y
    by e = cc

-- of a spawned node

pub spawned_others : (b : Bool) (auth : ℤ) (all : List ℕ) (old new : Paths) → b ≡ true → KeepsOthers auth all old new → KeepsOthers auth (cond b all []) old new
spawned_others true auth all old new e h = h
spawned_others false auth all old new e h = absurd (cc e)

pub spawned_all : (p : ℕ → Bool) (b : Bool) (all : List ℕ) → b ≡ true → list_all p all ≡ true → list_all p (cond b all []) ≡ true
spawned_all p true all e h = h
spawned_all p false all e h = absurd (cc e)

pub fixed_all : (p : ℕ → Bool) (b : Bool) (all : List ℕ) → b ≡ false → list_all p (cond b all []) ≡ true
fixed_all p true all e = absurd (cc e)
fixed_all p false all e = refl

-- without the numbers of an authority

not_theirs : (x : Bool) (a auth k : ℤ) → int_eq auth a ≡ false → (int_eq a k && x) ≡ true → not (int_eq k auth) ≡ true
not_theirs true a auth k h e = grind (arith, ints)
not_theirs false a auth k h e = absurd (cc ((both (int_eq a k) false e).1))

theirs : (x : Bool) (auth k : ℤ) → (int_eq auth k && x) ≡ true → not (int_eq k auth) ≡ false
theirs true auth k e = grind (arith, ints)
theirs false auth k e = absurd (cc ((both (int_eq auth k) false e).1))

pub none_under : (auth : ℤ) (id : ℕ) (ps : Paths) → path_under (filter (λ e. not (int_eq e.0.0 auth)) ps) auth id ≡ None
none_under auth id ps = lookup-filter-keys (λ (key : ℤ × ℕ). int_eq auth key.0 && nat_eq id key.1) (λ (key : ℤ × ℕ). not (int_eq key.0 auth)) false (λ key e. theirs (nat_eq id key.1) auth key.0 e) ps

pub others_under : (auth a : ℤ) (id : ℕ) (ps : Paths) → int_eq auth a ≡ false → path_under (filter (λ e. not (int_eq e.0.0 auth)) ps) a id ≡ path_under ps a id
others_under auth a id ps h = lookup-filter-keys (λ (key : ℤ × ℕ). int_eq a key.0 && nat_eq id key.1) (λ (key : ℤ × ℕ). not (int_eq key.0 auth)) true (λ key e. not_theirs (nat_eq id key.1) a auth key.0 h e) ps
