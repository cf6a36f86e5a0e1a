-- What is told to one peer of one synchronizer leaves what was told to others and of others, and each has one entry at most.
use Rattle.std.proofs.Common.{◌≡◌, ℕ, ℤ, Bool, true, false, cond, not, ◌&&◌, List, [], ◌∷◌, ◌++◌, refl, sym, ap, ap₂, ◌∙◌, subst, nat_eq, Option, Some, None}
use Rattle.std.specs.Prelude.{position, if◌then◌else◌}
use Rattle.std.specs.Cmp.{IsEquivalence}
use Rattle.std.specs.List.{list_any, IsDistinct}
use Rattle.std.specs.Map.{keys_of, IsKeyTest}
use Rattle.std.specs.Ordering.{int_eq}
use Rattle.std.proofs.lemmas.Bool.{and_parts, and_from, eqb-true, eq-eqb, true≢false}
use Rattle.std.proofs.lemmas.Map.Keys.{IsDistinct-push}
use Rattle.std.proofs.lemmas.Map.Made.{IsDistinct-keys_filter}
use Rattle.indexmap.proofs.SetLemmas.{keys_insert_entry}
use Rattle.indexmap.proofs.MapLemmas.{Found-position, swap_remove_entry-found, swap_remove_entry-missing}
use Rattle.indexmap.proofs.RemoveLemmas.{swap_out}
use Rattle.std.proofs.lemmas.Option.{slice_get-get_or}
use Rattle.peer_laws.proofs.Numbers.{int_is, int_same, int_comm}
use Rattle.gd_variant.specs.declared.value.Variant.{Variant}
use Rattle.delta_props.specs.Telling.{ToldValues, is_key, told_of, with_told, without_sync, without_peer}
use Rattle.telling_laws.specs.Telling.{same_key, HasOnce}

-- keys

pub key_is : (b : ℤ) (id : ℕ) (k : ℤ × ℕ) → is_key b id k ≡ true → (b, id) ≡ k
key_is b id k h =
    let parts = and_parts (int_eq b k.0) (nat_eq id k.1) h in
    ap₂ (λ c i. (c, i)) (int_is b k.0 parts.0) (eqb-true id k.1 parts.1)

key_same : (b : ℤ) (id : ℕ) → is_key b id (b, id) ≡ true
key_same b id = and_from (int_eq b b) (nat_eq id id) (int_same b) (eq-eqb id id refl)

key_comm : (x y : ℤ × ℕ) → same_key x y ≡ same_key y x
key_comm x y = ap₂ (λ p q. p && q) (int_comm x.0 y.0) (num (nat_eq x.1 y.1) refl)
  where
    num : (t : Bool) → nat_eq x.1 y.1 ≡ t → nat_eq x.1 y.1 ≡ nat_eq y.1 x.1
    num true e = e ∙ sym (eq-eqb y.1 x.1 (sym (eqb-true x.1 y.1 e)))
    num false e = back (nat_eq y.1 x.1) refl
      where
        back : (u : Bool) → nat_eq y.1 x.1 ≡ u → nat_eq x.1 y.1 ≡ nat_eq y.1 x.1
        back true f = absurd (true≢false (sym (eq-eqb x.1 y.1 (sym (eqb-true y.1 x.1 f))) ∙ e))
        back false f = e ∙ sym f

keys_equal : IsEquivalence same_key
keys_equal = record {
  refl = λ x. key_same x.0 x.1;
  symm = key_comm;
  congr = λ x y z h. ap (λ k. same_key k z) (key_is x.0 x.1 y h);
}

key_test : (b : ℤ) (id : ℕ) → IsKeyTest same_key (is_key b id)
key_test b id x y h = ap (λ k. same_key k y) (key_is b id x h)

-- values that are put

pub told_same : (b : ℤ) (id : ℕ) (vs : List Variant) (t : ToldValues) → told_of b id (with_told b id vs t) ≡ Some vs
told_same b id vs [] = ap (λ c. cond c (Some vs) None) (key_same b id)
told_same b id vs (e ∷ es) = step (is_key b id e.0) refl (told_same b id vs es)
  where
    step : (c : Bool) → is_key b id e.0 ≡ c → told_of b id (with_told b id vs es) ≡ Some vs → told_of b id (if c then (e.0, vs) ∷ es else e ∷ with_told b id vs es) ≡ Some vs
    step true h more = ap (λ c. cond c (Some vs) (told_of b id es)) h
    step false h more = ap (λ c. cond c (Some e.1) (told_of b id (with_told b id vs es))) h ∙ more

pub told_other : (b c : ℤ) (id i : ℕ) (vs : List Variant) (t : ToldValues) → is_key b id (c, i) ≡ false → told_of b id (with_told c i vs t) ≡ told_of b id t
told_other b c id i vs [] h = ap (λ k. cond k (Some vs) None) h
told_other b c id i vs (e ∷ es) h = step (is_key c i e.0) refl (told_other b c id i vs es h)
  where
    step : (k : Bool) → is_key c i e.0 ≡ k → told_of b id (with_told c i vs es) ≡ told_of b id es → told_of b id (if k then (e.0, vs) ∷ es else e ∷ with_told c i vs es) ≡ told_of b id (e ∷ es)
    step true same more = let no = ap (is_key b id) (sym (key_is c i e.0 same)) ∙ h in ap (λ k. cond k (Some vs) (told_of b id es)) no ∙ sym (ap (λ k. cond k (Some e.1) (told_of b id es)) no)
    step false same more = ap (cond (is_key b id e.0) (Some e.1)) more

pub told_once : (b : ℤ) (id : ℕ) (vs : List Variant) (t : ToldValues) → HasOnce t → HasOnce (with_told b id vs t)
told_once b id vs t h = subst (IsDistinct same_key) (sym (keys_insert_entry same_key t (b, id) vs)) (step (list_any (same_key (b, id)) (keys_of t)) refl)
  where
    step : (c : Bool) → list_any (same_key (b, id)) (keys_of t) ≡ c → IsDistinct same_key (if c then keys_of t else keys_of t ++ (b, id) ∷ [])
    step true e = h
    step false e = IsDistinct-push keys_equal (keys_of t) (b, id) h e

-- synchronizers that go

-- what a removal leaves of the others, and of the keys
gone_by : (c : ℤ) (i : ℕ) (t : ToldValues) → HasOnce t → (o : Option ℕ) → position (is_key c i) (keys_of t) ≡ o
    → ((b : ℤ) (id : ℕ) → is_key c i (b, id) ≡ false → told_of b id (without_sync c i t) ≡ told_of b id t) × HasOnce (without_sync c i t)
gone_by c i t h None at = let same = swap_remove_entry-missing (is_key c i) t at in (λ b id k. ap (told_of b id) same, subst HasOnce (sym same) h)
gone_by c i [] h (Some j) at = absurd (cc at)
gone_by c i (e ∷ es) h (Some j) at =
    let there = slice_get-get_or (e ∷ es) j e (Found-position (is_key c i) (e ∷ es) j at).within in
    let out = swap_out same_key keys_equal (is_key c i) (key_test c i) (e ∷ es) j _ at there h (without_sync c i (e ∷ es)) (swap_remove_entry-found (is_key c i) (e ∷ es) j _ at) in
    (λ b id k. out.updated.2 (b, id) k, out.unique)

pub gone_other : (b c : ℤ) (id i : ℕ) (t : ToldValues) → HasOnce t → is_key b id (c, i) ≡ false → told_of b id (without_sync c i t) ≡ told_of b id t
gone_other b c id i t h k = (gone_by c i t h (position (is_key c i) (keys_of t)) refl).0 b id (key_comm (c, i) (b, id) ∙ k)

pub gone_once : (c : ℤ) (i : ℕ) (t : ToldValues) → HasOnce t → HasOnce (without_sync c i t)
gone_once c i t h = (gone_by c i t h (position (is_key c i) (keys_of t)) refl).1

-- peers that go

pub left_other : (b c : ℤ) (id : ℕ) (t : ToldValues) → int_eq b c ≡ false → told_of b id (without_peer c t) ≡ told_of b id t
left_other b c id [] h = refl
left_other b c id (e ∷ es) h = step (int_eq e.0.0 c) refl (left_other b c id es h)
  where
    step : (k : Bool) → int_eq e.0.0 c ≡ k → told_of b id (without_peer c es) ≡ told_of b id es → told_of b id (cond (not k) (e ∷ without_peer c es) (without_peer c es)) ≡ told_of b id (e ∷ es)
    step true same more =
        let no : is_key b id e.0 ≡ false = ap (λ p. p && nat_eq id e.0.1) (ap (int_eq b) (int_is e.0.0 c same) ∙ h) in
        more ∙ sym (ap (λ k. cond k (Some e.1) (told_of b id es)) no)
    step false other more = ap (cond (is_key b id e.0) (Some e.1)) more

pub left_once : (c : ℤ) (t : ToldValues) → HasOnce t → HasOnce (without_peer c t)
left_once c t h = IsDistinct-keys_filter same_key (λ e. not (int_eq e.0.0 c)) t h
