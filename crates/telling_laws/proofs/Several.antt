-- What is told to one peer of several synchronizers, and what goes of several.
use Rattle.std.proofs.Common.{◌≡◌, ℕ, ℤ, Bool, true, false, ◌&&◌, ◌||◌, List, [], ◌∷◌, refl, ap, ◌∙◌, nat_eq, Some}
use Rattle.std.specs.List.{list_any, AllByRecursion}
use Rattle.std.specs.Ordering.{int_eq}
use Rattle.gd_variant.specs.declared.value.Variant.{Variant}
use Rattle.scene_model.specs.Syncs.{Syncer}
use Rattle.delta_props.specs.Telling.{ToldValues, is_key, told_of, with_told, without_sync}
use Rattle.telling_laws.specs.Telling.{told_all, told_none, HasOnce}
use Rattle.telling_laws.proofs.Keys.{told_same, told_other, told_once, gone_other, gone_once}

-- keys of other peers, and of other synchronizers
pub other_peer : (b c : ℤ) (id i : ℕ) → int_eq b c ≡ false → is_key b id (c, i) ≡ false
other_peer b c id i h = ap (λ t. t && nat_eq id i) h

and_false : (a : Bool) → (a && false) ≡ false
and_false true = refl
and_false false = refl

pub other_sync : (b c : ℤ) (id i : ℕ) → nat_eq id i ≡ false → is_key b id (c, i) ≡ false
other_sync b c id i h = ap (λ t. int_eq b c && t) h ∙ and_false (int_eq b c)

-- synchronizers that are told

pub all_once : (b : ℤ) (f : Syncer → List Variant) (ys : List Syncer) (t : ToldValues) → HasOnce t → HasOnce (told_all b f ys t)
all_once b f [] t h = h
all_once b f (y ∷ ys) t h = all_once b f ys (with_told b y.id (f y) t) (told_once b y.id (f y) t h)

pub all_other : (b c : ℤ) (id : ℕ) (f : Syncer → List Variant) (ys : List Syncer) (t : ToldValues) → AllByRecursion (λ (z : Syncer). is_key b id (c, z.id) ≡ false) ys → told_of b id (told_all c f ys t) ≡ told_of b id t
all_other b c id f [] t h = refl
all_other b c id f (z ∷ zs) t h = all_other b c id f zs (with_told c z.id (f z) t) h.1 ∙ told_other b c id z.id (f z) t h.0

pub all_other_peer : (b c : ℤ) (id : ℕ) (f : Syncer → List Variant) (ys : List Syncer) (t : ToldValues) → int_eq b c ≡ false → told_of b id (told_all c f ys t) ≡ told_of b id t
all_other_peer b c id f [] t h = refl
all_other_peer b c id f (z ∷ zs) t h = all_other_peer b c id f zs (with_told c z.id (f z) t) h ∙ told_other b c id z.id (f z) t (other_peer b c id z.id h)

-- whether each synchronizer with an id is this one
abbrev pub IsOnly : Syncer → Syncer → Type 0
IsOnly y z = nat_eq y.id z.id ≡ true → z ≡ y

all_kept : (b : ℤ) (f : Syncer → List Variant) (y : Syncer) (ys : List Syncer) (t : ToldValues) → AllByRecursion (IsOnly y) ys → told_of b y.id t ≡ Some (f y) → told_of b y.id (told_all b f ys t) ≡ Some (f y)
all_kept b f y [] t only h = h
all_kept b f y (z ∷ zs) t only h = all_kept b f y zs (with_told b z.id (f z) t) only.1 (step (nat_eq y.id z.id) refl)
  where
    step : (c : Bool) → nat_eq y.id z.id ≡ c → told_of b y.id (with_told b z.id (f z) t) ≡ Some (f y)
    step true e = ap (λ x. told_of b y.id (with_told b x.id (f x) t)) (only.0 e) ∙ told_same b y.id (f y) t
    step false e = told_other b b y.id z.id (f z) t (other_sync b b y.id z.id e) ∙ h

-- a synchronizer among them has its values
pub all_told : (b : ℤ) (f : Syncer → List Variant) (y : Syncer) (ys : List Syncer) (t : ToldValues) → AllByRecursion (IsOnly y) ys → list_any (λ (z : Syncer). nat_eq y.id z.id) ys ≡ true → told_of b y.id (told_all b f ys t) ≡ Some (f y)
all_told b f y [] t only h = absurd (cc h)
all_told b f y (z ∷ zs) t only h = step (nat_eq y.id z.id) refl h (λ k. all_told b f y zs (with_told b z.id (f z) t) only.1 k)
  where
    step : (c : Bool) → nat_eq y.id z.id ≡ c → (c || list_any (λ (x : Syncer). nat_eq y.id x.id) zs) ≡ true → (list_any (λ (x : Syncer). nat_eq y.id x.id) zs ≡ true → told_of b y.id (told_all b f zs (with_told b z.id (f z) t)) ≡ Some (f y)) → told_of b y.id (told_all b f zs (with_told b z.id (f z) t)) ≡ Some (f y)
    step true e k more = all_kept b f y zs (with_told b z.id (f z) t) only.1 (ap (λ x. told_of b y.id (with_told b x.id (f x) t)) (only.0 e) ∙ told_same b y.id (f y) t)
    step false e k more = more k

-- synchronizers that go

pub none_once : (b : ℤ) (ids : List ℕ) (t : ToldValues) → HasOnce t → HasOnce (told_none b ids t)
none_once b [] t h = h
none_once b (i ∷ ids) t h = none_once b ids (without_sync b i t) (gone_once b i t h)

pub none_other : (b c : ℤ) (id : ℕ) (ids : List ℕ) (t : ToldValues) → HasOnce t → AllByRecursion (λ i. is_key b id (c, i) ≡ false) ids → told_of b id (told_none c ids t) ≡ told_of b id t
none_other b c id [] t h k = refl
none_other b c id (i ∷ ids) t h k = none_other b c id ids (without_sync c i t) (gone_once c i t h) k.1 ∙ gone_other b c id i t h k.0

pub none_other_peer : (b c : ℤ) (id : ℕ) (ids : List ℕ) (t : ToldValues) → HasOnce t → int_eq b c ≡ false → told_of b id (told_none c ids t) ≡ told_of b id t
none_other_peer b c id [] t h k = refl
none_other_peer b c id (i ∷ ids) t h k = none_other_peer b c id ids (without_sync c i t) (gone_once c i t h) k ∙ gone_other b c id i t h (other_peer b c id i k)
