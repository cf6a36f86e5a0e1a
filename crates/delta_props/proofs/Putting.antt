-- The values of an entry are assigned one after the other.
use Rattle.std.proofs.Common.{◌≡◌, ℕ, zero, suc, ◌+◌, ◌/◌, ◌%◌, ◌<◌, Bool, true, false, List, [], ◌∷◌, refl, sym, ap, ap₂, subst, ◌∙◌, length, drop, nat_eq, Option, Some, None, arith}
use Rattle.std.specs.Prelude.{slice_get, zip, remove, if◌then◌else◌}
use Rattle.std.specs.List.{list_all, cons_option}
use Rattle.std.proofs.lemmas.Bool.{true≢false}
use Rattle.gd_variant.specs.Words.{some_is}
use Rattle.gd_variant.specs.declared.value.Variant.{Variant}
use Rattle.scene_model.specs.declared.scene.SyncProp.{SyncProp}
use Rattle.scene_model.specs.Syncs.{is_on_change}
use Rattle.scene_model.specs.Nodes.{Live}
use Rattle.peer_model.specs.Updates.{masked}
use Rattle.peer_model.specs.View.{fits}
use Rattle.headless_tree.specs.Nodes.{TreeOf}
use Rattle.headless_tree.proofs.Numbered.{both}
use Rattle.delta_props.specs.Telling.{changes_in}
use Rattle.delta_props.specs.Taking.{put_props, put_where}
use Rattle.delta_props.proofs.Masks.{on_first, off_first}

drop_next : {X : Type 0} (xs : List X) (j : ℕ) → drop j xs ≡ cons_option (slice_get xs j) (drop (suc j) xs)
drop_next [] zero = refl
drop_next [] (suc j) = refl
drop_next (x ∷ xs) zero = refl
drop_next (x ∷ xs) (suc j) = drop_next xs j

plus_one : (j : ℕ) → suc j ≡ j + 1
plus_one j = omega arith

next_changes : (props : List SyncProp) (j : ℕ) → changes_in (drop j props) ≡ changes_in (cons_option (slice_get props j) (drop (j + 1) props))
next_changes props j = ap changes_in (drop_next props j ∙ ap (λ k. cons_option (slice_get props j) (drop k props)) (plus_one j))

abbrev pub on_change : SyncProp → Bool
on_change p = is_on_change p.mode

off_next : (props : List SyncProp) (j : ℕ) (o : Option SyncProp) → slice_get props j ≡ o → some_is on_change o ≡ false → changes_in (drop j props) ≡ changes_in (drop (j + 1) props)
off_next props j None e h = next_changes props j ∙ ap (λ o. changes_in (cons_option o (drop (j + 1) props))) e
off_next props j (Some p) e h = next_changes props j ∙ ap (λ o. changes_in (cons_option o (drop (j + 1) props))) e ∙ off_first p (drop (j + 1) props) h

-- a synchronizer's property at a place that is told when it changes
record Next (props : List SyncProp) (j : ℕ) : Type 0 where
  pub prop : SyncProp
  pub there : slice_get props j ≡ Some prop
  pub left : changes_in (drop j props) ≡ prop.prop ∷ changes_in (drop (j + 1) props)

on_next : (props : List SyncProp) (j : ℕ) (o : Option SyncProp) → slice_get props j ≡ o → some_is on_change o ≡ true → Next props j
on_next props j None e h = absurd (true≢false (sym h))
on_next props j (Some p) e h = record { prop = p; there = e; left = next_changes props j ∙ ap (λ o. changes_in (cons_option o (drop (j + 1) props))) e ∙ on_first p (drop (j + 1) props) h }

-- some values were assigned; what is left of them goes to the properties from a place on, by what is left of the mask
pub record IsPutting (old : TreeOf) (place mask : ℕ) (props : List SyncProp) (all : List Variant) (now : TreeOf) (j rest : ℕ) (values : List Variant) : Type 0 where
  pub many : length values ≡ length (masked rest (changes_in (drop j props)))
  pub short : list_all fits values ≡ true
  pub scene : now.scene ≡ old.scene
  pub nodes : put_props place (zip (masked rest (changes_in (drop j props))) values) now.nodes ≡ put_props place (zip (masked mask (changes_in props)) all) old.nodes

-- with equal parts it is the same
pub putting_same : (old : TreeOf) (place mask : ℕ) (props : List SyncProp) (all : List Variant) (now : TreeOf) (j rest : ℕ) (values : List Variant) → IsPutting old place mask props all now j rest values
    → (later : TreeOf) (left : ℕ) (others : List Variant) → later ≡ now → left ≡ rest → others ≡ values → IsPutting old place mask props all later j left others
putting_same old place mask props all now j rest values p later left others tree number list =
    subst (λ t. IsPutting old place mask props all t j left others) (sym tree)
    (subst (λ n. IsPutting old place mask props all now j n others) (sym number) (subst (IsPutting old place mask props all now j rest) (sym list) p))

pub putting_off : (old : TreeOf) (place mask : ℕ) (props : List SyncProp) (all : List Variant) (now : TreeOf) (j rest : ℕ) (values : List Variant) → IsPutting old place mask props all now j rest values
    → some_is on_change (slice_get props j) ≡ false → IsPutting old place mask props all now (j + 1) rest values
putting_off old place mask props all now j rest values p off =
    let same = off_next props j (slice_get props j) refl off in
    record {
      many = p.many ∙ ap (λ ps. length (masked rest ps)) same;
      short = p.short;
      scene = p.scene;
      nodes = sym (ap (λ ps. put_props place (zip (masked rest ps) values) now.nodes) same) ∙ p.nodes;
    }

bit_set : {X : Type 0} (rest : ℕ) (x : X) (xs : List X) → nat_eq (rest % 2) 1 ≡ true → masked rest (x ∷ xs) ≡ x ∷ masked (rest / 2) xs
bit_set rest x xs h = ap (λ b. if b then x ∷ masked (rest / 2) xs else masked (rest / 2) xs) h

bit_clear : {X : Type 0} (rest : ℕ) (x : X) (xs : List X) → nat_eq (rest % 2) 1 ≡ false → masked rest (x ∷ xs) ≡ masked (rest / 2) xs
bit_clear rest x xs h = ap (λ b. if b then x ∷ masked (rest / 2) xs else masked (rest / 2) xs) h

pub putting_skip : (old : TreeOf) (place mask : ℕ) (props : List SyncProp) (all : List Variant) (now : TreeOf) (j rest : ℕ) (values : List Variant) → IsPutting old place mask props all now j rest values
    → some_is on_change (slice_get props j) ≡ true → nat_eq (rest % 2) 1 ≡ false → IsPutting old place mask props all now (j + 1) (rest / 2) values
putting_skip old place mask props all now j rest values p on clear =
    let next = on_next props j (slice_get props j) refl on in
    let same : masked rest (changes_in (drop j props)) ≡ masked (rest / 2) (changes_in (drop (j + 1) props)) = ap (masked rest) next.left ∙ bit_clear rest next.prop.prop (changes_in (drop (j + 1) props)) clear in
    record {
      many = p.many ∙ ap length same;
      short = p.short;
      scene = p.scene;
      nodes = sym (ap (λ ps. put_props place (zip ps values) now.nodes) same) ∙ p.nodes;
    }

-- there is a value for a property in the mask
pub putting_some : (old : TreeOf) (place mask : ℕ) (props : List SyncProp) (all : List Variant) (now : TreeOf) (j rest : ℕ) (values : List Variant) → IsPutting old place mask props all now j rest values
    → some_is on_change (slice_get props j) ≡ true → nat_eq (rest % 2) 1 ≡ true → 0 < length values
putting_some old place mask props all now j rest values p on set =
    let next = on_next props j (slice_get props j) refl on in
    let same : masked rest (changes_in (drop j props)) ≡ next.prop.prop ∷ masked (rest / 2) (changes_in (drop (j + 1) props)) = ap (masked rest) next.left ∙ bit_set rest next.prop.prop (changes_in (drop (j + 1) props)) set in
    omega (arith, p.many, ap length same)

first_value : (values : List Variant) (v : Variant) → slice_get values 0 ≡ Some v → values ≡ v ∷ remove values 0
first_value [] v h = absurd (let none : None ≡ Some v = h in cc none)
first_value (w ∷ ws) v h = let here : Some w ≡ Some v = h in ap (λ x. x ∷ ws) (cc here)

pub putting_on : (old : TreeOf) (place mask : ℕ) (props : List SyncProp) (all : List Variant) (now : TreeOf) (j rest : ℕ) (values : List Variant) (v : Variant) → IsPutting old place mask props all now j rest values
    → some_is on_change (slice_get props j) ≡ true → nat_eq (rest % 2) 1 ≡ true → slice_get values 0 ≡ Some v
    → IsPutting old place mask props all (record now { nodes = put_where place (slice_get props j) v now.nodes }) (j + 1) (rest / 2) (remove values 0)
putting_on old place mask props all now j rest values v p on set first =
    let next = on_next props j (slice_get props j) refl on in
    let left = masked (rest / 2) (changes_in (drop (j + 1) props)) in
    let same : masked rest (changes_in (drop j props)) ≡ next.prop.prop ∷ left = ap (masked rest) next.left ∙ bit_set rest next.prop.prop (changes_in (drop (j + 1) props)) set in
    let is = first_value values v first in
    record {
      many = omega (arith, ap length is, p.many, ap length same);
      short = (both (fits v) (list_all fits (remove values 0)) (sym (ap (list_all fits) is) ∙ p.short)).1;
      scene = p.scene;
      nodes = ap (λ o. put_props place (zip left (remove values 0)) (put_where place o v now.nodes)) next.there
          ∙ sym (ap₂ (λ ps vs. put_props place (zip ps vs) now.nodes) same is) ∙ p.nodes;
    }

-- the first value is short
pub putting_short : (old : TreeOf) (place mask : ℕ) (props : List SyncProp) (all : List Variant) (now : TreeOf) (j rest : ℕ) (values : List Variant) (v : Variant) → IsPutting old place mask props all now j rest values
    → slice_get values 0 ≡ Some v → fits v ≡ true
putting_short old place mask props all now j rest values v p first = (both (fits v) (list_all fits (remove values 0)) (sym (ap (list_all fits) (first_value values v first)) ∙ p.short)).0

-- at the end all are assigned
pub putting_done : (old : TreeOf) (place mask : ℕ) (props : List SyncProp) (all : List Variant) (now : TreeOf) (j rest : ℕ) (values : List Variant) → IsPutting old place mask props all now j rest values
    → drop j props ≡ [] → ◌≡◌ {A = TreeOf} now (record old { nodes = put_props place (zip (masked mask (changes_in props)) all) old.nodes })
putting_done old place mask props all now j rest values p none =
    ap₂ {C = TreeOf} (λ s (ns : List Live). record { scene = s; nodes = ns }) p.scene (sym (ap (λ ps. put_props place (zip (masked rest (changes_in ps)) values) now.nodes) none) ∙ p.nodes)
