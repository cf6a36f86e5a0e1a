-- Texts that stand twice.
use Rattle.std.proofs.Common.{map, Option, Some, is_some, ◌≡◌, ℕ, ◌+◌, ◌<◌, Bool, true, false, ◌||◌, List, [], ◌∷◌, ◌++◌, refl, sym, ap, ap₂, ◌∙◌, length, get_or, drop}
use Rattle.std.specs.Prelude.{flat_map}
use Rattle.std.specs.List.{list_any}
use Rattle.std.proofs.lemmas.List.{at_drop_more}
use Rattle.std.proofs.lemmas.List.Folds.{list_any-append}
use Rattle.gd_variant.specs.Words.{has_text, text_eq}
use Rattle.scene_model.specs.declared.scene.SyncDef.{SyncDef}
use Rattle.scene_model.specs.declared.scene.SyncProp.{SyncProp}
use Rattle.scene_model.specs.declared.scene.Method.{Method}
use Rattle.scene_check.specs.Places.{IsNext, method_texts}
use Rattle.scene_model.specs.Valid.{has_twice, synced, shares_prop}
use Rattle.scene_check.proofs.SearchLaws.{next_is_after}
use Rattle.scene_model.proofs.ListLaws.{any-map, any-flat_map, any_ext}

or_assoc : (a b c : Bool) → ((a || b) || c) ≡ (a || (b || c))
or_assoc true b c = refl
or_assoc false b c = refl

pub twice-append : (ts us : List (List ℕ)) → has_twice (ts ++ us) ≡ (has_twice ts || (list_any (λ t. has_text t us) ts || has_twice us))
twice-append [] us = refl
twice-append (t ∷ ts) us =
    ap₂ (λ a b. a || b) (list_any-append (text_eq t) ts us) (twice-append ts us)
    ∙ mix (has_text t ts) (has_text t us) (has_twice ts) (list_any (λ u. has_text u us) ts) (has_twice us)
  where
    mix : (a b c d e : Bool) → ((a || b) || (c || (d || e))) ≡ ((a || c) || ((b || d) || e))
    mix true b c d e = refl
    mix false true true d e = refl
    mix false true false d e = refl
    mix false false c d e = sym (or_assoc c d e) ∙ or_assoc c d e

-- a search for some pair, either way round
pub any_swap : {X Y : Type 0} (r : X → Y → Bool) (xs : List X) (ys : List Y) → list_any (λ x. list_any (r x) ys) xs ≡ list_any (λ y. list_any (λ x. r x y) xs) ys
any_swap {X} {Y} r [] ys = sym (any_never ys)
  where
    any_never : (zs : List Y) → list_any (λ (y : Y). false) zs ≡ false
    any_never [] = refl
    any_never (z ∷ zs) = any_never zs
any_swap r (x ∷ xs) ys = ap (λ b. list_any (r x) ys || b) (any_swap r xs ys) ∙ sym (any_or (r x) (λ y. list_any (λ z. r z y) xs) ys)
  where
    swap_or : (a b c d : Bool) → ((a || b) || (c || d)) ≡ ((a || c) || (b || d))
    swap_or true b c d = refl
    swap_or false true true d = refl
    swap_or false true false d = refl
    swap_or false false c d = refl

    any_or : {Z : Type 0} (p q : Z → Bool) (zs : List Z) → list_any (λ z. p z || q z) zs ≡ (list_any p zs || list_any q zs)
    any_or p q [] = refl
    any_or p q (z ∷ zs) = ap (λ b. (p z || q z) || b) (any_or p q zs) ∙ swap_or (p z) (q z) (list_any p zs) (list_any q zs)

-- a synchronizer shares a property with some others where it does with one of them
pub shares_flat : (d : SyncDef) (es : List SyncDef) → list_any (λ t. has_text t (flat_map synced es)) (synced d) ≡ list_any (shares_prop d) es
shares_flat d es =
    any-map (λ t. has_text t (flat_map synced es)) (λ (p : SyncProp). p.prop) d.props
    ∙ any_ext (λ (p : SyncProp). has_text p.prop (flat_map synced es)) (λ (p : SyncProp). list_any (λ (e : SyncDef). has_text p.prop (synced e)) es) (λ p. any-flat_map (text_eq p.prop) synced es) d.props
    ∙ any_swap (λ (p : SyncProp) (e : SyncDef). has_text p.prop (synced e)) d.props es

pub syncs_step : (ds : List SyncDef) (i : ℕ) (d : SyncDef) → i < length ds → d ≡ get_or ds i d → has_twice (flat_map synced (drop i ds)) ≡ (has_twice (synced d) || (list_any (shares_prop d) (drop (i + 1) ds) || has_twice (flat_map synced (drop (i + 1) ds))))
syncs_step ds i d w is =
    at_drop_more (λ (es : List SyncDef). has_twice (flat_map synced es)) ds i d w
    ∙ ap (λ (e : SyncDef). has_twice (synced e ++ flat_map synced (drop (i + 1) ds))) (sym is)
    ∙ twice-append (synced d) (flat_map synced (drop (i + 1) ds))
    ∙ ap (λ b. has_twice (synced d) || (b || has_twice (flat_map synced (drop (i + 1) ds)))) (shares_flat d (drop (i + 1) ds))

-- the whole answer, by the first synchronizer that is left and the others
pub syncs_left : (ds : List SyncDef) (i : ℕ) (d : SyncDef) (whole : Bool) → i < length ds → d ≡ get_or ds i d → has_twice (flat_map synced (drop i ds)) ≡ whole
    → whole ≡ (has_twice (synced d) || (list_any (shares_prop d) (drop (i + 1) ds) || has_twice (flat_map synced (drop (i + 1) ds))))
syncs_left ds i d whole w is so_far = sym so_far ∙ syncs_step ds i d w is

-- the names of the rest of a list of methods, one method on

pub name_later : (ms : List Method) (t : List ℕ) (from : ℕ) (o : Option ℕ) → IsNext t from (method_texts ms) o → has_text t (map (λ (m : Method). m.name) (drop from ms)) ≡ is_some o
name_later ms t from o h = any-map (text_eq t) (λ (m : Method). m.name) (drop from ms) ∙ next_is_after (λ (m : Method). Some m.name) ms t from o h

pub names_left : (ms : List Method) (i : ℕ) (m : Method) (whole : Bool) (o : Option ℕ) → i < length ms → m ≡ get_or ms i m → has_twice (map (λ (n : Method). n.name) (drop i ms)) ≡ whole → IsNext m.name (i + 1) (method_texts ms) o
    → whole ≡ (is_some o || has_twice (map (λ (n : Method). n.name) (drop (i + 1) ms)))
names_left ms i m whole o w is so_far next =
    sym so_far ∙ at_drop_more (λ (xs : List Method). has_twice (map (λ (n : Method). n.name) xs)) ms i m w
    ∙ ap (λ (n : Method). has_text n.name (map (λ (k : Method). k.name) (drop (i + 1) ms)) || has_twice (map (λ (k : Method). k.name) (drop (i + 1) ms))) (sym is)
    ∙ ap (λ b. b || has_twice (map (λ (n : Method). n.name) (drop (i + 1) ms))) (name_later ms m.name (i + 1) o next)

-- an answer by its parts

pub first_true : (a b whole : Bool) → whole ≡ (a || b) → a ≡ true → true ≡ whole
first_true a b whole e t = sym (e ∙ ap (λ c. c || b) t)

pub second_left : (a b whole : Bool) → whole ≡ (a || b) → a ≡ false → b ≡ whole
second_left a b whole e f = sym (e ∙ ap (λ c. c || b) f)

pub second_true : (a b c whole : Bool) → whole ≡ (a || (b || c)) → a ≡ false → b ≡ true → true ≡ whole
second_true a b c whole e f t = sym (e ∙ ap₂ (λ x y. x || (y || c)) f t)

pub third_left : (a b c whole : Bool) → whole ≡ (a || (b || c)) → a ≡ false → b ≡ false → c ≡ whole
third_left a b c whole e f g = sym (e ∙ ap₂ (λ x y. x || (y || c)) f g)
