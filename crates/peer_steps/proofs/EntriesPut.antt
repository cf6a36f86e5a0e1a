-- The nodes with received values: each entry changes the one node that its synchronizer serves.
use Rattle.std.proofs.Common.{◌≡◌, ℕ, zero, suc, ℤ, Bool, true, false, cond, List, [], ◌∷◌, ◌++◌, refl, sym, ap, ap₂, ◌∙◌, map, Option, Some, None}
use Rattle.std.specs.Prelude.{flat_map, if◌then◌else◌, slice_get, zip}
use Rattle.std.specs.List.{slice_set}
use Rattle.std.specs.Option.{option_map_or}
use Rattle.std.specs.Ordering.{int_eq}
use Rattle.std.proofs.lemmas.Bool.{and_parts, or_parts, true≢false}
use Rattle.gd_variant.specs.Words.{has_text, text_eq}
use Rattle.gd_variant.specs.declared.value.Variant.{Variant}
use Rattle.gd_variant.specs.declared.message.DeltaEntry.{DeltaEntry}
use Rattle.scene_model.specs.declared.scene.Scene.{Scene}
use Rattle.scene_model.specs.declared.scene.Prop.{Prop}
use Rattle.scene_model.specs.Lookup.{prop_names}
use Rattle.scene_model.specs.Syncs.{Syncer, change_props}
use Rattle.scene_model.specs.Valid.{has_twice}
use Rattle.scene_model.proofs.TextLaws.{text_eq-same, text_eq-sym}
use Rattle.peer_model.specs.Updates.{Live, assign, assign_all, live_syncers, masked, tell_node}
use Rattle.headless_tree.specs.Lists.{change_first}
use Rattle.headless_tree.specs.Nodes.{is_row_of, is_spawned, with_value}
use Rattle.peer_laws.specs.Facts.{paths_of, rows_under}
use Rattle.peer_laws.proofs.Once.{change_once}
use Rattle.peer_laws.proofs.TreeTells.{told_node}
use Rattle.world_laws.proofs.Properties.{assign_names}
use Rattle.delta_props.specs.Taking.{put_prop, put_props}

-- one element in the place of another

set_same : {X : Type 0} (xs : List X) (i : ℕ) (x : X) → slice_get xs i ≡ Some x → slice_set xs i x ≡ xs
set_same [] i x h = absurd (cc h)
set_same (y ∷ ys) zero x h = let e : y ≡ x = cc in ap (λ z. z ∷ ys) (sym e)
set_same (y ∷ ys) (suc i) x h = ap (λ zs. y ∷ zs) (set_same ys i x h)

get_set : {X : Type 0} (xs : List X) (i : ℕ) (x y : X) → slice_get xs i ≡ Some x → slice_get (slice_set xs i y) i ≡ Some y
get_set [] i x y h = absurd (cc h)
get_set (z ∷ zs) zero x y h = refl
get_set (z ∷ zs) (suc i) x y h = get_set zs i x y h

set_twice : {X : Type 0} (xs : List X) (i : ℕ) (x y : X) → slice_set (slice_set xs i x) i y ≡ slice_set xs i y
set_twice [] i x y = refl
set_twice (z ∷ zs) zero x y = refl
set_twice (z ∷ zs) (suc i) x y = ap (λ ws. z ∷ ws) (set_twice zs i x y)

-- assignments at a place

assigns_once : (name : List ℕ) (v : Variant) (props : List Prop) → has_twice (prop_names props) ≡ false → change_first (λ (p : Prop). text_eq p.name name) (with_value v) props ≡ assign name v props
assigns_once name v props h = change_once (λ (p : Prop). p.name) name (with_value v) props h

put_one : (place : ℕ) (name : List ℕ) (v : Variant) (nodes : List Live) (n : Live) → slice_get nodes place ≡ Some n → has_twice (prop_names n.values) ≡ false → put_prop place name v nodes ≡ slice_set nodes place (record n { values = assign name v n.values })
put_one place name v nodes n at apart =
    ap (λ o. option_map_or (λ (m : Live). slice_set nodes place (record m { values = change_first (λ (p : Prop). text_eq p.name name) (with_value v) m.values })) o nodes) at
    ∙ ap (λ vs. slice_set nodes place (record n { values = vs })) (assigns_once name v n.values apart)

pub put_all : (place : ℕ) (sets : List (List ℕ × Variant)) (nodes : List Live) (n : Live) → slice_get nodes place ≡ Some n → has_twice (prop_names n.values) ≡ false → put_props place sets nodes ≡ slice_set nodes place (record n { values = assign_all sets n.values })
put_all place [] nodes n at apart = sym (set_same nodes place n at)
put_all place (a ∷ sets) nodes n at apart =
    let m : Live = record n { values = assign a.0 a.1 n.values } in
    ap (put_props place sets) (put_one place a.0 a.1 nodes n at apart)
    ∙ put_all place sets (slice_set nodes place m) m (get_set nodes place n m at) (ap has_twice (assign_names a.0 a.1 n.values) ∙ apart)
    ∙ set_twice nodes place m (record m { values = assign_all sets m.values })

-- a Tell among nodes whose paths differ

-- a node at another path is left
left_alone : (c : ℤ) (y : Syncer) (t : DeltaEntry) (m : Live) → text_eq m.path y.node ≡ false → told_node c (Some y) t m ≡ m
left_alone c y t m h = step (int_eq m.auth c)
  where
    step : (b : Bool) → cond b (record m { values = if text_eq m.path y.node then assign_all (zip (masked t.mask (change_props y.def)) t.values) m.values else m.values }) m ≡ m
    step true = ap (λ b. record m { values = if b then assign_all (zip (masked t.mask (change_props y.def)) t.values) m.values else m.values }) h
    step false = refl

all_left : (c : ℤ) (y : Syncer) (t : DeltaEntry) (ms : List Live) → has_text y.node (paths_of ms) ≡ false → map (told_node c (Some y) t) ms ≡ ms
all_left c y t [] h = refl
all_left c y t (m ∷ ms) h =
    let parts = or_parts (text_eq y.node m.path) (has_text y.node (paths_of ms)) h in
    ap₂ (λ x xs. x ∷ xs) (left_alone c y t m (text_eq-sym m.path y.node ∙ parts.0)) (all_left c y t ms parts.1)

-- the node that it serves is changed
pub told_at_place : (c : ℤ) (y : Syncer) (t : DeltaEntry) (place : ℕ) (nodes : List Live) (n : Live) → has_twice (paths_of nodes) ≡ false → slice_get nodes place ≡ Some n → int_eq n.auth c ≡ true → y.node ≡ n.path
    → slice_set nodes place (record n { values = assign_all (zip (masked t.mask (change_props y.def)) t.values) n.values }) ≡ map (told_node c (Some y) t) nodes
told_at_place c y t place [] n apart at own serves = absurd (cc at)
told_at_place c y t zero (m ∷ ms) n apart at own serves =
    let same : m ≡ n = cc in
    let parts = or_parts (has_text m.path (paths_of ms)) (has_twice (paths_of ms)) apart in
    ap₂ (λ x xs. x ∷ xs) (sym (ap (told_node c (Some y) t) same ∙ changed)) (sym (all_left c y t ms (ap (λ p. has_text p (paths_of ms)) (serves ∙ ap (λ (z : Live). z.path) (sym same)) ∙ parts.0)))
  where
    changed : told_node c (Some y) t n ≡ record n { values = assign_all (zip (masked t.mask (change_props y.def)) t.values) n.values }
    changed =
        ap (λ b. cond b (tell_node (Some y) t n) n) own
        ∙ ap (λ b. record n { values = if b then assign_all (zip (masked t.mask (change_props y.def)) t.values) n.values else n.values }) (ap (text_eq n.path) serves ∙ text_eq-same n.path)
told_at_place c y t (suc place) (m ∷ ms) n apart at own serves =
    let parts = or_parts (has_text m.path (paths_of ms)) (has_twice (paths_of ms)) apart in
    ap₂ (λ x xs. x ∷ xs) (sym (left_alone c y t m (ap (text_eq m.path) serves ∙ unlike ms place at parts.0))) (told_at_place c y t place ms n parts.1 at own serves)
  where
    unlike : (ns : List Live) (k : ℕ) → slice_get ns k ≡ Some n → has_text m.path (paths_of ns) ≡ false → text_eq m.path n.path ≡ false
    unlike [] k f l = absurd (cc f)
    unlike (z ∷ ns) zero f l = let same : z ≡ n = cc in ap (λ (w : Live). text_eq m.path w.path) (sym same) ∙ (or_parts (text_eq m.path z.path) (has_text m.path (paths_of ns)) l).0
    unlike (z ∷ ns) (suc k) f l = unlike ns k f (or_parts (text_eq m.path z.path) (has_text m.path (paths_of ns)) l).1

-- rows after a Tell

tell_is_row : (c : ℤ) (o : Option Syncer) (t : DeltaEntry) (n : Live) → is_row_of c (tell_node o t n) ≡ is_row_of c n
tell_is_row c None t n = refl
tell_is_row c (Some y) t n = refl

pub rows_told : (c : ℤ) (o : Option Syncer) (t : DeltaEntry) (nodes : List Live) → rows_under c (map (told_node c o t) nodes) ≡ map (tell_node o t) (rows_under c nodes)
rows_told c o t [] = refl
rows_told c o t (n ∷ ns) = step (int_eq n.auth c) refl (is_row_of c n) refl (rows_told c o t ns)
  where
    step : (b : Bool) → int_eq n.auth c ≡ b → (r : Bool) → is_row_of c n ≡ r → rows_under c (map (told_node c o t) ns) ≡ map (tell_node o t) (rows_under c ns)
        → cond (is_row_of c (cond (int_eq n.auth c) (tell_node o t n) n)) (cond (int_eq n.auth c) (tell_node o t n) n ∷ rows_under c (map (told_node c o t) ns)) (rows_under c (map (told_node c o t) ns)) ≡ map (tell_node o t) (cond (is_row_of c n) (n ∷ rows_under c ns) (rows_under c ns))
    step true e true f more =
        ap (λ b. cond (is_row_of c (cond b (tell_node o t n) n)) (cond b (tell_node o t n) n ∷ rows_under c (map (told_node c o t) ns)) (rows_under c (map (told_node c o t) ns))) e
        ∙ ap (λ b. cond b (tell_node o t n ∷ rows_under c (map (told_node c o t) ns)) (rows_under c (map (told_node c o t) ns))) (tell_is_row c o t n ∙ f)
        ∙ ap (λ rs. tell_node o t n ∷ rs) more ∙ sym (ap (λ b. map (tell_node o t) (cond b (n ∷ rows_under c ns) (rows_under c ns))) f)
    step true e false f more =
        ap (λ b. cond (is_row_of c (cond b (tell_node o t n) n)) (cond b (tell_node o t n) n ∷ rows_under c (map (told_node c o t) ns)) (rows_under c (map (told_node c o t) ns))) e
        ∙ ap (λ b. cond b (tell_node o t n ∷ rows_under c (map (told_node c o t) ns)) (rows_under c (map (told_node c o t) ns))) (tell_is_row c o t n ∙ f)
        ∙ more ∙ sym (ap (λ b. map (tell_node o t) (cond b (n ∷ rows_under c ns) (rows_under c ns))) f)
    step false e true f more = absurd (true≢false (sym (and_parts (is_spawned n) (int_eq n.auth c) f).1 ∙ e))
    step false e false f more =
        ap (λ b. cond (is_row_of c (cond b (tell_node o t n) n)) (cond b (tell_node o t n) n ∷ rows_under c (map (told_node c o t) ns)) (rows_under c (map (told_node c o t) ns))) e
        ∙ ap (λ b. cond b (n ∷ rows_under c (map (told_node c o t) ns)) (rows_under c (map (told_node c o t) ns))) f
        ∙ more ∙ sym (ap (λ b. map (tell_node o t) (cond b (n ∷ rows_under c ns) (rows_under c ns))) f)

pub same_syncers : (s : Scene) (o : Option Syncer) (t : DeltaEntry) (rows : List Live) → flat_map (live_syncers s) (map (tell_node o t) rows) ≡ flat_map (live_syncers s) rows
same_syncers s o t [] = refl
same_syncers s o t (n ∷ rows) = ap₂ (λ xs ys. xs ++ ys) (one o) (same_syncers s o t rows)
  where
    one : (p : Option Syncer) → live_syncers s (tell_node p t n) ≡ live_syncers s n
    one None = refl
    one (Some y) = refl
