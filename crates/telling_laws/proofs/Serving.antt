-- Each synchronizer of a peer is found in its tree by its path and place, and the node that it serves has the present values.
use Rattle.std.proofs.Common.{◌≡◌, ℕ, zero, suc, ◌+◌, ℤ, Bool, true, false, cond, not, ◌&&◌, List, [], ◌∷◌, refl, sym, ap, ◌∙◌, map, arith, Option, Some, None}
use Rattle.std.specs.Prelude.{flat_map, filter_map, find, zip, slice_get, option_map, option_and_then, if◌then◌else◌}
use Rattle.std.specs.List.{list_all, cons_option, AllByRecursion, Contains}
use Rattle.std.specs.Ordering.{int_eq}
use Rattle.std.proofs.lemmas.Bool.{and_parts, or_parts}
use Rattle.std.proofs.lemmas.List.Elements.{recursion_from_All, All-contains_itself}
use Rattle.gd_variant.specs.Words.{has_text, numbered, or_else, place_of, some_is, text_eq}
use Rattle.gd_variant.specs.declared.value.Variant.TheVariants.{Nil}
use Rattle.scene_model.specs.declared.scene.Prop.{Prop}
use Rattle.scene_model.specs.declared.scene.Scene.{Scene}
use Rattle.scene_model.specs.declared.scene.Node.{Node}
use Rattle.scene_model.specs.declared.scene.SyncDef.{SyncDef}
use Rattle.scene_model.specs.Lookup.{fixed_node, fixed_path_id, has_prop, scene_at, sync_of, value_in}
use Rattle.scene_model.specs.Nodes.{Live, live_at, props_in}
use Rattle.scene_model.specs.Syncs.{Syncer, change_props, fixed_syncer, fixed_syncers, row_syncer, sync_id}
use Rattle.scene_model.specs.Valid.{IsValidScene, has_twice, names_no_prop, no_target, node_no_prop, auth_wrong}
use Rattle.scene_model.proofs.TextLaws.{text_eq-true, text_eq-same, text_eq-sym}
use Rattle.peer_model.specs.Heard.{Who, Heard}
use Rattle.peer_model.specs.Rows.{OwnRow, own_rows, syncs_at}
use Rattle.peer_model.specs.Values.{own_value}
use Rattle.peer_model.specs.Visible.{own_syncers, row_syncers_of}
use Rattle.peer_model.specs.View.{authorities, fixed_now, own_live, own_values, rows_of, tree_of, values_seen}
use Rattle.peer_laws.specs.Facts.{Facts}
use Rattle.peer_laws.proofs.Each.{every_joined}
use Rattle.peer_laws.proofs.OwnValues.{find_mapped, own_row_there, own_value_in}
use Rattle.peer_laws.proofs.Places.{find_here}
use Rattle.peer_laws.proofs.Scenes.{fixed_apart}
use Rattle.peer_laws.proofs.TreeStart.{node_found}
use Rattle.world_laws.proofs.Properties.{props_named, named_in, scene_named, sync_right, syncs_right}
use Rattle.headless_tree.proofs.Numbered.{unnot, all_at}
use Rattle.sight_laws.proofs.Firsts.{IsOwned, owned}
use Rattle.sight_laws.proofs.Lists.{every_both}
use Rattle.delta_props.specs.Telling.{sync_at, sync_named, value_of}
use Rattle.telling_laws.proofs.Collecting.{Serves}

-- present values

own_values_are : (who : Who) (es : List Heard) (path : List ℕ) (n : Live) (ps : List (List ℕ)) → (props : List Prop) → n.values ≡ own_values who es path props → list_all (λ p. has_prop p props) ps ≡ true → AllByRecursion (λ p. value_of n p ≡ own_value who es path p) ps
own_values_are who es path n [] props is h = tt
own_values_are who es path n (p ∷ ps) props is h =
    let parts = and_parts (has_prop p props) (list_all (λ q. has_prop q props) ps) h in
    (ap (λ vs. or_else (value_in vs p) Nil) is ∙ ap (λ o. or_else o Nil) (own_value_in who es path p props parts.0), own_values_are who es path n ps props is parts.1)

-- rows

module _ (who : Who) (es : List Heard) (valid : IsValidScene who.scene) (facts : Facts who es) where
  row_serves : (r : OwnRow) → Contains (own_rows who es) r → (k : ℕ) (ids : List ℕ) (ds : List SyncDef) → ((j : ℕ) → slice_get (syncs_at who.scene (Some r.place)) (k + j) ≡ slice_get ds j) → list_all (named_in (props_in (scene_at who.scene r.place))) ds ≡ true
      → AllByRecursion (Serves who es (tree_of who es)) (map (row_syncer r.path) (numbered k (zip ids ds)))
  row_serves r has k [] [] at named = tt
  row_serves r has k [] (d ∷ ds) at named = tt
  row_serves r has k (i ∷ ids) [] at named = tt
  row_serves r has k (i ∷ ids) (d ∷ ds) at named = (
    record {
      node = own_live who es r;
      there = ap (option_and_then (sync_at who.scene (tree_of who es) k)) (own_row_there who es facts r has) ∙ ap (option_map (λ (x : SyncDef). (own_live who es r, x))) here;
      values = own_values_are who es r.path (own_live who es r) (change_props d) (props_in (scene_at who.scene r.place)) refl (props_named (props_in (scene_at who.scene r.place)) d (unnot (names_no_prop (props_in (scene_at who.scene r.place)) d) parts.0));
    },
    row_serves r has (k + 1) ids ds (λ j. let e : (k + 1) + j ≡ k + suc j = omega arith in ap (slice_get (syncs_at who.scene (Some r.place))) e ∙ at (suc j)) parts.1,
  )
    where
      parts : (named_in (props_in (scene_at who.scene r.place)) d ≡ true) × (list_all (named_in (props_in (scene_at who.scene r.place))) ds ≡ true)
      parts = and_parts (named_in (props_in (scene_at who.scene r.place)) d) (list_all (named_in (props_in (scene_at who.scene r.place))) ds) named

      here : slice_get (syncs_at who.scene (Some r.place)) k ≡ Some d
      here = let e : k ≡ k + 0 = omega arith in ap (slice_get (syncs_at who.scene (Some r.place))) e ∙ at 0

  rows_serve : (rs : List OwnRow) → AllByRecursion (Contains (own_rows who es)) rs → AllByRecursion (Serves who es (tree_of who es)) (flat_map (row_syncers_of who) rs)
  rows_serve [] h = tt
  rows_serve (r ∷ rs) h = every_joined (Serves who es (tree_of who es)) (row_syncers_of who r) (flat_map (row_syncers_of who) rs)
      (row_serves r h.0 0 r.ids (syncs_at who.scene (Some r.place)) (λ j. let e : 0 + j ≡ j = omega arith in ap (slice_get (syncs_at who.scene (Some r.place))) e) (scene_named who.scene valid r.place)) (rows_serve rs h.1)

  -- fixed nodes

  -- a fixed node stands in the tree
  fixed_stands : (q : List ℕ) (n : Node) → fixed_node who.scene q ≡ Some n → live_at (tree_of who es) q ≡ Some (fixed_now who es n)
  fixed_stands q n there = find_here (λ (x : Live). text_eq x.path q) (map (fixed_now who es) who.scene.nodes) (flat_map (rows_of who es) (authorities who es)) (fixed_now who es n)
      (find_mapped (λ (x : Live). text_eq x.path q) (fixed_now who es) who.scene.nodes ∙ ap (option_map (fixed_now who es)) there)

  fixed_path : (ns : List Node) (q : List ℕ) (n : Node) → find (λ (x : Node). text_eq x.path q) ns ≡ Some n → n.path ≡ q
  fixed_path [] q n h = absurd (cc h)
  fixed_path (m ∷ ms) q n h = step (text_eq m.path q) refl h (fixed_path ms q n)
    where
      step : (b : Bool) → text_eq m.path q ≡ b → cond b (Some m) (find (λ (x : Node). text_eq x.path q) ms) ≡ Some n → (find (λ (x : Node). text_eq x.path q) ms ≡ Some n → n.path ≡ q) → n.path ≡ q
      step true e k more = let same : m ≡ n = cc in ap (λ (x : Node). x.path) (sym same) ∙ text_eq-true m.path q e
      step false e k more = more k

-- a fixed synchronizer with its node
pub record IsFixed (s : Scene) (y : Syncer) : Type 0 where
  pub place : ℕ
  pub node : Node
  pub there : slice_get s.nodes place ≡ Some node
  pub path : y.path ≡ node.path
  pub first : y.place ≡ 0
  pub id : y.id ≡ sync_id (place + 1)
  pub sync : sync_of node ≡ Some y.def
  pub serves : y.node ≡ y.def.of

fixed_from : (s : Scene) (auth : ℤ) (j i : ℕ) (ns : List Node) → i ≡ j + 1 → ((k : ℕ) → slice_get s.nodes (j + k) ≡ slice_get ns k) → AllByRecursion (IsFixed s) (filter_map (fixed_syncer auth) (numbered i ns))
fixed_from s auth j i [] e h = tt
fixed_from s auth j i (n ∷ ns) e h = step (fixed_from s auth (j + 1) (i + 1) ns (ap (λ k. k + 1) e) (λ k. let f : (j + 1) + k ≡ j + suc k = omega arith in ap (slice_get s.nodes) f ∙ h (suc k))) (int_eq n.auth auth) refl (sync_of n) refl
  where
    rest : List Syncer
    rest = filter_map (fixed_syncer auth) (numbered (i + 1) ns)

    here : slice_get s.nodes j ≡ Some n
    here = let f : j ≡ j + 0 = omega arith in ap (slice_get s.nodes) f ∙ h 0

    step : AllByRecursion (IsFixed s) rest → (b : Bool) → int_eq n.auth auth ≡ b → (o : Option SyncDef) → sync_of n ≡ o → AllByRecursion (IsFixed s) (cons_option (fixed_syncer auth (i, n)) rest)
    step more false f o g = rw f more
    step more true f None g = rw (f, g) more
    step more true f (Some d) g = rw (f, g) (record { place = j; node = n; there = here; path = refl; first = refl; id = ap sync_id e; sync = g; serves = refl }, more)

pub all_fixed : (s : Scene) (auth : ℤ) → AllByRecursion (IsFixed s) (fixed_syncers s auth)
all_fixed s auth = fixed_from s auth 0 1 s.nodes refl (λ k. let f : 0 + k ≡ k = omega arith in ap (slice_get s.nodes) f)

-- the place of a path that stands at a place
pub path_place : (nodes : List Node) (j : ℕ) (n : Node) → has_twice (map (λ (x : Node). x.path) nodes) ≡ false → slice_get nodes j ≡ Some n → place_of n.path (map (λ (x : Node). x.path) nodes) ≡ Some j
path_place [] j n h e = absurd (cc e)
path_place (m ∷ nodes) zero n h e = let same : m ≡ n = cc in ap (λ (x : Node). cond (text_eq x.path m.path) (Some 0) (option_map (λ k. k + 1) (place_of x.path (map (λ (z : Node). z.path) nodes)))) (sym same) ∙ ap (λ b. cond b (Some 0) (option_map (λ k. k + 1) (place_of m.path (map (λ (z : Node). z.path) nodes)))) (text_eq-same m.path)
path_place (m ∷ nodes) (suc j) n h e =
    let parts = or_parts (has_text m.path (map (λ (x : Node). x.path) nodes)) (has_twice (map (λ (x : Node). x.path) nodes)) h in
    let more = path_place nodes j n parts.1 e in
    ap (λ b. cond b (Some 0) (option_map (λ k. k + 1) (place_of n.path (map (λ (z : Node). z.path) nodes)))) (unlike nodes j n e parts.0) ∙ ap (option_map (λ k. k + 1)) more ∙ (let f : j + 1 ≡ suc j = omega arith in ap Some f)
  where
    unlike : (ns : List Node) (k : ℕ) (x : Node) → slice_get ns k ≡ Some x → has_text m.path (map (λ (z : Node). z.path) ns) ≡ false → text_eq x.path m.path ≡ false
    unlike [] k x f l = absurd (cc f)
    unlike (z ∷ ns) zero x f l = let same : z ≡ x = cc in text_eq-sym x.path m.path ∙ ap (λ (w : Node). text_eq m.path w.path) (sym same) ∙ (or_parts (text_eq m.path z.path) (has_text m.path (map (λ (w : Node). w.path) ns)) l).0
    unlike (z ∷ ns) (suc k) x f l = unlike ns k x f (or_parts (text_eq m.path z.path) (has_text m.path (map (λ (w : Node). w.path) ns)) l).1

pub path_id : (s : Scene) → IsValidScene s → (y : Syncer) → IsFixed s y → sync_id (or_else (fixed_path_id s y.path) 0) ≡ y.id
path_id s v y fixed =
    ap (λ p. sync_id (or_else (fixed_path_id s p) 0)) fixed.path
    ∙ ap (λ o. sync_id (or_else (option_map (λ i. i + 1) o) 0)) (path_place s.nodes fixed.place fixed.node (fixed_apart s v) fixed.there) ∙ sym fixed.id

-- the on-change properties of a fixed synchronizer are properties of the node that it serves
named_for : (s : Scene) (n : Node) (d : SyncDef) (t : Node) → sync_right s n ≡ true → sync_of n ≡ Some d → fixed_node s d.of ≡ Some t → names_no_prop t.props d ≡ false
named_for s n d t right is there =
    let parts = and_parts (not (no_target s n)) (not (node_no_prop s n) && not (auth_wrong s n)) right in
    let others = and_parts (not (node_no_prop s n)) (not (auth_wrong s n)) parts.1 in
    sym (ap (some_is (λ (x : Node). names_no_prop x.props d)) there)
    ∙ sym (ap (some_is (λ (e : SyncDef). some_is (λ (x : Node). names_no_prop x.props e) (fixed_node s e.of))) is)
    ∙ (or_parts (some_is (λ (e : SyncDef). some_is (λ (x : Node). names_no_prop x.props e) (fixed_node s e.of)) (sync_of n)) _ (unnot (node_no_prop s n) others.0)).0

fixed_serves : (who : Who) (es : List Heard) (valid : IsValidScene who.scene) (facts : Facts who es) (y : Syncer) → IsFixed who.scene y → IsOwned who.scene who.id y.node → Serves who es (tree_of who es) y
fixed_serves who es valid facts y fixed own = record {
  node = fixed_now who es own.node;
  there =
      ap (λ p. sync_named who.scene (tree_of who es) p y.place) fixed.path
      ∙ ap (option_and_then (sync_at who.scene (tree_of who es) y.place)) (fixed_stands who es valid facts fixed.node.path fixed.node found)
      ∙ ap (λ o. option_and_then (λ (d : SyncDef). option_map (λ (m : Live). (m, d)) (live_at (tree_of who es) d.of)) (option_and_then sync_of o)) found
      ∙ ap (option_and_then (λ (d : SyncDef). option_map (λ (m : Live). (m, d)) (live_at (tree_of who es) d.of))) fixed.sync
      ∙ ap (λ q. option_map (λ (m : Live). (m, y.def)) (live_at (tree_of who es) q)) (sym fixed.serves)
      ∙ ap (option_map (λ (m : Live). (m, y.def))) (fixed_stands who es valid facts y.node own.node own.there);
  values = own_values_are who es y.node (fixed_now who es own.node) (change_props y.def) own.node.props
      (ap (λ b. if b then own_values who es own.node.path own.node.props else values_seen who es own.node) own.own ∙ ap (λ q. own_values who es q own.node.props) (fixed_path who es valid facts who.scene.nodes y.node own.node own.there))
      (props_named own.node.props y.def (named_for who.scene fixed.node y.def own.node (all_at (sync_right who.scene) who.scene.nodes fixed.place fixed.node fixed.there (syncs_right who.scene valid)) fixed.sync (ap (fixed_node who.scene) (sym fixed.serves) ∙ own.there)));
}
  where
    found : fixed_node who.scene fixed.node.path ≡ Some fixed.node
    found = node_found who.scene.nodes fixed.place fixed.node (fixed_apart who.scene valid) fixed.there

-- each own synchronizer serves a node of the tree
pub all_serve : (who : Who) (es : List Heard) → IsValidScene who.scene → Facts who es → AllByRecursion (Serves who es (tree_of who es)) (own_syncers who es)
all_serve who es valid facts = every_joined (Serves who es (tree_of who es)) (fixed_syncers who.scene who.id) (flat_map (row_syncers_of who) (own_rows who es))
    (every_both (IsFixed who.scene) (Contains (fixed_syncers who.scene who.id)) (Serves who es (tree_of who es)) (λ y fixed has. fixed_serves who es valid facts y fixed (owned who valid y has)) (fixed_syncers who.scene who.id) (all_fixed who.scene who.id) (itself (fixed_syncers who.scene who.id)))
    (rows_serve who es valid facts (own_rows who es) (itself (own_rows who es)))
  where
    itself : {X : Type 0} (xs : List X) → AllByRecursion (Contains xs) xs
    itself xs = recursion_from_All (Contains xs) xs (All-contains_itself xs)
