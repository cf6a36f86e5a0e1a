-- A synchronizer of a valid scene has at most 64 on-change properties.
use Rattle.std.proofs.Common.{◌≡◌, ℕ, ◌≤◌, Bool, true, false, not, List, [], refl, sym, ap, ◌∙◌, length, filter, Option, Some, None, nat_lt, arith}
use Rattle.std.specs.Prelude.{slice_get, option_map, option_and_then}
use Rattle.std.specs.List.{list_any, list_all}
use Rattle.std.proofs.lemmas.Bool.{ltb-false}
use Rattle.std.proofs.lemmas.List.{length-map}
use Rattle.gd_variant.specs.Words.{text_eq, some_is}
use Rattle.scene_model.specs.declared.scene.Scene.{Scene}
use Rattle.scene_model.specs.declared.scene.Node.{Node}
use Rattle.scene_model.specs.declared.scene.SceneDef.{SceneDef}
use Rattle.scene_model.specs.declared.scene.SyncDef.{SyncDef}
use Rattle.scene_model.specs.declared.scene.SyncProp.{SyncProp}
use Rattle.scene_model.specs.Lookup.{fixed_node, scene_at, sync_of}
use Rattle.scene_model.specs.Nodes.{Live, live_at}
use Rattle.scene_model.specs.Syncs.{is_on_change, change_props}
use Rattle.scene_model.specs.Valid.{IsValidScene, node_why, scene_why, count_on_change}
use Rattle.peer_model.specs.Rows.{syncs_at}
use Rattle.headless_tree.proofs.Numbered.{all_at, none_at, unnot}
use Rattle.peer_laws.proofs.Places.{all_found}
use Rattle.peer_laws.proofs.Scenes.{all_right, nodes_right, right_node, scenes_right, right_def}
use Rattle.peer_laws.proofs.Tests.{then_some}
use Rattle.delta_props.specs.Telling.{sync_at, sync_by, sync_named}

abbrev is_many : SyncDef → Bool
is_many d = nat_lt 64 (count_on_change d)

abbrev node_few : Node → Bool
node_few n = not (some_is is_many (sync_of n))

abbrev def_few : SceneDef → Bool
def_few d = not (list_any is_many d.syncs)

nodes_few : (s : Scene) → IsValidScene s → list_all node_few s.nodes ≡ true
nodes_few s v = all_right (node_why s) node_few (λ earlier n h. ap not (right_node s earlier n h).on_change) [] s.nodes (nodes_right s v)

defs_few : (s : Scene) → IsValidScene s → list_all def_few s.scenes ≡ true
defs_few s v = all_right scene_why def_few (λ earlier d h. ap not (right_def earlier d h).on_change) [] s.scenes (scenes_right s v)

fixed_few : (s : Scene) → IsValidScene s → (path : List ℕ) (d : SyncDef) → option_and_then sync_of (fixed_node s path) ≡ Some d → is_many d ≡ false
fixed_few s v path d h =
    let found = then_some sync_of (fixed_node s path) d h in
    sym (ap (some_is is_many) found.2) ∙ unnot (some_is is_many (sync_of found.0)) (all_found node_few (λ (m : Node). text_eq m.path path) s.nodes found.0 (nodes_few s v) found.1)

syncs_few : (s : Scene) → IsValidScene s → (place : ℕ) → list_any is_many (syncs_at s (Some place)) ≡ false
syncs_few s v place = by (scene_at s place) refl
  where
    by : (o : Option SceneDef) → scene_at s place ≡ o → list_any is_many (syncs_at s (Some place)) ≡ false
    by None e = rw e refl
    by (Some d) e = rw e (unnot (list_any is_many d.syncs) (all_at def_few s.scenes place d e (defs_few s v)))

served : (o : Option Live) (d : SyncDef) (y : Live × SyncDef) → option_map (λ (m : Live). (m, d)) o ≡ Some y → d ≡ y.1
served None d y h = absurd (cc h)
served (Some m) d y h = let same : (m, d) ≡ y = cc in ap (λ (x : Live × SyncDef). x.1) same

defined : (n : Live) (o : Option SyncDef) (y : Live × SyncDef) → option_map (λ (d : SyncDef). (n, d)) o ≡ Some y → o ≡ Some y.1
defined n None y h = absurd (cc h)
defined n (Some d) y h = let same : (n, d) ≡ y = cc in ap (λ (x : Live × SyncDef). Some x.1) same

by_place : (s : Scene) → IsValidScene s → (nodes : List Live) (k : ℕ) (n : Live) (place : Option ℕ) (y : Live × SyncDef) → sync_by s nodes k n place ≡ Some y → is_many y.1 ≡ false
by_place s v nodes k n None y h =
    let found = then_some (λ (d : SyncDef). option_map (λ (m : Live). (m, d)) (live_at nodes d.of)) (option_and_then sync_of (fixed_node s n.path)) y h in
    ap is_many (sym (served (live_at nodes found.0.of) found.0 y found.2)) ∙ fixed_few s v n.path found.0 found.1
by_place s v nodes k n (Some place) y h = none_at is_many (syncs_at s (Some place)) k y.1 (defined n (slice_get (syncs_at s (Some place)) k) y h) (syncs_few s v place)

pub named_few : (s : Scene) → IsValidScene s → (nodes : List Live) (path : List ℕ) (k : ℕ) (y : Live × SyncDef) → sync_named s nodes path k ≡ Some y → length (change_props y.1) ≤ 64
named_few s v nodes path k y h =
    let found = then_some (sync_at s nodes k) (live_at nodes path) y h in
    let few = ltb-false 64 (count_on_change y.1) (by_place s v nodes k found.0 found.0.place y found.2) in
    omega (arith, few, length-map (filter (λ (p : SyncProp). is_on_change p.mode) y.1.props) (λ (p : SyncProp). p.prop))
