-- What a valid scene's entries are.
use Rattle.std.proofs.Common.{◌≡◌, ℕ, zero, suc, ◌+◌, Bool, true, false, cond, not, ◌||◌, List, [], ◌∷◌, ◌++◌, refl, sym, ap, subst, ◌∙◌, length, map, filter, is_some, Option, Some, None, nat_eq, nat_le, nat_lt}
use Rattle.std.specs.Prelude.{find, slice_get, is_none, option_map, option_and_then, filter_map, flat_map, if◌then◌else◌}
use Rattle.std.specs.List.{list_any, list_all, cons_option}
use Rattle.std.proofs.lemmas.List.Elements.{filter_map-append}
use Rattle.std.proofs.lemmas.List.{append-nil}
use Rattle.std.proofs.lemmas.Bool.{or_parts, and_from}
use Rattle.gd_variant.specs.Words.{text_eq, has_text, some_is, first_of, with_earlier, numbered, place_of}
use Rattle.scene_model.specs.declared.scene.Scene.{Scene}
use Rattle.scene_model.specs.declared.scene.Node.{Node}
use Rattle.scene_model.specs.declared.scene.SceneDef.{SceneDef}
use Rattle.scene_model.specs.declared.scene.SpawnerDef.{SpawnerDef}
use Rattle.scene_model.specs.declared.scene.CustomDef.{CustomDef}
use Rattle.scene_model.specs.declared.spawn.SpawnMsg.{SpawnMsg}
use Rattle.scene_model.specs.declared.scene.SceneWhy.{SceneWhy}
use Rattle.scene_model.specs.Paths.{is_name}
use Rattle.scene_model.specs.Lookup.{fixed_paths, fixed_node, fixed_node_at, spawner_of, spawner_at, sync_of, prop_names, scene_place, scene_named, scene_at}
use Rattle.scene_model.specs.Valid.{IsValidScene, has_twice, node_why, scene_why, bad_at, first_bad, path_wrong, node_prop_twice, node_no_prop, no_target, under_shared, no_scene, methods_wrong, value_long, auth_wrong, most_entries, count_on_change, synced, names_no_prop}
use Rattle.peer_model.specs.Updates.{spawner_with, scene_name_of, custom_byte, shown_place}
use Rattle.peer_model.specs.Values.{props_in}
use Rattle.scene_model.proofs.TextLaws.{text_eq-sym}
use Rattle.std.proofs.lemmas.List.Folds.{list_all-map}
use Rattle.peer_laws.proofs.Each.{all-filter, all_joined, none_fail, text_fails}
use Rattle.scene_model.specs.declared.scene.SyncDef.{SyncDef}
use Rattle.scene_model.specs.declared.scene.SyncProp.{SyncProp}
use Rattle.scene_model.specs.declared.scene.Prop.{Prop}
use Rattle.scene_model.specs.Syncs.{spawn_props}
use Rattle.scene_model.specs.Lookup.{has_prop}
use Rattle.peer_model.specs.Rows.{syncs_at}
use Rattle.peer_model.specs.Updates.{all_spawn_props}
use Rattle.peer_laws.proofs.Once.{EachNew, each_new_apart}
use Rattle.peer_laws.proofs.Places.{all_found}
use Rattle.headless_tree.proofs.Numbered.{all_at, none_at, unnot}
use Rattle.peer_laws.proofs.Tests.{no_row, no_first, none_mapped, first_none, some_from}

-- each entry of a list is right beside those before it
abbrev pub EachRight : {X : Type 0} → (List X × X → Option SceneWhy) → List X → List X → Type 0
EachRight why earlier [] = Unit {0}
EachRight why earlier (x ∷ xs) = (why (earlier, x) ≡ None) × EachRight why (earlier ++ x ∷ []) xs

each_right : {X : Type 0} (why : List X × X → Option SceneWhy) (k : ℕ) (earlier xs : List X) → first_of (map (bad_at why) (numbered k (with_earlier earlier xs))) ≡ None → EachRight why earlier xs
each_right why k earlier [] h = tt
each_right why k earlier (x ∷ xs) h =
    let rest = map (bad_at why) (numbered (k + 1) (with_earlier (earlier ++ x ∷ []) xs)) in
    let parts = no_first (bad_at why (k, (earlier, x))) rest h in
    (none_mapped _ (why (earlier, x)) parts.0, each_right why (k + 1) (earlier ++ x ∷ []) xs parts.1)

pub nodes_right : (s : Scene) → IsValidScene s → EachRight (node_why s) [] s.nodes
nodes_right s v = each_right (node_why s) 0 [] s.nodes (first_none (first_bad (node_why s) (with_earlier [] s.nodes)) (first_bad scene_why (with_earlier [] s.scenes)) v).0

pub scenes_right : (s : Scene) → IsValidScene s → EachRight scene_why [] s.scenes
scenes_right s v = each_right scene_why 0 [] s.scenes (first_none (first_bad (node_why s) (with_earlier [] s.nodes)) (first_bad scene_why (with_earlier [] s.scenes)) v).1

-- what no row of the table says of a fixed node
pub record IsRightNode (s : Scene) (earlier : List Node) (n : Node) : Type 0 where
  pub path : path_wrong earlier n ≡ false
  pub new : list_any (λ (e : Node). text_eq e.path n.path) earlier ≡ false
  pub few : (nat_le most_entries (length earlier) || nat_lt 64 (length n.props) || nat_lt 4096 (length n.methods)) ≡ false
  pub props : node_prop_twice earlier n ≡ false
  pub named : node_no_prop s n ≡ false
  pub on_change : some_is (λ d. nat_lt 64 (count_on_change d)) (sync_of n) ≡ false
  pub target : no_target s n ≡ false
  pub alone : under_shared earlier n ≡ false
  pub few_scenes : some_is (λ (d : SpawnerDef). nat_lt 255 (length d.scenes)) (spawner_of n) ≡ false
  pub listed : some_is (no_scene s) (spawner_of n) ≡ false
  pub methods : methods_wrong n.props n.methods ≡ false
  pub short : list_any value_long n.props ≡ false
  pub auth : auth_wrong s n ≡ false

pub right_node : (s : Scene) (earlier : List Node) (n : Node) → node_why s (earlier, n) ≡ None → IsRightNode s earlier n
right_node s earlier n h =
    let a = no_row _ _ _ h in
    let b = no_row _ _ _ a.1 in
    let c = no_row _ _ _ b.1 in
    let d = no_row _ _ _ c.1 in
    let e = no_row _ _ _ d.1 in
    let f = no_row _ _ _ e.1 in
    let g = no_row _ _ _ f.1 in
    let i = no_row _ _ _ g.1 in
    let j = no_row _ _ _ i.1 in
    let k = no_row _ _ _ j.1 in
    let l = no_row _ _ _ k.1 in
    let m = no_row _ _ _ l.1 in
    let o = no_row _ _ _ m.1 in
    record { path = a.0; new = b.0; few = c.0; props = d.0; named = e.0; on_change = f.0; target = g.0; alone = i.0; few_scenes = j.0; listed = k.0; methods = l.0; short = m.0; auth = o.0 }

-- what no row of the table says of a scene that can be spawned
pub record IsRightDef (earlier : List SceneDef) (d : SceneDef) : Type 0 where
  pub name : not (is_name d.name) ≡ false
  pub new : list_any (λ (e : SceneDef). text_eq e.name d.name) earlier ≡ false
  pub few : (nat_le most_entries (length earlier) || nat_lt 64 (length d.props) || nat_lt 4096 (length d.methods) || nat_lt 8 (length d.syncs)) ≡ false
  pub props : (has_twice (prop_names d.props) || has_twice (flat_map synced d.syncs)) ≡ false
  pub named : list_any (names_no_prop d.props) d.syncs ≡ false
  pub on_change : list_any (λ y. nat_lt 64 (count_on_change y)) d.syncs ≡ false
  pub methods : methods_wrong d.props d.methods ≡ false
  pub short : list_any value_long d.props ≡ false

pub right_def : (earlier : List SceneDef) (d : SceneDef) → scene_why (earlier, d) ≡ None → IsRightDef earlier d
right_def earlier d h =
    let a = no_row _ _ _ h in
    let b = no_row _ _ _ a.1 in
    let c = no_row _ _ _ b.1 in
    let e = no_row _ _ _ c.1 in
    let f = no_row _ _ _ e.1 in
    let g = no_row _ _ _ f.1 in
    let i = no_row _ _ _ g.1 in
    let j = no_row _ _ _ i.1 in
    record { name = a.0; new = b.0; few = c.0; props = e.0; named = f.0; on_change = g.0; methods = i.0; short = j.0 }

-- a test that every right entry passes
pub all_right : {X : Type 0} (why : List X × X → Option SceneWhy) (p : X → Bool) → ((earlier : List X) (x : X) → why (earlier, x) ≡ None → p x ≡ true) → (earlier xs : List X) → EachRight why earlier xs → list_all p xs ≡ true
all_right why p k earlier [] h = refl
all_right why p k earlier (x ∷ xs) h = and_from (p x) (list_all p xs) (k earlier x h.0) (all_right why p k (earlier ++ x ∷ []) xs h.1)

-- properties

-- whether no name of properties stands twice
abbrev pub node_apart : Node → Bool
node_apart n = not (has_twice (prop_names n.props))

abbrev pub def_apart : SceneDef → Bool
def_apart d = not (has_twice (prop_names d.props))

pub nodes_apart : (s : Scene) → IsValidScene s → list_all node_apart s.nodes ≡ true
nodes_apart s v = all_right (node_why s) node_apart (λ earlier n h. ap not (or_parts (has_twice (prop_names n.props)) _ (right_node s earlier n h).props).0) [] s.nodes (nodes_right s v)

pub defs_apart : (s : Scene) → IsValidScene s → list_all def_apart s.scenes ≡ true
defs_apart s v = all_right scene_why def_apart (λ earlier d h. ap not (or_parts (has_twice (prop_names d.props)) _ (right_def earlier d h).props).0) [] s.scenes (scenes_right s v)

-- the properties of a fixed node have different names
pub node_props_apart : (s : Scene) → IsValidScene s → (path : List ℕ) (n : Node) → fixed_node s path ≡ Some n → has_twice (prop_names n.props) ≡ false
node_props_apart s v path n h = unnot (has_twice (prop_names n.props)) (all_found node_apart (λ (m : Node). text_eq m.path path) s.nodes n (nodes_apart s v) h)

props_of_place : (s : Scene) (place : ℕ) (o : Option SceneDef) → scene_at s place ≡ o → IsValidScene s → has_twice (prop_names (props_in o)) ≡ false
props_of_place s place None e v = refl
props_of_place s place (Some d) e v = unnot (has_twice (prop_names d.props)) (all_at def_apart s.scenes place d e (defs_apart s v))

-- the properties of a scene have different names
pub scene_props_apart : (s : Scene) → IsValidScene s → (place : ℕ) → has_twice (prop_names (props_in (scene_at s place))) ≡ false
scene_props_apart s v place = props_of_place s place (scene_at s place) refl v

pub place_props_apart : (s : Scene) → IsValidScene s → (place : Option ℕ) → has_twice (prop_names (props_in (option_and_then (scene_at s) place))) ≡ false
place_props_apart s v None = refl
place_props_apart s v (Some place) = scene_props_apart s v place

-- paths and names

new_paths : (s : Scene) (earlier xs : List Node) → EachRight (node_why s) earlier xs → EachNew (λ (n : Node). n.path) earlier xs
new_paths s earlier [] h = tt
new_paths s earlier (x ∷ xs) h = ((right_node s earlier x h.0).new, new_paths s (earlier ++ x ∷ []) xs h.1)

-- no two fixed nodes have one path
pub fixed_apart : (s : Scene) → IsValidScene s → has_twice (fixed_paths s) ≡ false
fixed_apart s v = each_new_apart (λ (n : Node). n.path) [] s.nodes (new_paths s [] s.nodes (nodes_right s v))

-- the parents under which spawners put their nodes
abbrev pub spawn_parents : Scene → List (List ℕ)
spawn_parents s = map (λ (d : SpawnerDef). d.under) (filter_map spawner_of s.nodes)

new_unders : (s : Scene) (earlier xs : List Node) → EachRight (node_why s) earlier xs → EachNew (λ (d : SpawnerDef). d.under) (filter_map spawner_of earlier) (filter_map spawner_of xs)
new_unders s earlier [] h = tt
new_unders s earlier (x ∷ xs) h = step (spawner_of x) refl ((right_node s earlier x h.0).alone)
    (subst (λ ds. EachNew (λ (d : SpawnerDef). d.under) ds (filter_map spawner_of xs)) (filter_map-append spawner_of earlier (x ∷ [])) (new_unders s (earlier ++ x ∷ []) xs h.1))
  where
    step : (o : Option SpawnerDef) → spawner_of x ≡ o → some_is (λ (d : SpawnerDef). list_any (λ (e : SpawnerDef). text_eq e.under d.under) (filter_map spawner_of earlier)) o ≡ false
        → EachNew (λ (d : SpawnerDef). d.under) (filter_map spawner_of earlier ++ cons_option o []) (filter_map spawner_of xs)
        → EachNew (λ (d : SpawnerDef). d.under) (filter_map spawner_of earlier) (cons_option o (filter_map spawner_of xs))
    step None e k more = subst (λ ds. EachNew (λ (d : SpawnerDef). d.under) ds (filter_map spawner_of xs)) (append-nil (filter_map spawner_of earlier)) more
    step (Some d) e k more = (k, more)

-- no two spawners put their nodes under one parent
pub unders_apart : (s : Scene) → IsValidScene s → has_twice (spawn_parents s) ≡ false
unders_apart s v = each_new_apart (λ (d : SpawnerDef). d.under) [] (filter_map spawner_of s.nodes) (new_unders s [] s.nodes (nodes_right s v))

-- spawners' scenes

abbrev pub is_listed : Scene → Node → Bool
is_listed s n = not (some_is (no_scene s) (spawner_of n))

pub spawners_listed : (s : Scene) → IsValidScene s → list_all (is_listed s) s.nodes ≡ true
spawners_listed s v = all_right (node_why s) (is_listed s) (λ earlier n h. ap not (right_node s earlier n h).listed) [] s.nodes (nodes_right s v)

listed_def : (s : Scene) (n : Node) (d : SpawnerDef) → is_listed s n ≡ true → spawner_of n ≡ Some d → no_scene s d ≡ false
listed_def s n d h e = sym (ap (some_is (no_scene s)) e) ∙ unnot (some_is (no_scene s) (spawner_of n)) h

-- each scene of the spawner at a path is in the list of scenes
pub spawner_scenes : (s : Scene) → IsValidScene s → (path : List ℕ) (d : SpawnerDef) → spawner_at s path ≡ Some d → no_scene s d ≡ false
spawner_scenes s v path d h = step (fixed_node s path) refl h
  where
    step : (o : Option Node) → fixed_node s path ≡ o → option_and_then spawner_of o ≡ Some d → no_scene s d ≡ false
    step None e k = absurd (cc k)
    step (Some n) e k = listed_def s n d (all_found (is_listed s) (λ (m : Node). text_eq m.path path) s.nodes n (spawners_listed s v) e) k

node_got : (s : Scene) (p : Node → Bool) (id : ℕ) (n : Node) → list_all p s.nodes ≡ true → fixed_node_at s id ≡ Some n → p n ≡ true
node_got s p zero n h e = absurd (cc e)
node_got s p (suc i) n h e = all_at p s.nodes i n e h

-- each scene of the spawner with a path id is in the list of scenes
pub spawner_scenes_with : (s : Scene) → IsValidScene s → (id : ℕ) (d : SpawnerDef) → spawner_with s id ≡ Some d → no_scene s d ≡ false
spawner_scenes_with s v id d h = step (fixed_node_at s id) refl h
  where
    step : (o : Option Node) → fixed_node_at s id ≡ o → option_and_then spawner_of o ≡ Some d → no_scene s d ≡ false
    step None e k = absurd (cc k)
    step (Some n) e k = listed_def s n d (node_got s (is_listed s) id n (spawners_listed s v) e) k

-- a scene that is listed has a place

some_more : (o : Option ℕ) → is_some (option_map (λ n. n + 1) o) ≡ is_some o
some_more None = refl
some_more (Some n) = refl

placed_in : (name : List ℕ) (ds : List SceneDef) → is_some (place_of name (map (λ (d : SceneDef). d.name) ds)) ≡ is_some (find (λ (d : SceneDef). text_eq d.name name) ds)
placed_in name [] = refl
placed_in name (d ∷ ds) = ap (λ b. is_some (cond b (Some 0) (option_map (λ n. n + 1) (place_of name (map (λ (d : SceneDef). d.name) ds))))) (text_eq-sym name d.name)
    ∙ step (text_eq d.name name) (placed_in name ds)
  where
    step : (b : Bool) → is_some (place_of name (map (λ (d : SceneDef). d.name) ds)) ≡ is_some (find (λ (d : SceneDef). text_eq d.name name) ds)
        → is_some (cond b (Some 0) (option_map (λ n. n + 1) (place_of name (map (λ (d : SceneDef). d.name) ds)))) ≡ is_some (cond b (Some d) (find (λ (d : SceneDef). text_eq d.name name) ds))
    step true h = refl
    step false h = some_more (place_of name (map (λ (d : SceneDef). d.name) ds)) ∙ h

pub scene_is_placed : (s : Scene) (name : List ℕ) → is_some (scene_place s name) ≡ is_some (scene_named s name)
scene_is_placed s name = placed_in name s.scenes

-- each scene that a spawner lists has a place
pub listed_is_placed : (s : Scene) (d : SpawnerDef) (i : ℕ) (name : List ℕ) → no_scene s d ≡ false → slice_get d.scenes i ≡ Some name → is_some (scene_place s name) ≡ true
listed_is_placed s d i name h e = scene_is_placed s name ∙ some_from (scene_named s name) (none_at (λ t. is_none (scene_named s t)) d.scenes i name e (or_parts (list_any (λ t. is_none (scene_named s t)) d.scenes) _ h).0)

-- the scene of a spawner's custom spawn has a place
pub custom_is_placed : (s : Scene) (d : SpawnerDef) (c : CustomDef) → no_scene s d ≡ false → d.custom ≡ Some c → is_some (scene_place s c.scene) ≡ true
custom_is_placed s d c h e = scene_is_placed s c.scene ∙ some_from (scene_named s c.scene) (sym (ap (some_is (λ (c : CustomDef). is_none (scene_named s c.scene))) e) ∙ (or_parts (list_any (λ t. is_none (scene_named s t)) d.scenes) (some_is (λ (c : CustomDef). is_none (scene_named s c.scene)) d.custom) h).1)

-- each scene that is among a spawner's has a place
pub named_is_placed : (s : Scene) (d : SpawnerDef) (name : List ℕ) → no_scene s d ≡ false → has_text name d.scenes ≡ true → is_some (scene_place s name) ≡ true
named_is_placed s d name h k =
    let lost : List ℕ → Bool = λ t. is_none (scene_named s t) in
    scene_is_placed s name ∙ some_from (scene_named s name) (text_fails lost name d.scenes k (or_parts (list_any lost d.scenes) _ h).0)

-- each scene that the spawner at a path lists has a place
pub named_at_is_placed : (s : Scene) → IsValidScene s → (path : List ℕ) (d : SpawnerDef) (name : List ℕ) → spawner_at s path ≡ Some d → has_text name d.scenes ≡ true → is_some (scene_place s name) ≡ true
named_at_is_placed s v path d name h k = named_is_placed s d name (spawner_scenes s v path d h) k

-- the scene that a scene byte means has a place
pub byte_is_placed : (s : Scene) (d : SpawnerDef) (byte : ℕ) (name : List ℕ) → no_scene s d ≡ false → scene_name_of d byte ≡ Some name → is_some (scene_place s name) ≡ true
byte_is_placed s d byte name h e = step (nat_eq byte custom_byte) e
  where
    custom : (o : Option CustomDef) → d.custom ≡ o → option_map (λ (c : CustomDef). c.scene) o ≡ Some name → is_some (scene_place s name) ≡ true
    custom None k f = absurd (cc f)
    custom (Some c) k f = let same : c.scene ≡ name = cc in ap (λ t. is_some (scene_place s t)) (sym same) ∙ custom_is_placed s d c h k

    step : (b : Bool) → (if b then option_map (λ (c : CustomDef). c.scene) d.custom else slice_get d.scenes byte) ≡ Some name → is_some (scene_place s name) ≡ true
    step true f = custom d.custom refl f
    step false f = listed_is_placed s d byte name h f

-- the name of the scene that a Show means
abbrev pub shown_name : Scene → SpawnMsg → Option (List ℕ)
shown_name s m = option_and_then (λ (d : SpawnerDef). scene_name_of d m.scene) (spawner_with s m.spawner)

shown_name_placed : (s : Scene) → IsValidScene s → (m : SpawnMsg) (name : List ℕ) → shown_name s m ≡ Some name → is_some (scene_place s name) ≡ true
shown_name_placed s v m name h = step (spawner_with s m.spawner) refl h
  where
    step : (o : Option SpawnerDef) → spawner_with s m.spawner ≡ o → option_and_then (λ (d : SpawnerDef). scene_name_of d m.scene) o ≡ Some name → is_some (scene_place s name) ≡ true
    step None e k = absurd (cc k)
    step (Some d) e k = byte_is_placed s d m.scene name (spawner_scenes_with s v m.spawner d e) k

-- a Show that means a scene makes a node of that scene
pub shown_is_placed : (s : Scene) → IsValidScene s → (m : SpawnMsg) → is_none (shown_name s m) ≡ false → is_some (shown_place s m) ≡ true
shown_is_placed s v m h = step (shown_name s m) refl h
  where
    step : (o : Option (List ℕ)) → shown_name s m ≡ o → is_none o ≡ false → is_some (option_and_then (scene_place s) o) ≡ true
    step None e k = absurd (cc k)
    step (Some name) e k = shown_name_placed s v m name e

-- synchronizers' properties

spawned_named : (props : List Prop) (ys : List SyncDef) → list_any (names_no_prop props) ys ≡ false → list_all (λ p. has_prop p props) (all_spawn_props ys) ≡ true
spawned_named props [] h = refl
spawned_named props (y ∷ ys) h =
    let parts = or_parts (names_no_prop props y) (list_any (names_no_prop props) ys) h in
    all_joined (λ p. has_prop p props) (spawn_props y) (all_spawn_props ys)
    (list_all-map (λ p. has_prop p props) (λ (p : SyncProp). p.prop) (filter (λ (p : SyncProp). p.spawn) y.props)
    ∙ all-filter (λ (p : SyncProp). has_prop p.prop props) (λ (p : SyncProp). p.spawn) y.props (none_fail (λ (p : SyncProp). has_prop p.prop props) y.props parts.0))
    (spawned_named props ys parts.1)

-- whether each synchronizer of a scene names properties of it
abbrev names_props : SceneDef → Bool
names_props d = not (list_any (names_no_prop d.props) d.syncs)

scenes_name : (s : Scene) → IsValidScene s → list_all names_props s.scenes ≡ true
scenes_name s v = all_right scene_why names_props (λ earlier d h. ap not (right_def earlier d h).named) [] s.scenes (scenes_right s v)

-- the spawn properties of a scene are properties of it
pub spawn_props_named : (s : Scene) → IsValidScene s → (place : ℕ) → list_all (λ p. has_prop p (props_in (scene_at s place))) (all_spawn_props (syncs_at s (Some place))) ≡ true
spawn_props_named s v place = by (scene_at s place) refl
  where
    by : (o : Option SceneDef) → scene_at s place ≡ o → list_all (λ p. has_prop p (props_in (scene_at s place))) (all_spawn_props (syncs_at s (Some place))) ≡ true
    by None e = rw e refl
    by (Some d) e = rw e (spawned_named d.props d.syncs (unnot (list_any (names_no_prop d.props) d.syncs) (all_at names_props s.scenes place d e (scenes_name s v))))
