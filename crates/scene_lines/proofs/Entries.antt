-- Nodes, scenes and the whole are read as they were written.
use Rattle.std.proofs.Common.{◌≡◌, ℕ, Bool, true, false, not, List, [], Ok, refl, ap}
use Rattle.std.specs.Prelude.{ℤ, map, ◌&&◌}
use Rattle.std.specs.List.{list_any, list_all}
use Rattle.std.proofs.lemmas.Bool.{and_parts}
use Rattle.gd_variant.specs.Sound.{is_text, is_short}
use Rattle.scene_model.specs.declared.scene.Scene.{Scene}
use Rattle.scene_model.specs.declared.scene.Node.{Node}
use Rattle.scene_model.specs.declared.scene.Role.{Role}
use Rattle.scene_model.specs.declared.scene.Role.TheVariants as role
use Rattle.scene_model.specs.declared.scene.Prop.{Prop}
use Rattle.scene_model.specs.declared.scene.Method.{Method}
use Rattle.scene_model.specs.declared.scene.SceneDef.{SceneDef}
use Rattle.scene_model.specs.Valid.{IsValidScene, value_long, node_why, scene_why}
use Rattle.line_text.specs.WrittenLines.{cells, setting_data}
use Rattle.line_text.specs.Parts.{list_read, object_read, key_read, optional}
use Rattle.line_text.specs.Scenes.{prop_read, method_read, scene_sync_read, role_by, role_read, node_read, def_read, scene_read, valid_read, scene_line_read}
use Rattle.line_text.proofs.ReadBack.{text_back, list_back}
use Rattle.peer_laws.proofs.Scenes.{all_right, nodes_right, scenes_right, right_node, right_def}
use Rattle.headless_tree.proofs.Numbered.{unnot}
use Rattle.scene_lines.specs.Laws.{ReadsScenes}
use Rattle.scene_lines.specs.Typed.{is_typed_prop, is_typed_method, is_typed_role, is_typed_node, is_typed_sync, is_typed_def, is_own, has_own_syncs, IsTyped}
use Rattle.scene_lines.specs.Written.{method_data, scene_sync_data, node_data, def_data, scene_data}
use Rattle.scene_lines.proofs.Parts.{both, short_back, is_right_prop, prop_back, right_props, method_back, node_sync_back, is_right_sync, scene_sync_back, spawner_back}

props_back : (ps : List Prop) → list_all is_typed_prop ps ≡ true → list_any value_long ps ≡ false → list_read prop_read (cells (map setting_data ps)) ≡ Ok ps
props_back ps typed short = list_back prop_read setting_data is_right_prop prop_back ps (right_props ps typed short)

methods_back : (ms : List Method) → list_all is_typed_method ms ≡ true → list_read method_read (cells (map method_data ms)) ≡ Ok ms
methods_back ms h = list_back method_read method_data is_typed_method method_back ms h

-- ---- nodes

-- a node by its parts, of which those that are lists are read back
node_by : (path : List ℕ) (auth : ℤ) (props : List Prop) (methods : List Method) (r : Role) → is_text path ≡ true → is_short auth ≡ true → list_read prop_read (cells (map setting_data props)) ≡ Ok props → list_read method_read (cells (map method_data methods)) ≡ Ok methods → is_typed_role r ≡ true
    → node_read (node_data (record { path = path; auth = auth; props = props; methods = methods; role = r })) ≡ Ok (record { path = path; auth = auth; props = props; methods = methods; role = r })
unfolding node_read role_read role_by object_read key_read optional
node_by path auth props methods role.Plain h k l m n = rw (text_back path h, short_back auth k, l, m) refl
node_by path auth props methods (role.Spawner s) h k l m n = rw (text_back path h, short_back auth k, l, m, spawner_back s n) refl
node_by path auth props methods (role.Sync s) h k l m n = rw (text_back path h, short_back auth k, l, m, node_sync_back s n) refl

-- whether each value of a node is sound and short
abbrev pub short_node : Node → Bool
short_node n = not (list_any value_long n.props)

abbrev pub is_right_node : Node → Bool
is_right_node n = is_typed_node n && short_node n

node_back : (n : Node) → is_right_node n ≡ true → node_read (node_data n) ≡ Ok n
node_back n h =
    let a = and_parts (is_typed_node n) (short_node n) h in
    let b = and_parts (is_text n.path) _ a.0 in
    let c = and_parts (is_short n.auth) _ b.1 in
    let d = and_parts (list_all is_typed_prop n.props) _ c.1 in
    let e = and_parts (list_all is_typed_method n.methods) (is_typed_role n.role) d.1 in
    node_by n.path n.auth n.props n.methods n.role b.0 c.0 (props_back n.props d.0 (unnot (list_any value_long n.props) a.1)) (methods_back n.methods e.0) e.1

pub short_nodes : (s : Scene) → IsValidScene s → list_all short_node s.nodes ≡ true
short_nodes s v = all_right (node_why s) short_node (λ earlier n h. ap not (right_node s earlier n h).short) [] s.nodes (nodes_right s v)

-- ---- scenes that can be spawned

abbrev pub short_def : SceneDef → Bool
short_def d = not (list_any value_long d.props)

abbrev is_right_def : SceneDef → Bool
is_right_def d = (is_typed_def d && has_own_syncs d) && short_def d

def_by : (d : SceneDef) → is_text d.name ≡ true → list_read prop_read (cells (map setting_data d.props)) ≡ Ok d.props → list_read method_read (cells (map method_data d.methods)) ≡ Ok d.methods → list_read scene_sync_read (cells (map scene_sync_data d.syncs)) ≡ Ok d.syncs → def_read (def_data d) ≡ Ok d
unfolding def_read object_read key_read
def_by d h k l m = rw (text_back d.name h, k, l, m) refl

def_back : (d : SceneDef) → is_right_def d ≡ true → def_read (def_data d) ≡ Ok d
def_back d h =
    let a = and_parts (is_typed_def d && has_own_syncs d) (short_def d) h in
    let own = and_parts (is_typed_def d) (has_own_syncs d) a.0 in
    let b = and_parts (is_text d.name) _ own.0 in
    let c = and_parts (list_all is_typed_prop d.props) _ b.1 in
    let e = and_parts (list_all is_typed_method d.methods) (list_all is_typed_sync d.syncs) c.1 in
    def_by d b.0 (props_back d.props c.0 (unnot (list_any value_long d.props) a.1)) (methods_back d.methods e.0)
    (list_back scene_sync_read scene_sync_data is_right_sync scene_sync_back d.syncs (both is_typed_sync is_own d.syncs e.1 own.1))

pub short_defs : (s : Scene) → IsValidScene s → list_all short_def s.scenes ≡ true
short_defs s v = all_right scene_why short_def (λ earlier d h. ap not (right_def earlier d h).short) [] s.scenes (scenes_right s v)

-- ---- the whole

scene_by : (s : Scene) → list_read node_read (cells (map node_data s.nodes)) ≡ Ok s.nodes → list_read def_read (cells (map def_data s.scenes)) ≡ Ok s.scenes → scene_read (scene_data s) ≡ Ok s
unfolding scene_read object_read key_read
scene_by s h k = rw (h, k) refl

scene_back : (s : Scene) → IsValidScene s → IsTyped s → scene_read (scene_data s) ≡ Ok s
scene_back s v t =
    scene_by s (list_back node_read node_data is_right_node node_back s.nodes (both is_typed_node short_node s.nodes t.nodes (short_nodes s v)))
    (list_back def_read def_data is_right_def def_back s.scenes
    (both (λ d. is_typed_def d && has_own_syncs d) short_def s.scenes (both is_typed_def has_own_syncs s.scenes t.scenes t.own) (short_defs s v)))

pub reads_scenes : ReadsScenes
unfolding scene_line_read valid_read
reads_scenes s line v t e = rw (e, scene_back s v t, v) refl
