-- The text of a scene is read as the scene: what is written of it is plain and not too deep.
use Rattle.std.proofs.Common.{◌≡◌, ℕ, ◌≤◌, ◌^◌, Bool, true, not, List, [], ◌∷◌, Option, Some, None, refl, arith}
use Rattle.std.specs.Prelude.{ℤ, map, ◌&&◌, nat_le, codes}
use Rattle.std.specs.List.{list_any, list_all}
use Rattle.std.proofs.lemmas.Bool.{and_parts, leb-true}
use Rattle.serde_json.specs.Data.{Data, string, Members, no_members, depth}
use Rattle.gd_variant.specs.Sound.{is_text, is_short, is_sound}
use Rattle.scene_model.specs.declared.event.Class.{Class}
use Rattle.scene_model.specs.declared.event.Class.TheVariants as class
use Rattle.scene_model.specs.declared.scene.Scene.{Scene}
use Rattle.scene_model.specs.declared.scene.Node.{Node}
use Rattle.scene_model.specs.declared.scene.Role.{Role}
use Rattle.scene_model.specs.declared.scene.Role.TheVariants as role
use Rattle.scene_model.specs.declared.scene.Prop.{Prop}
use Rattle.scene_model.specs.declared.scene.Method.{Method}
use Rattle.scene_model.specs.declared.scene.Sets.{Sets}
use Rattle.scene_model.specs.declared.scene.SyncProp.{SyncProp}
use Rattle.scene_model.specs.declared.scene.SyncDef.{SyncDef}
use Rattle.scene_model.specs.declared.scene.CustomDef.{CustomDef}
use Rattle.scene_model.specs.declared.scene.SpawnerDef.{SpawnerDef}
use Rattle.scene_model.specs.declared.scene.SceneDef.{SceneDef}
use Rattle.scene_model.specs.declared.scene.ReplMode.{ReplMode}
use Rattle.scene_model.specs.declared.scene.ReplMode.TheVariants as repl
use Rattle.scene_model.specs.declared.scene.RpcMode.{RpcMode}
use Rattle.scene_model.specs.declared.scene.RpcMode.TheVariants as rpc
use Rattle.scene_model.specs.Valid.{IsValidScene, value_long}
use Rattle.session_text.specs.Json.{int_of, nat_of}
use Rattle.session_text.specs.Reasons.{class_name}
use Rattle.line_text.specs.Held.{held}
use Rattle.line_text.specs.WrittenLines.{cells, has_bytes, setting_data}
use Rattle.headless_tree.proofs.Numbered.{unnot}
use Rattle.line_laws.specs.Texts.{IsPlain, IsReadable}
use Rattle.line_laws.proofs.Texts.{reads_texts}
use Rattle.line_laws.proofs.Values.{each_readable, plain_values, short_plain, text_plain, word_utf8}
use Rattle.scene_lines.specs.Laws.{ReadsPrinted}
use Rattle.scene_lines.specs.Typed.{is_typed_prop, is_typed_sets, is_typed_method, is_typed_sync_prop, is_typed_sync, is_typed_custom, is_typed_spawner, is_typed_role, is_typed_node, is_typed_def, IsTyped}
use Rattle.scene_lines.specs.Written.{custom_row, def_data, method_data, node_data, node_sync_data, object_of, repl_name, role_rows, rpc_name, scene_data, scene_sync_data, sets_row, spawner_data, sync_prop_data}
use Rattle.scene_lines.proofs.Entries.{is_right_node, reads_scenes, short_def, short_defs, short_node, short_nodes}
use Rattle.scene_lines.proofs.Parts.{both, is_right_prop, right_props}

-- ---- parts

nat_plain : (high n : ℕ) → high ≤ 4294967295 → nat_le n high ≡ true → IsPlain (nat_of n)
nat_plain high n small h = omega (arith, small, leb-true n high h)

class_plain : (c : Class) → IsPlain (string (class_name c))
class_plain class.Unreliable = word_utf8 (codes "unreliable") refl
class_plain class.Ordered = word_utf8 (codes "ordered") refl
class_plain class.Reliable = word_utf8 (codes "reliable") refl

repl_plain : (m : ReplMode) → IsPlain (string (repl_name m))
repl_plain repl.Never = word_utf8 (codes "never") refl
repl_plain repl.Always = word_utf8 (codes "always") refl
repl_plain repl.OnChange = word_utf8 (codes "change") refl

rpc_plain : (m : RpcMode) → IsPlain (string (rpc_name m))
rpc_plain rpc.Disabled = word_utf8 (codes "disabled") refl
rpc_plain rpc.AnyPeer = word_utf8 (codes "any") refl
rpc_plain rpc.Authority = word_utf8 (codes "authority") refl

text_readable : (t : List ℕ) → is_text t ≡ true → IsReadable 0 (string t)
text_readable t h = (text_plain t h, omega arith)

texts_readable : (ts : List (List ℕ)) → list_all is_text ts ≡ true → IsReadable 1 (cells (map string ts))
texts_readable ts h = let r = each_readable string 0 is_text text_readable ts h in (r.0, omega (arith, r.1))

-- ---- properties

prop_readable : (p : Prop) → is_right_prop p ≡ true → IsReadable 100 (setting_data p)
prop_readable p h =
    let a = and_parts (is_typed_prop p) (is_sound p.value) h in
    let b = and_parts (is_text p.name) (has_bytes p.value) a.0 in
    let v = plain_values p.value a.1 in
    ((text_plain p.name b.0, (v.0, tt)), omega (arith, v.1))

props_readable : (ps : List Prop) → list_all is_typed_prop ps ≡ true → not (list_any value_long ps) ≡ true → IsReadable 101 (cells (map setting_data ps))
props_readable ps typed short = let r = each_readable setting_data 100 is_right_prop prop_readable ps (right_props ps typed (unnot (list_any value_long ps) short)) in (r.0, omega (arith, r.1))

-- ---- methods

sets_readable : (s : Sets) → is_typed_sets s ≡ true → IsReadable 1 (cells (string s.prop ∷ nat_of s.arg ∷ []))
sets_readable s h =
    let a = and_parts (is_text s.prop) (nat_le s.arg 255) h in
    ((text_plain s.prop a.0, (nat_plain 255 s.arg (omega arith) a.1, tt)), omega arith)

method_by : (m : Method) (sets : Option Sets) → is_text m.name ≡ true → nat_le m.args 255 ≡ true → list_all is_typed_sets (held sets) ≡ true
    → IsReadable 2 (method_data (record m { sets = sets }))
method_by m None h k l =
    ((refl, (word_utf8 (codes "args") refl, nat_plain 255 m.args (omega arith) k, (word_utf8 (codes "class") refl, class_plain m.class, (word_utf8 (codes "local") refl, tt, (word_utf8 (codes "mode") refl, rpc_plain m.mode, (word_utf8 (codes "name") refl, text_plain m.name h, tt)))))), omega arith)
method_by m (Some s) h k l =
    let r = sets_readable s (and_parts (is_typed_sets s) true l).0 in
    ((refl, (word_utf8 (codes "args") refl, nat_plain 255 m.args (omega arith) k, (word_utf8 (codes "class") refl, class_plain m.class, (word_utf8 (codes "local") refl, tt, (word_utf8 (codes "mode") refl, rpc_plain m.mode, (word_utf8 (codes "name") refl, text_plain m.name h, (word_utf8 (codes "sets") refl, r.0, tt))))))), omega (arith, r.1))

method_readable : (m : Method) → is_typed_method m ≡ true → IsReadable 2 (method_data m)
method_readable m h =
    let a = and_parts (is_text m.name) (nat_le m.args 255 && list_all is_typed_sets (held m.sets)) h in
    let b = and_parts (nat_le m.args 255) (list_all is_typed_sets (held m.sets)) a.1 in
    method_by m m.sets a.0 b.0 b.1

methods_readable : (ms : List Method) → list_all is_typed_method ms ≡ true → IsReadable 3 (cells (map method_data ms))
methods_readable ms h = let r = each_readable method_data 2 is_typed_method method_readable ms h in (r.0, omega (arith, r.1))

-- ---- synchronizers

sync_prop_readable : (p : SyncProp) → is_typed_sync_prop p ≡ true → IsReadable 1 (sync_prop_data p)
sync_prop_readable p h = ((text_plain p.prop h, (repl_plain p.mode, (tt, tt))), omega arith)

sync_props_readable : (ps : List SyncProp) → list_all is_typed_sync_prop ps ≡ true → IsReadable 2 (cells (map sync_prop_data ps))
sync_props_readable ps h = let r = each_readable sync_prop_data 1 is_typed_sync_prop sync_prop_readable ps h in (r.0, omega (arith, r.1))

node_sync_readable : (s : SyncDef) → is_typed_sync s ≡ true → IsReadable 3 (node_sync_data s)
node_sync_readable s h =
    let a = and_parts (is_text s.of) (list_all is_typed_sync_prop s.props) h in
    let r = sync_props_readable s.props a.1 in
    ((refl, (word_utf8 (codes "of") refl, text_plain s.of a.0, (word_utf8 (codes "props") refl, r.0, (word_utf8 (codes "public") refl, tt, tt)))), omega (arith, r.1))

scene_sync_readable : (s : SyncDef) → is_typed_sync s ≡ true → IsReadable 3 (scene_sync_data s)
scene_sync_readable s h =
    let a = and_parts (is_text s.of) (list_all is_typed_sync_prop s.props) h in
    let r = sync_props_readable s.props a.1 in
    ((refl, (word_utf8 (codes "props") refl, r.0, (word_utf8 (codes "public") refl, tt, tt))), omega (arith, r.1))

syncs_readable : (ss : List SyncDef) → list_all is_typed_sync ss ≡ true → IsReadable 4 (cells (map scene_sync_data ss))
syncs_readable ss h = let r = each_readable scene_sync_data 3 is_typed_sync scene_sync_readable ss h in (r.0, omega (arith, r.1))

-- ---- spawners

spawner_by : (s : SpawnerDef) (custom : Option CustomDef) → is_text s.under ≡ true → list_all is_text s.scenes ≡ true → nat_le s.limit 4294967295 ≡ true → list_all is_typed_custom (held custom) ≡ true
    → IsReadable 2 (spawner_data (record s { custom = custom }))
spawner_by s None h k l m =
    let r = texts_readable s.scenes k in
    ((refl, (word_utf8 (codes "limit") refl, nat_plain 4294967295 s.limit (omega arith) l, (word_utf8 (codes "scenes") refl, r.0, (word_utf8 (codes "under") refl, text_plain s.under h, tt)))), omega (arith, r.1))
spawner_by s (Some c) h k l m =
    let r = texts_readable s.scenes k in
    let a = and_parts (is_text c.scene) (is_text c.prop) (and_parts (is_typed_custom c) true m).0 in
    ((refl, (word_utf8 (codes "custom") refl, (text_plain c.scene a.0, (text_plain c.prop a.1, tt)), (word_utf8 (codes "limit") refl, nat_plain 4294967295 s.limit (omega arith) l, (word_utf8 (codes "scenes") refl, r.0, (word_utf8 (codes "under") refl, text_plain s.under h, tt))))), omega (arith, r.1))

spawner_readable : (s : SpawnerDef) → is_typed_spawner s ≡ true → IsReadable 2 (spawner_data s)
spawner_readable s h =
    let a = and_parts (is_text s.under) (list_all is_text s.scenes && (nat_le s.limit 4294967295 && list_all is_typed_custom (held s.custom))) h in
    let b = and_parts (list_all is_text s.scenes) (nat_le s.limit 4294967295 && list_all is_typed_custom (held s.custom)) a.1 in
    let c = and_parts (nat_le s.limit 4294967295) (list_all is_typed_custom (held s.custom)) b.1 in
    spawner_by s s.custom a.0 b.0 c.0 c.1

-- ---- nodes and scenes

node_by : (n : Node) (r : Role) → is_text n.path ≡ true → is_short n.auth ≡ true → list_all is_typed_prop n.props ≡ true → not (list_any value_long n.props) ≡ true → list_all is_typed_method n.methods ≡ true → is_typed_role r ≡ true
    → IsReadable 102 (node_data (record n { role = r }))
node_by n role.Plain h k l m o q =
    let ps = props_readable n.props l m in
    let ms = methods_readable n.methods o in
    ((refl, (word_utf8 (codes "auth") refl, short_plain n.auth k, (word_utf8 (codes "methods") refl, ms.0, (word_utf8 (codes "path") refl, text_plain n.path h, (word_utf8 (codes "props") refl, ps.0, tt))))), omega (arith, ps.1, ms.1))
node_by n (role.Spawner s) h k l m o q =
    let ps = props_readable n.props l m in
    let ms = methods_readable n.methods o in
    let r = spawner_readable s q in
    ((refl, (word_utf8 (codes "auth") refl, short_plain n.auth k, (word_utf8 (codes "methods") refl, ms.0, (word_utf8 (codes "path") refl, text_plain n.path h, (word_utf8 (codes "props") refl, ps.0, (word_utf8 (codes "spawner") refl, r.0, tt)))))), omega (arith, ps.1, ms.1, r.1))
node_by n (role.Sync s) h k l m o q =
    let ps = props_readable n.props l m in
    let ms = methods_readable n.methods o in
    let r = node_sync_readable s q in
    ((refl, (word_utf8 (codes "auth") refl, short_plain n.auth k, (word_utf8 (codes "methods") refl, ms.0, (word_utf8 (codes "path") refl, text_plain n.path h, (word_utf8 (codes "props") refl, ps.0, (word_utf8 (codes "sync") refl, r.0, tt)))))), omega (arith, ps.1, ms.1, r.1))

node_readable : (n : Node) → is_right_node n ≡ true → IsReadable 102 (node_data n)
node_readable n h =
    let a = and_parts (is_typed_node n) (short_node n) h in
    let b = and_parts (is_text n.path) _ a.0 in
    let c = and_parts (is_short n.auth) _ b.1 in
    let d = and_parts (list_all is_typed_prop n.props) _ c.1 in
    let e = and_parts (list_all is_typed_method n.methods) (is_typed_role n.role) d.1 in
    node_by n n.role b.0 c.0 d.0 a.1 e.0 e.1

-- whether a scene that can be spawned is as its types say, and its values short
abbrev is_printed_def : SceneDef → Bool
is_printed_def d = is_typed_def d && short_def d

def_readable : (d : SceneDef) → is_printed_def d ≡ true → IsReadable 102 (def_data d)
def_readable d h =
    let a = and_parts (is_typed_def d) (short_def d) h in
    let b = and_parts (is_text d.name) _ a.0 in
    let c = and_parts (list_all is_typed_prop d.props) _ b.1 in
    let e = and_parts (list_all is_typed_method d.methods) (list_all is_typed_sync d.syncs) c.1 in
    let ps = props_readable d.props c.0 a.1 in
    let ms = methods_readable d.methods e.0 in
    let ss = syncs_readable d.syncs e.1 in
    ((refl, (word_utf8 (codes "methods") refl, ms.0, (word_utf8 (codes "name") refl, text_plain d.name b.0, (word_utf8 (codes "props") refl, ps.0, (word_utf8 (codes "syncs") refl, ss.0, tt))))), omega (arith, ps.1, ms.1, ss.1))

-- ---- the whole

scene_readable : (s : Scene) → IsValidScene s → IsTyped s → IsReadable 104 (scene_data s)
scene_readable s v t =
    let ns = each_readable node_data 102 is_right_node node_readable s.nodes (both is_typed_node short_node s.nodes t.nodes (short_nodes s v)) in
    let ds = each_readable def_data 102 is_printed_def def_readable s.scenes (both is_typed_def short_def s.scenes t.scenes (short_defs s v)) in
    ((refl, (word_utf8 (codes "nodes") refl, ns.0, (word_utf8 (codes "scenes") refl, ds.0, tt))), omega (arith, ns.1, ds.1))

pub reads_printed : ReadsPrinted
reads_printed s v t =
    let r = scene_readable s v t in
    reads_scenes s _ v t (reads_texts (scene_data s) r.0 (omega (arith, r.1)))
