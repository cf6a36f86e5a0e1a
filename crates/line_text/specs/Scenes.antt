-- How a scene stands in a line.
use Rattle.std.specs.Prelude.{ℕ, pos, true, List, [], ◌∷◌, Option, Some, None, Result, Ok, Err, codes}
use Rattle.serde_json.specs.Data.{Data, Members}
use Rattle.serde_json.specs.Find.{get_member}
use Rattle.scene_model.specs.declared.scene.Scene.{Scene}
use Rattle.scene_model.specs.declared.scene.Node.{Node}
use Rattle.scene_model.specs.declared.scene.Role.{Role}
use Rattle.scene_model.specs.declared.scene.Role.TheVariants.{Plain, Spawner, Sync}
use Rattle.scene_model.specs.declared.scene.SpawnerDef.{SpawnerDef}
use Rattle.scene_model.specs.declared.scene.CustomDef.{CustomDef}
use Rattle.scene_model.specs.declared.scene.SyncDef.{SyncDef}
use Rattle.scene_model.specs.declared.scene.SyncProp.{SyncProp}
use Rattle.scene_model.specs.declared.scene.Method.{Method}
use Rattle.scene_model.specs.declared.scene.Sets.{Sets}
use Rattle.scene_model.specs.declared.scene.SceneDef.{SceneDef}
use Rattle.scene_model.specs.declared.scene.Prop.{Prop}
use Rattle.scene_model.specs.declared.scene.SceneBad.{SceneBad}
use Rattle.scene_model.specs.Valid.{scene_bad}
use Rattle.program_edge.specs.declared.status.LineWhy.{LineWhy}
use Rattle.program_edge.specs.declared.status.LineWhy.TheVariants.{Shape, Scene as SceneWrong}
use Rattle.line_text.specs.Reading.{Reading, ◌>>=◌}
use Rattle.line_text.specs.Lines.{line_data}
use Rattle.line_text.specs.Parts.{text_read, bool_read, nat_read, i32_read, two_read, three_read, list_read, object_read, needed, or_default}
use Rattle.line_text.specs.Words.{class_read, repl_read, rpc_read}
use Rattle.line_text.specs.Values.{value_read}

-- a property: its name and its first value
unfoldable pub prop_read : Reading Prop
prop_read d = do
  ds ← two_read d
  name ← text_read ds.0
  val ← value_read ds.1
  Ok (record { name = name; value = val })

-- what a method sets: a property, and the number of the argument
unfoldable pub sets_read : Reading (Option Sets)
sets_read d = do
  ds ← two_read d
  prop ← text_read ds.0
  arg ← nat_read 0 255 ds.1
  Ok (Some (record { prop = prop; arg = arg }))

abbrev pub method_keys : List (List ℕ)
method_keys = codes "name" ∷ codes "mode" ∷ codes "local" ∷ codes "class" ∷ codes "args" ∷ codes "sets" ∷ []

unfoldable pub method_read : Reading Method
method_read d = do
  ms ← object_read method_keys d
  name ← needed text_read (codes "name") ms
  mode ← needed rpc_read (codes "mode") ms
  local ← needed bool_read (codes "local") ms
  class ← needed class_read (codes "class") ms
  args ← needed (nat_read 0 255) (codes "args") ms
  sets ← or_default None sets_read (codes "sets") ms
  Ok (record { name = name; mode = mode; local = local; class = class; args = args; sets = sets })

-- a property of a synchronizer: its name, when it is told, and whether a spawn tells it
unfoldable pub sync_prop_read : Reading SyncProp
sync_prop_read d = do
  ds ← three_read d
  prop ← text_read ds.0
  mode ← repl_read ds.1
  spawn ← bool_read ds.2
  Ok (record { prop = prop; mode = mode; spawn = spawn })

-- a synchronizer of a node or, with an empty text, of a scene
unfoldable pub sync_of : List ℕ → Members → Result SyncDef LineWhy
sync_of target ms = do
  public ← or_default true bool_read (codes "public") ms
  props ← needed (list_read sync_prop_read) (codes "props") ms
  Ok (record { of = target; public = public; props = props })

abbrev pub node_sync_keys : List (List ℕ)
node_sync_keys = codes "of" ∷ codes "public" ∷ codes "props" ∷ []

-- a fixed synchronizer, which names the node that it is of
unfoldable pub node_sync_read : Reading SyncDef
node_sync_read d = do
  ms ← object_read node_sync_keys d
  target ← needed text_read (codes "of") ms
  sync_of target ms

abbrev pub scene_sync_keys : List (List ℕ)
scene_sync_keys = codes "public" ∷ codes "props" ∷ []

-- a synchronizer of a spawned node
unfoldable pub scene_sync_read : Reading SyncDef
scene_sync_read d = do
  ms ← object_read scene_sync_keys d
  sync_of [] ms

-- what a custom spawn makes: a node of a scene, whose property takes the argument
unfoldable pub custom_read : Reading (Option CustomDef)
custom_read d = do
  ds ← two_read d
  scene ← text_read ds.0
  prop ← text_read ds.1
  Ok (Some (record { scene = scene; prop = prop }))

abbrev pub spawner_keys : List (List ℕ)
spawner_keys = codes "under" ∷ codes "scenes" ∷ codes "limit" ∷ codes "custom" ∷ []

unfoldable pub spawner_read : Reading SpawnerDef
spawner_read d = do
  ms ← object_read spawner_keys d
  under ← needed text_read (codes "under") ms
  scenes ← needed (list_read text_read) (codes "scenes") ms
  limit ← or_default 0 (nat_read 0 4294967295) (codes "limit") ms
  custom ← or_default None custom_read (codes "custom") ms
  Ok (record { under = under; scenes = scenes; limit = limit; custom = custom })

-- what a node is by the values of `spawner` and `sync`, of which it has one at most
unfoldable pub role_by : Option Data → Option Data → Result Role LineWhy
role_by None None = Ok Plain
role_by (Some d) None = spawner_read d >>= λ s. Ok (Spawner s)
role_by None (Some d) = node_sync_read d >>= λ s. Ok (Sync s)
role_by (Some d) (Some e) = Err Shape

unfoldable pub role_read : Members → Result Role LineWhy
role_read ms = role_by (get_member (codes "spawner") ms) (get_member (codes "sync") ms)

abbrev pub node_keys : List (List ℕ)
node_keys = codes "path" ∷ codes "auth" ∷ codes "props" ∷ codes "methods" ∷ codes "spawner" ∷ codes "sync" ∷ []

-- a fixed node
unfoldable pub node_read : Reading Node
node_read d = do
  ms ← object_read node_keys d
  path ← needed text_read (codes "path") ms
  auth ← or_default (pos 1) i32_read (codes "auth") ms
  props ← or_default [] (list_read prop_read) (codes "props") ms
  methods ← or_default [] (list_read method_read) (codes "methods") ms
  role ← role_read ms
  Ok (record { path = path; auth = auth; props = props; methods = methods; role = role })

abbrev pub def_keys : List (List ℕ)
def_keys = codes "name" ∷ codes "props" ∷ codes "methods" ∷ codes "syncs" ∷ []

-- a scene that can be spawned
unfoldable pub def_read : Reading SceneDef
def_read d = do
  ms ← object_read def_keys d
  name ← needed text_read (codes "name") ms
  props ← needed (list_read prop_read) (codes "props") ms
  methods ← needed (list_read method_read) (codes "methods") ms
  syncs ← needed (list_read scene_sync_read) (codes "syncs") ms
  Ok (record { name = name; props = props; methods = methods; syncs = syncs })

abbrev pub scene_keys : List (List ℕ)
scene_keys = codes "nodes" ∷ codes "scenes" ∷ []

-- a scene, whether or not it is valid
unfoldable pub scene_read : Reading Scene
scene_read d = do
  ms ← object_read scene_keys d
  nodes ← needed (list_read node_read) (codes "nodes") ms
  scenes ← needed (list_read def_read) (codes "scenes") ms
  Ok (record { nodes = nodes; scenes = scenes })

-- a scene, where nothing is wrong with it
abbrev pub unless_bad : Option SceneBad → Scene → Result Scene LineWhy
unless_bad None s = Ok s
unless_bad (Some bad) s = Err (SceneWrong bad)

-- a scene that was read, judged
unfoldable pub valid_read : Reading Scene
valid_read d = do
  s ← scene_read d
  unless_bad (scene_bad s) s

-- the scene of a line, or the first thing wrong with it
unfoldable pub scene_line_read : List ℕ → Result Scene LineWhy
scene_line_read line = line_data line >>= valid_read
