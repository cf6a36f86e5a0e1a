-- How a scene is written. The keys of an object stand in rising order, as serde_json keeps them.
use Rattle.std.specs.Prelude.{ℕ, List, [], ◌∷◌, ◌++◌, map, codes}
use Rattle.serde_json.specs.Data.{Data, boolean, string, object, Members, no_members, member}
use Rattle.scene_model.specs.declared.scene.Scene.{Scene}
use Rattle.scene_model.specs.declared.scene.Node.{Node}
use Rattle.scene_model.specs.declared.scene.Role.{Role}
use Rattle.scene_model.specs.declared.scene.Role.TheVariants.{Plain, Spawner, Sync}
use Rattle.scene_model.specs.declared.scene.SpawnerDef.{SpawnerDef}
use Rattle.scene_model.specs.declared.scene.CustomDef.{CustomDef}
use Rattle.scene_model.specs.declared.scene.SyncDef.{SyncDef}
use Rattle.scene_model.specs.declared.scene.SyncProp.{SyncProp}
use Rattle.scene_model.specs.declared.scene.ReplMode.{ReplMode}
use Rattle.scene_model.specs.declared.scene.ReplMode.TheVariants.{Never, Always, OnChange}
use Rattle.scene_model.specs.declared.scene.RpcMode.{RpcMode}
use Rattle.scene_model.specs.declared.scene.RpcMode.TheVariants.{Disabled, AnyPeer, Authority}
use Rattle.scene_model.specs.declared.scene.Method.{Method}
use Rattle.scene_model.specs.declared.scene.Sets.{Sets}
use Rattle.scene_model.specs.declared.scene.SceneDef.{SceneDef}
use Rattle.session_text.specs.Json.{int_of, nat_of}
use Rattle.session_text.specs.Reasons.{class_name}
use Rattle.line_text.specs.Held.{held}
use Rattle.line_text.specs.WrittenLines.{cells, setting_data}

-- a key and its value
abbrev pub Row : Type 0
Row = List ℕ × Data

abbrev pub members_of : List Row → Members
members_of [] = no_members
members_of (row ∷ rows) = member row.0 row.1 (members_of rows)

-- an object with these keys
abbrev pub object_of : List Row → Data
object_of rows = object (members_of rows)

-- when a synchronizer tells a property
abbrev pub repl_name : ReplMode → List ℕ
repl_name Never = codes "never"
repl_name Always = codes "always"
repl_name OnChange = codes "change"

-- who may call a method
abbrev pub rpc_name : RpcMode → List ℕ
rpc_name Disabled = codes "disabled"
rpc_name AnyPeer = codes "any"
rpc_name Authority = codes "authority"

-- the property that a method sets, and the number of the argument
abbrev pub sets_row : Sets → Row
sets_row s = (codes "sets", cells (string s.prop ∷ nat_of s.arg ∷ []))

abbrev pub method_data : Method → Data
method_data m = object_of (
    (codes "args", nat_of m.args)
    ∷ (codes "class", string (class_name m.class))
    ∷ (codes "local", boolean m.local)
    ∷ (codes "mode", string (rpc_name m.mode))
    ∷ (codes "name", string m.name)
    ∷ map sets_row (held m.sets))

-- a property of a synchronizer
abbrev pub sync_prop_data : SyncProp → Data
sync_prop_data p = cells (string p.prop ∷ string (repl_name p.mode) ∷ boolean p.spawn ∷ [])

-- what synchronizers of nodes and of scenes have
abbrev pub sync_rows : SyncDef → List Row
sync_rows s = (codes "props", cells (map sync_prop_data s.props)) ∷ (codes "public", boolean s.public) ∷ []

-- a fixed synchronizer, which names the node that it is of
abbrev pub node_sync_data : SyncDef → Data
node_sync_data s = object_of ((codes "of", string s.of) ∷ sync_rows s)

-- a synchronizer of a spawned node
abbrev pub scene_sync_data : SyncDef → Data
scene_sync_data s = object_of (sync_rows s)

-- what a custom spawn makes
abbrev pub custom_row : CustomDef → Row
custom_row c = (codes "custom", cells (string c.scene ∷ string c.prop ∷ []))

abbrev pub spawner_data : SpawnerDef → Data
spawner_data s = object_of (map custom_row (held s.custom) ++
    (codes "limit", nat_of s.limit)
    ∷ (codes "scenes", cells (map string s.scenes))
    ∷ (codes "under", string s.under)
    ∷ [])

-- what makes a node a spawner or a synchronizer
abbrev pub role_rows : Role → List Row
role_rows Plain = []
role_rows (Spawner s) = (codes "spawner", spawner_data s) ∷ []
role_rows (Sync s) = (codes "sync", node_sync_data s) ∷ []

-- a fixed node
abbrev pub node_data : Node → Data
node_data n = object_of (
    (codes "auth", int_of n.auth)
    ∷ (codes "methods", cells (map method_data n.methods))
    ∷ (codes "path", string n.path)
    ∷ (codes "props", cells (map setting_data n.props))
    ∷ role_rows n.role)

-- a scene that can be spawned
abbrev pub def_data : SceneDef → Data
def_data d = object_of (
    (codes "methods", cells (map method_data d.methods))
    ∷ (codes "name", string d.name)
    ∷ (codes "props", cells (map setting_data d.props))
    ∷ (codes "syncs", cells (map scene_sync_data d.syncs))
    ∷ [])

-- a scene
abbrev pub scene_data : Scene → Data
scene_data s = object_of (
    (codes "nodes", cells (map node_data s.nodes))
    ∷ (codes "scenes", cells (map def_data s.scenes))
    ∷ [])
