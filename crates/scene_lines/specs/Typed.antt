-- What the types of a scene say: texts are UTF-8 without a zero byte, numbers are in their ranges, bytes are bytes.
use Rattle.std.specs.Prelude.{◌≡◌, Bool, true, ◌&&◌, [], nat_le}
use Rattle.std.specs.List.{list_all}
use Rattle.gd_variant.specs.Words.{text_eq}
use Rattle.gd_variant.specs.Sound.{is_text, is_short}
use Rattle.scene_model.specs.declared.scene.Scene.{Scene}
use Rattle.scene_model.specs.declared.scene.Node.{Node}
use Rattle.scene_model.specs.declared.scene.Role.{Role}
use Rattle.scene_model.specs.declared.scene.Role.TheVariants.{Plain, Spawner, Sync}
use Rattle.scene_model.specs.declared.scene.SpawnerDef.{SpawnerDef}
use Rattle.scene_model.specs.declared.scene.CustomDef.{CustomDef}
use Rattle.scene_model.specs.declared.scene.SyncDef.{SyncDef}
use Rattle.scene_model.specs.declared.scene.SyncProp.{SyncProp}
use Rattle.scene_model.specs.declared.scene.Method.{Method}
use Rattle.scene_model.specs.declared.scene.Sets.{Sets}
use Rattle.scene_model.specs.declared.scene.SceneDef.{SceneDef}
use Rattle.scene_model.specs.declared.scene.Prop.{Prop}
use Rattle.line_text.specs.Held.{held}
use Rattle.line_text.specs.WrittenLines.{has_bytes}

abbrev pub is_typed_prop : Prop → Bool
is_typed_prop p = is_text p.name && has_bytes p.value

abbrev pub is_typed_sets : Sets → Bool
is_typed_sets s = is_text s.prop && nat_le s.arg 255

abbrev pub is_typed_method : Method → Bool
is_typed_method m = is_text m.name && (nat_le m.args 255 && list_all is_typed_sets (held m.sets))

abbrev pub is_typed_sync_prop : SyncProp → Bool
is_typed_sync_prop p = is_text p.prop

abbrev pub is_typed_sync : SyncDef → Bool
is_typed_sync s = is_text s.of && list_all is_typed_sync_prop s.props

abbrev pub is_typed_custom : CustomDef → Bool
is_typed_custom c = is_text c.scene && is_text c.prop

abbrev pub is_typed_spawner : SpawnerDef → Bool
is_typed_spawner s = is_text s.under && (list_all is_text s.scenes && (nat_le s.limit 4294967295 && list_all is_typed_custom (held s.custom)))

abbrev pub is_typed_role : Role → Bool
is_typed_role Plain = true
is_typed_role (Spawner s) = is_typed_spawner s
is_typed_role (Sync s) = is_typed_sync s

abbrev pub is_typed_node : Node → Bool
is_typed_node n = is_text n.path && (is_short n.auth && (list_all is_typed_prop n.props && (list_all is_typed_method n.methods && is_typed_role n.role)))

abbrev pub is_typed_def : SceneDef → Bool
is_typed_def d = is_text d.name && (list_all is_typed_prop d.props && (list_all is_typed_method d.methods && list_all is_typed_sync d.syncs))

-- whether a synchronizer is of the spawned node, so that it names none
abbrev pub is_own : SyncDef → Bool
is_own s = text_eq s.of []

abbrev pub has_own_syncs : SceneDef → Bool
has_own_syncs d = list_all is_own d.syncs

-- a scene as its types say, in whose scenes no synchronizer names a node
pub record IsTyped (s : Scene) : Type 0 where
  pub nodes : list_all is_typed_node s.nodes ≡ true
  pub scenes : list_all is_typed_def s.scenes ≡ true
  pub own : list_all has_own_syncs s.scenes ≡ true
