-- A scene whose default values are known to be sound.
use Rattle.std.specs.Prelude.{◌≡◌, Bool, true}
use Rattle.std.specs.List.{list_all}
use Rattle.gd_variant.specs.Sound.{is_sound}
use Rattle.scene_model.specs.declared.scene.Node.{Node}
use Rattle.scene_model.specs.declared.scene.Prop.{Prop}
use Rattle.scene_model.specs.declared.scene.Scene.{Scene}
use Rattle.scene_model.specs.declared.scene.SceneDef.{SceneDef}

-- whether the default value of a property is sound
abbrev pub has_sound_value : Prop → Bool
has_sound_value p = is_sound p.value

-- the same of all properties of a node, and of a scene that can be spawned
abbrev pub node_is_sound : Node → Bool
node_is_sound n = list_all has_sound_value n.props

abbrev pub def_is_sound : SceneDef → Bool
def_is_sound d = list_all has_sound_value d.props

-- all default values of a scene are sound
pub record HasSoundDefaults (s : Scene) : Type 0 where
  pub nodes : list_all node_is_sound s.nodes ≡ true
  pub scenes : list_all def_is_sound s.scenes ≡ true
