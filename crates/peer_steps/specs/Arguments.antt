-- What a spawn may be given: a scene and settings, or an argument.
use Rattle.std.specs.Prelude.{Bool, true, ◌&&◌, ◌||◌, Option, Some, None, is_some, is_none}
use Rattle.gd_variant.specs.Sound.{is_sound}
use Rattle.gd_variant.specs.declared.value.Variant.{Variant}
use Rattle.scene_model.specs.declared.event.SpawnOp.{SpawnOp}
use Rattle.peer_laws.specs.Built.{is_empty}

-- whether an argument is sound, where there is one
abbrev pub is_sound_argument : Option Variant → Bool
is_sound_argument None = true
is_sound_argument (Some v) = is_sound v

-- whether a spawn by scene or a custom one has the parts of one: a scene and no argument, or no scene, no settings and an argument
abbrev pub is_right_spawn : SpawnOp → Bool
is_right_spawn o = (is_some o.scene && is_none o.arg) || (is_none o.scene && (is_empty o.sets && is_some o.arg))
