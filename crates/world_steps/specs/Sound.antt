-- What is asked of the events of a script: they are built, and what they carry can be written.
use Rattle.std.specs.Prelude.{Bool, true, false, ◌&&◌}
use Rattle.std.specs.List.{list_all}
use Rattle.gd_variant.specs.Sound.{is_sound, is_text}
use Rattle.scene_model.specs.declared.scene.Prop.{Prop}
use Rattle.scene_model.specs.declared.event.Op.{Op as Operation}
use Rattle.scene_model.specs.declared.event.Op.TheVariants.{Spawn, Custom, Set}
use Rattle.scene_model.specs.declared.world.WorldEvent.{WorldEvent}
use Rattle.scene_model.specs.declared.world.WorldEvent.TheVariants.{Connect, Down, Op, Rel}
use Rattle.peer_laws.specs.Built.{is_built_op}
use Rattle.peer_steps.specs.Arguments.{is_sound_argument}
use Rattle.peer_steps.specs.Sound.{is_sound_op as has_sound_op}

-- an event that is built
abbrev pub is_built_event : WorldEvent → Bool
is_built_event Connect = true
is_built_event (Down p) = true
is_built_event (Op p op) = is_built_op op
is_built_event (Rel a b) = true
is_built_event e = false

-- whether a property's value is sound
abbrev pub has_sound : Prop → Bool
has_sound p = is_sound p.value

-- an operation that can be written: a name is a text, and values are sound
abbrev pub is_sound_op : Operation → Bool
is_sound_op (Spawn o) = is_text o.name && list_all has_sound o.sets
is_sound_op (Custom o) = is_text o.name && is_sound_argument o.arg
is_sound_op (Set path prop value) = is_sound value
is_sound_op op = true

-- the same of an event
abbrev pub is_sound_event : WorldEvent → Bool
is_sound_event (Op p op) = is_sound_op op
is_sound_event e = true

-- whether the name of a spawn is a text; each one is that its type holds
abbrev pub spawns_text : Operation → Bool
spawns_text (Spawn o) = is_text o.name
spawns_text (Custom o) = is_text o.name
spawns_text op = true

-- the same of an event
abbrev pub has_text_name : WorldEvent → Bool
has_text_name (Op p op) = spawns_text op
has_text_name e = true

-- whether the values of an event are sound
abbrev pub has_sound_values : WorldEvent → Bool
has_sound_values (Op p op) = has_sound_op op
has_sound_values e = true
