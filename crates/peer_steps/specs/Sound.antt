-- Values that come with an event are sound.
use Rattle.std.specs.Prelude.{Bool, true, ◌&&◌, List, Option, Some}
use Rattle.std.specs.List.{list_all}
use Rattle.gd_variant.specs.Sound.{is_sound}
use Rattle.gd_variant.specs.declared.message.DeltaEntry.{DeltaEntry}
use Rattle.gd_variant.specs.declared.message.Message.{Message}
use Rattle.scene_model.specs.declared.spawn.SpawnMsg.{SpawnMsg}
use Rattle.scene_model.specs.declared.scene.Prop.{Prop}
use Rattle.scene_model.specs.declared.event.Op.{Op}
use Rattle.scene_model.specs.declared.event.Op.TheVariants.{Spawn, Custom, Set}
use Rattle.peer_steps.specs.Arguments.{is_sound_argument}
use Rattle.scene_model.specs.declared.event.Event.{Event}
use Rattle.scene_model.specs.declared.event.Event.TheVariants.{Op as Operation}
use Rattle.peer_steps.specs.Steps.{RowNews, appears, changes, row_read}

-- whether the values of an operation are sound
abbrev pub is_sound_op : Op → Bool
is_sound_op (Spawn o) = list_all (λ (p : Prop). is_sound p.value) o.sets
is_sound_op (Custom o) = is_sound_argument o.arg
is_sound_op (Set path prop value) = is_sound value
is_sound_op op = true

-- the same of an event
abbrev pub is_sound_event : Event → Bool
is_sound_event (Operation op) = is_sound_op op
is_sound_event e = true

-- whether the values of a spawn are sound
abbrev pub is_sound_spawn : SpawnMsg → Bool
is_sound_spawn m = is_sound_argument m.arg && list_all is_sound m.values

-- whether the values of entries are sound
abbrev pub are_sound_entries : List DeltaEntry → Bool
are_sound_entries ts = list_all (λ (t : DeltaEntry). list_all is_sound t.values) ts

-- the same, where a row appears or values change
abbrev pub is_sound_read : Option RowNews → Bool
is_sound_read (Some (appears m)) = is_sound_spawn m
is_sound_read (Some (changes ts)) = are_sound_entries ts
is_sound_read n = true

-- whether the values of a message are sound, where it is a spawn or changes values
abbrev pub is_sound_message : Message → Bool
is_sound_message m = is_sound_read (row_read m)
