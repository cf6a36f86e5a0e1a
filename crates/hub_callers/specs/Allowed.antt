-- Which events may be entered, as a test.
use Rattle.std.specs.Prelude.{Bool, ◌&&◌}
use Rattle.scene_model.specs.declared.event.Event.{Event}
use Rattle.peer_steps.specs.Sound.{is_sound_event}
use Rattle.peer_steps.specs.Stands.{is_built_event}

abbrev pub is_allowed : Event → Bool
is_allowed e = is_built_event e && is_sound_event e
