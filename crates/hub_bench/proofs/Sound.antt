-- What may be entered: an assignment of a sound value; and what a peer takes then.
use Rattle.std.proofs.Common.{◌≡◌, ℕ, List, true, refl}
use Rattle.gd_variant.specs.Sound.{is_sound}
use Rattle.gd_variant.specs.declared.value.Variant.{Variant}
use Rattle.peer_steps.specs.Sound.{is_sound_event}
use Rattle.peer_steps.specs.Stands.{is_built_event}
use Rattle.scene_model.specs.declared.event.Event.{Event}
use Rattle.scene_model.specs.declared.event.Event.TheVariants.{Op}
use Rattle.scene_model.specs.declared.event.Op.TheVariants.{Set}
use Rattle.shared_hub.specs.Peer.{MayEnter}

pub may_set : (path prop : List ℕ) (v : Variant) → is_sound v ≡ true → MayEnter (Op (Set path prop v))
unfolding MayEnter
may_set path prop v h = (refl, h)

pub built : (e : Event) → MayEnter e → is_built_event e ≡ true
unfolding MayEnter
built e h = h.0

pub sound : (e : Event) → MayEnter e → is_sound_event e ≡ true
unfolding MayEnter
sound e h = h.1
