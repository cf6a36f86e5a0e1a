-- What passes the test may be entered.
use Rattle.std.proofs.Common.{◌≡◌, true, List, All, slice_index_or}
use Rattle.std.specs.List.{list_all}
use Rattle.std.proofs.lemmas.Bool.{and_parts}
use Rattle.std.proofs.lemmas.List.Sums.{AllPass-from_list_all}
use Rattle.scene_model.specs.declared.event.Event.{Event}
use Rattle.peer_steps.specs.Sound.{is_sound_event}
use Rattle.peer_steps.specs.Stands.{is_built_event}
use Rattle.shared_hub.specs.Peer.{MayEnter}
use Rattle.hub_callers.specs.Allowed.{is_allowed}

allowed_one : (e : Event) → is_allowed e ≡ true → MayEnter e
unfolding MayEnter
allowed_one e h = and_parts (is_built_event e) (is_sound_event e) h

pub all_allowed : (es : List Event) → list_all is_allowed es ≡ true → All MayEnter es
all_allowed es h = λ k d low. allowed_one (slice_index_or es k d) (AllPass-from_list_all is_allowed es h k d low)
