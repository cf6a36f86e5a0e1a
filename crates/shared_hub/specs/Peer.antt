-- A peer, as a hub runs it.
use Rattle.std.specs.Prelude.{◌≡◌, Bool, true, false, List, [], ◌∷◌, length, if◌then◌else◌}
use Rattle.scene_model.specs.declared.event.Event.{Event}
use Rattle.scene_model.specs.declared.event.Event.TheVariants as event
use Rattle.scene_model.specs.declared.outcome.Outcome.{Outcome}
use Rattle.scene_model.specs.declared.outcome.Outcome.TheVariants as outcome
use Rattle.scene_model.specs.declared.outcome.Out.{Out}
use Rattle.peer_model.specs.Heard.{Who}
use Rattle.peer_steps.specs.Kept.{Kept}
use Rattle.peer_steps.specs.Sound.{is_sound_event}
use Rattle.peer_steps.specs.Stands.{StandsFor, is_built_event, is_answered, built_answer}
use Rattle.peer_core.specs.Forms.{packet_form}
use Rattle.turn_hub.specs.Words.{Words}
use Rattle.shared_hub.specs.declared.machine.Kind.{Kind}
use Rattle.shared_hub.specs.Weight.{event_weight}

-- what of a peer no event changes
abbrev pub kind_of : Kept → Kind
kind_of p = record { id = p.who.id; scene = p.who.scene }

abbrev pub who_of : Kind → Who
who_of k = record { id = k.id; scene = k.scene }

-- the events, newest first, without packets of a kind that isn't built, which change nothing
abbrev pub answered : Who → List Event → List Event
answered who [] = []
answered who (e ∷ es) = if is_answered packet_form who (answered who es) e then e ∷ answered who es else answered who es

-- the answer to an event after these
unfoldable pub answer : Kind → List Event → Event → Outcome
answer k es e = built_answer packet_form (who_of k) (answered (who_of k) es) e

-- the packets of an outcome
abbrev pub sends : Outcome → List Out
sends (outcome.Done x) = x.packets
sends (outcome.Refused x) = []
sends (outcome.Fault x) = []

-- whether an event came over a link
abbrev pub is_received : Event → Bool
is_received (event.Op x) = false
is_received (event.Up x) = false
is_received (event.Down x) = false
is_received (event.Received from class bytes) = true

abbrev pub peer_words : Words Kind Event Outcome Out
peer_words = record { answer = answer; sends = sends; link = λ p. p.link; size = λ p. length p.bytes; weight = event_weight; is_received = is_received }

-- a peer stands for these events
unfoldable pub Stands : Kept → List Event → Type 0
Stands p es = StandsFor packet_form p (answered p.who es)

-- the event is built, and the values in an operation are sound
unfoldable pub MayEnter : Event → Type 0
MayEnter e = (is_built_event e ≡ true) × (is_sound_event e ≡ true)

-- a peer that stands for events is not spent
pub stands_live : (p : Kept) (es : List Event) → Stands p es → p.spent ≡ false
unfolding Stands
stands_live p es h = h.live
