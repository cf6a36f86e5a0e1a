-- Which events a peer stands for, and what it answers to any event.
use Rattle.std.specs.Prelude.{◌≡◌, Bool, true, false, List, map, reverse, if◌then◌else◌}
use Rattle.scene_model.specs.declared.event.Event.{Event}
use Rattle.scene_model.specs.declared.event.Event.TheVariants.{Op}
use Rattle.scene_model.specs.declared.outcome.Outcome.{Outcome}
use Rattle.scene_model.specs.declared.outcome.Outcome.TheVariants.{Fault}
use Rattle.scene_model.specs.declared.outcome.Fault.TheVariants as fault
use Rattle.scene_model.specs.Valid.{IsValidScene}
use Rattle.peer_model.specs.Heard.{Who, Heard}
use Rattle.peer_model.specs.Peers.{peers_come, peers_up}
use Rattle.peer_model.specs.Rows.{own_rows, next_number}
use Rattle.peer_model.specs.View.{tree_of}
use Rattle.peer_model.specs.Bytes.{PacketForm, heard_of, answer, accepted_events}
use Rattle.peer_laws.specs.Built.{AllAccepted, is_built_op, is_unbuilt}
use Rattle.scene_model.specs.Syncs.{fixed_syncers}
use Rattle.sight_laws.specs.Sights.{row_sight, fixed_sight}
use Rattle.telling_laws.specs.Telling.{IsTold}
use Rattle.peer_steps.specs.Rows.{kept_row}
use Rattle.peer_steps.specs.Kept.{Kept}

-- a peer that isn't spent has the parts that accepted events give
pub record HasParts (k : Kept) (es : List Heard) : Type 0 where
  pub live : k.spent ≡ false
  pub valid : IsValidScene k.who.scene
  pub accepted : AllAccepted k.who es
  pub me : k.peers.me ≡ k.who.id
  pub come : k.peers.come ≡ reverse (peers_come es)
  pub up : k.peers.up ≡ peers_up es
  pub nodes : k.nodes ≡ tree_of k.who es
  pub next : k.track.next ≡ next_number k.who es
  pub rows : k.track.rows ≡ map (kept_row k.who) (own_rows k.who es)
  pub seen : k.track.sights.rows ≡ map (row_sight k.who es) (own_rows k.who es)
  pub fixed : k.track.sights.fixed ≡ map (fixed_sight k.who es) (fixed_syncers k.who.scene k.who.id)
  pub told : IsTold k.who es k.told

-- a peer stands for a list of events where it has the parts of the accepted ones
abbrev pub StandsFor : PacketForm → Kept → List Event → Type 0
StandsFor form k es = HasParts k (accepted_events form k.who es)

-- an operation that is built
abbrev pub is_built_event : Event → Bool
is_built_event (Op op) = is_built_op op
is_built_event e = true

-- whether the definitions' answer is given: the event isn't a packet of a kind that isn't built
abbrev pub is_answered : PacketForm → Who → List Event → Event → Bool
is_answered form who es e = if is_unbuilt who (accepted_events form who es) (heard_of form e) then false else true

-- the answer of the definitions; a packet of a kind that isn't built is a fault
abbrev pub built_answer : PacketForm → Who → List Event → Event → Outcome
built_answer form who es e = if is_answered form who es e then answer form who es e else Fault fault.NotBuilt
