-- What a session answers to the next line of a script.
use Rattle.std.specs.Prelude.{ℕ, ◌+◌, ℤ, Bool, true, false, not, ◌&&◌, ◌||◌, List, [], ◌∷◌, ◌++◌, length, Option, Some, None, is_none, nat_lt, nat_le}
use Rattle.std.specs.Ordering.{int_eq}
use Rattle.gd_variant.specs.Words.{has_int, when, first_of}
use Rattle.scene_model.specs.declared.scene.Scene.{Scene}
use Rattle.scene_model.specs.declared.event.Event.TheVariants as event
use Rattle.scene_model.specs.declared.outcome.Outcome.{Outcome}
use Rattle.scene_model.specs.declared.outcome.Outcome.TheVariants as outcome
use Rattle.scene_model.specs.declared.outcome.Effects.{Effects}
use Rattle.scene_model.specs.declared.outcome.Out.{Out}
use Rattle.scene_model.specs.declared.world.WorldEvent.{WorldEvent}
use Rattle.scene_model.specs.declared.world.WorldEvent.TheVariants.{Connect, Down, Op, Rel, Loose, Forge}
use Rattle.scene_model.specs.declared.world.WorldOutcome.{WorldOutcome}
use Rattle.scene_model.specs.declared.world.WorldOutcome.TheVariants as answers
use Rattle.scene_model.specs.declared.world.WorldNo.{WorldNo}
use Rattle.scene_model.specs.declared.world.WorldNo.TheVariants as refusal
use Rattle.scene_model.specs.declared.world.PeerStep.{PeerStep}
use Rattle.peer_model.specs.Heard.{server}
use Rattle.peer_model.specs.Ticks.{distance, greatest}
use Rattle.peer_model.specs.View.{reach}
use Rattle.peer_model.specs.Refusals.{most_clients}
use Rattle.peer_model.specs.Bytes.{PacketForm}
use Rattle.world_model.specs.World.{Parcel, Way, World, peer_of, is_in, clients, client_number, next_client, accepted_at, is_ordered, next_of, loose_at, has_room}
use Rattle.world_model.specs.Happens.{answer_at, link_up, forged_out, happens}

-- why a line is refused: the first row that holds

-- the greatest number that a client can be given
abbrev pub most_number : ℕ
most_number = 2147483647

-- whether no further client can connect: as many are there as may be, or the last number was given
abbrev pub is_full : World → Bool
is_full w = nat_le most_clients (length (clients w)) || nat_lt most_number (client_number w)

-- whether two peers have no link: they are the same, or neither is the server
abbrev pub has_no_link : ℤ → ℤ → Bool
has_no_link a b = int_eq a b || (not (int_eq a server) && not (int_eq b server))

-- the first rows of every delivery
abbrev pub link_rows : World → ℤ → ℤ → List (Option WorldNo)
link_rows w a b = when (not (is_in w a && is_in w b)) refusal.NoPeer ∷ when (has_no_link a b) refusal.NotLink ∷ []

-- the rows of a down and of a forge, which only a client meets
abbrev pub client_rows : World → ℤ → List (Option WorldNo)
client_rows w p = when (int_eq p server) refusal.Server ∷ when (not (is_in w p)) refusal.NoPeer ∷ []

-- whether a parcel is ordered and isn't later than the last ordered one that was delivered
abbrev pub is_out_of_order : Way → ℕ → Parcel → Bool
is_out_of_order y i p = is_ordered p.out.class && nat_le i y.last

-- the newest tick that a peer accepted from another, 0 before the first
abbrev pub newest_tick : PacketForm → Scene → World → ℤ → ℤ → ℕ
newest_tick form s w b a = greatest (reach (peer_of s b) (accepted_at form s w b) a)

-- the window: two ticks are in it where they are less than this apart
abbrev pub window : ℕ
window = 32767

-- whether a tick is within the window round the newest one
abbrev pub in_window : ℕ → ℕ → Bool
in_window newest t = nat_lt (distance newest t) window

-- the row of a tick that isn't within the window; a packet without a tick has none
abbrev pub window_row : ℕ → Option ℕ → Option WorldNo
window_row newest None = None
window_row newest (Some t) = when (not (in_window newest t)) (refusal.Window newest t)

-- whether a parcel is judged by the window: where it came to the peer that it is for, and its origin never forged
abbrev pub is_windowed : World → ℤ → Parcel → Bool
is_windowed w b p = int_eq p.tag.target b && not (has_int p.tag.origin w.wild)

-- the row of a parcel whose tick is outside the window
abbrev pub parcel_row : PacketForm → Scene → World → ℤ → Parcel → Option WorldNo
parcel_row form s w b p = if_windowed (is_windowed w b p)
  where
    if_windowed : Bool → Option WorldNo
    if_windowed true = window_row (newest_tick form s w b p.tag.origin) p.tag.tick
    if_windowed false = None

-- the rows of a loose delivery
abbrev pub loose_rows : PacketForm → Scene → World → ℤ → ℕ → Way → Option Parcel → List (Option WorldNo)
loose_rows form s w b i y None = Some refusal.NoSuchPacket ∷ []
loose_rows form s w b i y (Some p) = when (is_out_of_order y i p) refusal.OutOfOrder ∷ parcel_row form s w b p ∷ []

-- why a line is refused
abbrev pub refused_by : PacketForm → Scene → World → WorldEvent → Option WorldNo
refused_by form s w Connect = when (is_full w) refusal.PeersFull
refused_by form s w (Down p) = first_of (client_rows w p)
refused_by form s w (Op p op) = when (not (is_in w p)) refusal.NoPeer
refused_by form s w (Rel a b) = first_of (link_rows w a b ++ when (is_none (next_of (w.way a b))) refusal.NothingInFlight ∷ [])
refused_by form s w (Loose a b i) = first_of (link_rows w a b ++ loose_rows form s w b i (w.way a b) (loose_at (w.way a b) i))
refused_by form s w (Forge p class bytes) = first_of (client_rows w p)

-- what is answered to a line that isn't refused

-- what one peer did
abbrev pub step_of : ℤ → Effects → PeerStep
step_of p effects = record { peer = p; effects = effects }

-- the effects of an outcome, none where it isn't Done
abbrev pub effects_in : Outcome → Effects
effects_in (outcome.Done effects) = effects
effects_in o = record { packets = []; runs = []; raws = []; skips = [] }

-- to a connect: the new number, what the server does, then what the client does
abbrev pub connect_answer : PacketForm → Scene → World → WorldOutcome
connect_answer form s w = answers.Done (Some (next_client w)) (
    step_of server (effects_in (answer_at form s w server (event.Up (next_client w))))
    ∷ step_of (next_client w) (effects_in (answer_at form s (link_up form s w) (next_client w) (event.Up server)))
    ∷ [])

-- to an event of one peer
abbrev pub peer_answer : ℤ → Outcome → WorldOutcome
peer_answer p (outcome.Done effects) = answers.Done None (step_of p effects ∷ [])
peer_answer p (outcome.Refused r) = answers.OpRefused r
peer_answer p (outcome.Fault f) = answers.Fault p f

-- to the delivery of a parcel; without one the line is refused, and nothing is asked
abbrev pub delivery_answer : PacketForm → Scene → World → ℤ → ℤ → Option Parcel → WorldOutcome
delivery_answer form s w a b None = answers.Done None []
delivery_answer form s w a b (Some p) = peer_answer b (answer_at form s w b (event.Received a p.out.class p.out.bytes))

-- to a forge: the client sends that one packet
abbrev pub forge_answer : ℤ → Out → WorldOutcome
forge_answer p x = answers.Done None (step_of p (record { packets = x ∷ []; runs = []; raws = []; skips = [] }) ∷ [])

-- to any line
abbrev pub accepted_answer : PacketForm → Scene → World → WorldEvent → WorldOutcome
accepted_answer form s w Connect = connect_answer form s w
accepted_answer form s w (Down p) = peer_answer server (answer_at form s w server (event.Down p))
accepted_answer form s w (Op p op) = peer_answer p (answer_at form s w p (event.Op op))
accepted_answer form s w (Rel a b) = delivery_answer form s w a b (next_of (w.way a b))
accepted_answer form s w (Loose a b i) = delivery_answer form s w a b (loose_at (w.way a b) i)
accepted_answer form s w (Forge p class bytes) = forge_answer p (forged_out class bytes)

-- a refusal where there is one, else an answer
abbrev pub refused_or : Option WorldNo → WorldOutcome → WorldOutcome
refused_or (Some r) o = answers.Refused r
refused_or None o = o

-- what is answered to a line
abbrev pub world_answer : PacketForm → Scene → World → WorldEvent → WorldOutcome
world_answer form s w e = refused_or (refused_by form s w e) (accepted_answer form s w e)

-- whether a line counts as having happened by its answer: a fault does, a refusal doesn't
abbrev pub happened : WorldOutcome → Bool
happened (answers.Refused r) = false
happened (answers.OpRefused r) = false
happened o = true

-- whether a line that happens puts more in flight than there is room for; a run ends there
abbrev pub overflows : PacketForm → Scene → World → WorldEvent → Bool
overflows form s w e = happened (world_answer form s w e) && not (has_room (happens form s w e))
