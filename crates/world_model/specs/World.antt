-- What a session consists of: the peers with their histories, and the packets on the links between them.
-- Histories are newest first, the parcels of a link oldest first. A parcel that isn't reliable is called loose.
use Rattle.std.specs.Prelude.{ℕ, zero, suc, ◌+◌, ℤ, pos, Bool, true, false, not, ◌&&◌, ◌||◌, List, [], ◌∷◌, map, filter, length, slice_get, sum_by, Option, None, nat_le}
use Rattle.std.specs.Ordering.{int_eq}
use Rattle.gd_variant.specs.Words.{has_int, some_is}
use Rattle.scene_model.specs.declared.scene.Scene.{Scene}
use Rattle.scene_model.specs.declared.event.Class.{Class}
use Rattle.scene_model.specs.declared.event.Class.TheVariants.{Unreliable, Ordered, Reliable}
use Rattle.scene_model.specs.declared.event.Event.{Event}
use Rattle.scene_model.specs.declared.outcome.Out.{Out}
use Rattle.peer_model.specs.Heard.{Who, Heard, server}
use Rattle.peer_model.specs.Answer.{Reply, done, judge}
use Rattle.peer_model.specs.Bytes.{PacketForm, heard_of}

-- what no peer reads of a packet: who made it and for whom, the full tick where it is a sample, the path of the operation where a call made it, and whether it was forged
pub record Tag : Type 0 where
  pub origin : ℤ
  pub target : ℤ
  pub tick : Option ℕ
  pub path : Option (List ℕ)
  pub forged : Bool

-- a packet as it lies on a link, with its tag
pub record Parcel : Type 0 where
  pub out : Out
  pub tag : Tag

-- one direction of a link: the reliable parcels ever sent there, and how many of them were delivered; the loose parcels ever sent there, and the index, from 1, of the last ordered one that was delivered, or 0
pub record Way : Type 0 where
  pub sent : List Parcel
  pub delivered : ℕ
  pub loose : List Parcel
  pub last : ℕ

-- an entry of a peer's history: an event, and the parcel that brought it, where one did
pub record Came : Type 0 where
  pub event : Event
  pub brought : Option Parcel

-- the clients that ever connected, those that went down and those that forged; the history of each peer; the way from each peer to each
pub record World : Type 0 where
  pub come : List ℤ
  pub gone : List ℤ
  pub wild : List ℤ
  pub history : ℤ → List Came
  pub way : ℤ → ℤ → Way

-- a way on which nothing was sent
abbrev pub no_way : Way
no_way = record { sent = []; delivered = 0; loose = []; last = 0 }

-- the world at the start: the server alone
abbrev pub start : World
start = record { come = []; gone = []; wild = []; history = λ p. []; way = λ a b. no_way }

-- a peer by its number, with the session's scene
abbrev pub peer_of : Scene → ℤ → Who
peer_of s p = record { id = p; scene = s }

-- whether a number is that of a client that connected and didn't go down
abbrev pub is_client : World → ℤ → Bool
is_client w p = has_int p w.come && not (has_int p w.gone)

-- whether a peer is in the world: the server is always
abbrev pub is_in : World → ℤ → Bool
is_in w p = int_eq p server || is_client w p

-- the clients that are in the world
abbrev pub clients : World → List ℤ
clients w = filter (λ p. not (has_int p w.gone)) w.come

-- the number of the next client: clients are numbered 2, 3, .. in the order of connection, and no number is used twice
abbrev pub client_number : World → ℕ
client_number w = 2 + length w.come

-- the next client, as peers are named
abbrev pub next_client : World → ℤ
next_client w = pos (client_number w)

-- the events of a peer, whatever it answered
abbrev pub events_at : World → ℤ → List Event
events_at w p = map (λ (c : Came). c.event) (w.history p)

-- entries as the definitions of a peer see them
abbrev pub heard_in : PacketForm → List Came → List Heard
heard_in form cs = map (λ (c : Came). heard_of form c.event) cs

-- an entry before others, where its answer is Done
abbrev pub keep_entry : Came → List Came → Reply → List Came
keep_entry c cs (done d) = c ∷ cs
keep_entry c cs r = cs

-- a history without the entries whose answer isn't Done
abbrev pub accepted_entries : PacketForm → Who → List Came → List Came
accepted_entries form who [] = []
accepted_entries form who (c ∷ cs) = keep_next_entry (accepted_entries form who cs)
  where
    keep_next_entry : List Came → List Came
    keep_next_entry kept = keep_entry c kept (judge who (heard_in form kept) (heard_of form c.event))

-- the entries that a peer accepted
abbrev pub accepted_history : PacketForm → Scene → World → ℤ → List Came
accepted_history form s w p = accepted_entries form (peer_of s p) (w.history p)

-- the events that a peer accepted
abbrev pub accepted_at : PacketForm → Scene → World → ℤ → List Heard
accepted_at form s w p = heard_in form (accepted_history form s w p)

-- parcels

-- whether a class is the reliable one
abbrev pub is_reliable : Class → Bool
is_reliable Reliable = true
is_reliable Unreliable = false
is_reliable Ordered = false

-- whether a class is the ordered one
abbrev pub is_ordered : Class → Bool
is_ordered Ordered = true
is_ordered Unreliable = false
is_ordered Reliable = false

-- whether an honest peer made a parcel for another
abbrev pub is_from_to : ℤ → ℤ → Parcel → Bool
is_from_to a b p = not p.tag.forged && int_eq p.tag.origin a && int_eq p.tag.target b

-- the next reliable parcel of a way, where one waits
abbrev pub next_of : Way → Option Parcel
next_of y = slice_get y.sent y.delivered

-- the loose parcel with an index, from 1
abbrev pub loose_at : Way → ℕ → Option Parcel
loose_at y zero = None
loose_at y (suc i) = slice_get y.loose i

-- the bytes in flight

-- the bytes of some parcels' packets
abbrev pub bytes_of : List Parcel → ℕ
bytes_of ps = sum_by (λ (p : Parcel). length p.out.bytes) ps

-- the bytes that were ever put on a way
abbrev pub way_bytes : Way → ℕ
way_bytes y = bytes_of y.sent + bytes_of y.loose

-- the bytes ever put in flight, also those on the links of clients that went; a packet counts once for each link on which it was put
abbrev pub bytes_in_flight : World → ℕ
bytes_in_flight w = sum_by (λ p. way_bytes (w.way server p) + way_bytes (w.way p server)) w.come

-- the most bytes that may ever be in flight
abbrev pub most_in_flight : ℕ
most_in_flight = 536870912

-- whether all that was ever put in flight is within that
abbrev pub has_room : World → Bool
has_room w = nat_le (bytes_in_flight w) most_in_flight
