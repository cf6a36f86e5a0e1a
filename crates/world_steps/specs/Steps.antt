-- What a world keeps, and what each event makes of it.
use Rattle.std.specs.Prelude.{◌≡◌, ℕ, suc, ◌+◌, ℤ, pos, Bool, true, false, not, ◌&&◌, ◌||◌, List, [], ◌∷◌, ◌++◌, map, filter, length, min, slice_get, sum_by, Option, Some, None, is_some, option_map, option_and_then, nat_le, nat_lt, if◌then◌else◌}
use Rattle.std.specs.List.{slice_set}
use Rattle.std.specs.Ordering.{int_eq}
use Rattle.scene_model.specs.declared.scene.Scene.{Scene}
use Rattle.scene_model.specs.declared.event.Event.{Event}
use Rattle.scene_model.specs.declared.event.Event.TheVariants as event
use Rattle.scene_model.specs.declared.event.Op.{Op as Operation}
use Rattle.scene_model.specs.declared.outcome.Out.{Out}
use Rattle.scene_model.specs.declared.world.WorldEvent.{WorldEvent}
use Rattle.scene_model.specs.declared.world.WorldEvent.TheVariants.{Connect, Down, Op, Rel}
use Rattle.scene_model.specs.declared.world.WorldOutcome.{WorldOutcome}
use Rattle.scene_model.specs.declared.world.WorldOutcome.TheVariants as answers
use Rattle.scene_model.specs.declared.world.WorldNo.TheVariants as refusal
use Rattle.scene_model.specs.declared.report.Report.{Report}
use Rattle.peer_model.specs.Heard.{server}
use Rattle.peer_model.specs.View.{row_of}
use Rattle.peer_model.specs.Refusals.{most_clients}
use Rattle.peer_steps.specs.Kept.{Kept, new_peer}
use Rattle.peer_steps.specs.Steps.{Taken, taken, is_done}
use Rattle.peer_core.specs.Forms.{packet_form}
use Rattle.world_model.specs.World.{is_reliable, most_in_flight}
use Rattle.world_model.specs.Happens.{packets_in}
use Rattle.world_model.specs.Answers.{has_no_link, effects_in, step_of, peer_answer, most_number}

-- a client: its number, what it keeps, and what waits on both ways of its link, oldest first
pub record Client : Type 0 where
  pub number : ℤ
  pub kept : Kept
  pub down : List Out
  pub up : List Out

-- what contracts see of a world: whether it is spent, the server, how many clients ever connected, the bytes ever put in flight, and the clients that are there, by their numbers
pub record Parts : Type 0 where
  pub spent : Bool
  pub server : Kept
  pub come : ℕ
  pub put : ℕ
  pub clients : List Client

-- an answer, with what is kept then
pub record Made : Type 0 where
  pub outcome : WorldOutcome
  pub parts : Parts

-- the scene that all peers share
abbrev pub scene_of : Parts → Scene
scene_of v = v.server.who.scene

-- a world that isn't spent
abbrev pub live_parts : Kept → ℕ → ℕ → List Client → Parts
live_parts k come put cs = record { spent = false; server = k; come = come; put = put; clients = cs }

-- the number of the next client, by how many ever connected
abbrev pub number_after : ℕ → ℕ
number_after come = 2 + come

-- the place of the client with a number
abbrev pub place_of : ℤ → List Client → Option ℕ
place_of p [] = None
place_of p (c ∷ cs) = if int_eq c.number p then Some 0 else option_map suc (place_of p cs)

-- the client with a number
abbrev pub client_at : Parts → ℤ → Option Client
client_at v p = option_and_then (slice_get v.clients) (place_of p v.clients)

-- whether a peer is there
abbrev pub has_peer : Parts → ℤ → Bool
has_peer v p = int_eq p server || is_some (place_of p v.clients)

-- whether a packet goes on the way to a peer, where it waits: it is for that link, and reliable
abbrev pub waits_for : ℤ → Out → Bool
waits_for b x = int_eq x.link b && is_reliable x.class

-- the packets for the other end of a link, behind those that wait there
abbrev pub waiting_with : List Out → List Out → ℤ → List Out
waiting_with xs packets b = xs ++ filter (waits_for b) packets

-- the bytes of some packets
abbrev pub packet_bytes : List Out → ℕ
packet_bytes xs = sum_by (λ (x : Out). length x.bytes) xs

-- the bytes ever put in flight, with those of some packets; above the most that may be the count stands still
abbrev pub put_with : ℕ → List Out → ℕ
put_with put xs = if nat_lt most_in_flight put then put else min (put + packet_bytes xs) (most_in_flight + 1)

-- what waits before and after the next packet of a way is taken, if there is one
abbrev pub IsTaken : List Out → List Out → Option Out → Type 0
IsTaken old new None = (old ≡ []) × (new ≡ [])
IsTaken old new (Some x) = old ≡ x ∷ new

-- the server alone
abbrev pub first_parts : Scene → Parts
first_parts s = record { spent = false; server = new_peer s server; come = 0; put = 0; clients = [] }

-- a new client that sent these packets
abbrev pub new_client : ℤ → Kept → List Out → Client
new_client id k packets = record { number = id; kept = k; down = []; up = waiting_with [] packets server }

-- a client with the server's packets for it on its way
abbrev pub with_down : List Out → Client → Client
with_down packets c = record c { down = waiting_with c.down packets c.number }

-- clients with the server's packets for them on their ways
abbrev pub with_packets : List Out → List Client → List Client
with_packets packets cs = map (with_down packets) cs

-- the clients that are left after one went down, where the server took that
abbrev pub left_after : Bool → ℤ → List Client → List Client
left_after true p cs = filter (λ (c : Client). not (int_eq c.number p)) cs
left_after false p cs = cs

-- whether more was put in flight than there is room for
abbrev pub is_over : Made → Bool
is_over m = nat_lt most_in_flight m.parts.put

-- nothing changes
abbrev pub unchanged : Parts → WorldOutcome → Made
unchanged v o = record { outcome = o; parts = v }

-- no further client can connect
abbrev pub is_full : ℕ → List Client → Bool
is_full come cs = nat_le most_clients (length cs) || nat_lt most_number (number_after come)

-- a connect, by what both ends do
abbrev pub connect_with : Parts → ℤ → Taken → Taken → Made
connect_with v id s c = record {
  outcome = answers.Done (Some id) (step_of server (effects_in s.outcome) ∷ step_of id (effects_in c.outcome) ∷ []);
  parts = record v { server = s.kept; come = v.come + 1; put = put_with (put_with v.put (packets_in s.outcome)) (packets_in c.outcome); clients = with_packets (packets_in s.outcome) (v.clients ++ new_client id c.kept (packets_in c.outcome) ∷ []) };
}

-- the link to a client with this number comes up at the server, and the server's at the client
abbrev pub connect_as : Parts → ℤ → Made
connect_as v id = connect_with v id (taken packet_form v.server (event.Up id)) (taken packet_form (new_peer (scene_of v) id) (event.Up server))

-- a client connects, where there is room
abbrev pub connect_made : Parts → Made
connect_made v = if is_full v.come v.clients then unchanged v (answers.Refused refusal.PeersFull) else connect_as v (pos (number_after v.come))

-- an event at the server
abbrev pub server_with : Parts → Taken → Made
server_with v t = record { outcome = peer_answer server t.outcome; parts = record v { server = t.kept; put = put_with v.put (packets_in t.outcome); clients = with_packets (packets_in t.outcome) v.clients } }

-- the server takes an event
abbrev pub server_made : Parts → Event → Made
server_made v e = server_with v (taken packet_form v.server e)

-- a client goes down, as the server takes that: what waits on its link goes with it
abbrev pub down_with : Parts → ℤ → Taken → Made
down_with v p t = server_with (record v { clients = left_after (is_done t.outcome) p v.clients }) t

-- a client goes down, where it is there
abbrev pub down_made : Parts → ℤ → Made
down_made v p =
    if int_eq p server then unchanged v (answers.Refused refusal.Server)
    else if is_some (place_of p v.clients) then down_with v p (taken packet_form v.server (event.Down p))
    else unchanged v (answers.Refused refusal.NoPeer)

-- a world with another client at a place
abbrev pub with_client : Parts → ℕ → Client → Parts
with_client v i c = record v { clients = slice_set v.clients i c }

-- an event at the client at a place
abbrev pub client_with : Parts → ℕ → Client → Taken → Made
client_with v i c t = record { outcome = peer_answer c.number t.outcome; parts = with_client (record v { put = put_with v.put (packets_in t.outcome) }) i (record c { kept = t.kept; up = waiting_with c.up (packets_in t.outcome) server }) }

-- the client at a place takes an event
abbrev pub client_made : Parts → ℕ → Client → Event → Made
client_made v i c e = client_with v i c (taken packet_form c.kept e)

-- an operation of the client at a place, where there is one
abbrev pub client_does : Parts → ℕ → Operation → Option Client → Made
client_does v i op None = unchanged v (answers.Refused refusal.NoPeer)
client_does v i op (Some c) = client_made v i c (event.Op op)

-- an operation by the place of its peer among the clients
abbrev pub does_at : Parts → Operation → Option ℕ → Made
does_at v op None = unchanged v (answers.Refused refusal.NoPeer)
does_at v op (Some i) = client_does v i op (slice_get v.clients i)

-- an operation
abbrev pub op_made : Parts → ℤ → Operation → Made
op_made v p op = if int_eq p server then server_made v (event.Op op) else does_at v op (place_of p v.clients)

-- the next packet for the client at a place
abbrev pub deliver_down : Parts → ℕ → Client → List Out → Made
deliver_down v i c [] = unchanged v (answers.Refused refusal.NothingInFlight)
deliver_down v i c (x ∷ xs) = client_made v i (record c { down = xs }) (event.Received server x.class x.bytes)

-- the next packet from the client at a place
abbrev pub deliver_up : Parts → ℕ → Client → List Out → Made
deliver_up v i c [] = unchanged v (answers.Refused refusal.NothingInFlight)
deliver_up v i c (x ∷ xs) = server_made (with_client v i (record c { up = xs })) (event.Received c.number x.class x.bytes)

-- a delivery to or from a client, where there is one
abbrev pub delivers_of : Parts → Bool → ℕ → Option Client → Made
delivers_of v is_down i None = unchanged v (answers.Refused refusal.NoPeer)
delivers_of v is_down i (Some c) = if is_down then deliver_down v i c c.down else deliver_up v i c c.up

-- a delivery to or from the client at a place, where there is one
abbrev pub delivers_at : Parts → Bool → Option ℕ → Made
delivers_at v is_down None = unchanged v (answers.Refused refusal.NoPeer)
delivers_at v is_down (Some i) = delivers_of v is_down i (slice_get v.clients i)

-- a delivery: one end is the server
abbrev pub rel_made : Parts → ℤ → ℤ → Made
rel_made v a b =
    if not (has_peer v a && has_peer v b) then unchanged v (answers.Refused refusal.NoPeer)
    else if has_no_link a b then unchanged v (answers.Refused refusal.NotLink)
    else if int_eq a server then delivers_at v true (place_of b v.clients)
    else delivers_at v false (place_of a v.clients)

-- any event that is built
abbrev pub made : Parts → WorldEvent → Made
made v Connect = connect_made v
made v (Down p) = down_made v p
made v (Op p op) = op_made v p op
made v (Rel a b) = rel_made v a b
made v e = unchanged v (answers.Done None [])

-- what is kept of a peer, where it is there
abbrev pub kept_at : Parts → ℤ → Option Kept
kept_at v p = if int_eq p server then Some v.server else option_map (λ (c : Client). c.kept) (client_at v p)

-- what is reported of a peer, by what it keeps
abbrev pub kept_report : Kept → Report
kept_report k = record { peers = k.peers.up; rows = map row_of k.nodes }

-- whether a peer is spent
abbrev pub is_spent : Kept → Bool
is_spent k = k.spent
