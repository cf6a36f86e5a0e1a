-- What a peer answers to an event, by the events before it.
use Rattle.std.specs.Prelude.{ℕ, ℤ, Bool, true, false, not, ◌||◌, List, [], ◌∷◌, ◌++◌, map, filter, filter_map, flat_map, Option, Some, None, is_none, option_and_then, Ok, Err, nat_le, drop, if◌then◌else◌}
use Rattle.std.specs.Ordering.{int_eq}
use Rattle.gd_variant.specs.Words.{when, with_earlier, first_of}
use Rattle.gd_variant.specs.declared.value.Variant.{Variant}
use Rattle.gd_variant.specs.declared.message.Plain.{Plain}
use Rattle.gd_variant.specs.declared.message.Plain.TheVariants as packet
use Rattle.gd_variant.specs.declared.message.Message.{Message}
use Rattle.gd_variant.specs.declared.message.Message.TheVariants.{Plain as plain_packet, AddPeer, DelPeer, Relay}
use Rattle.gd_variant.specs.declared.message.Target.{Target}
use Rattle.gd_variant.specs.declared.message.Target.TheVariants.{Id, At}
use Rattle.gd_variant.specs.declared.message.Entry.{Entry}
use Rattle.scene_model.specs.declared.scene.Method.{Method}
use Rattle.scene_model.specs.declared.event.Class.{Class}
use Rattle.scene_model.specs.declared.event.Class.TheVariants.{Unreliable, Reliable}
use Rattle.scene_model.specs.declared.event.CallOp.{CallOp}
use Rattle.scene_model.specs.declared.event.Op.TheVariants.{Call, Raw}
use Rattle.scene_model.specs.declared.outcome.Run.{Run}
use Rattle.scene_model.specs.declared.outcome.RawGot.{RawGot}
use Rattle.scene_model.specs.declared.outcome.Skip.{Skip}
use Rattle.scene_model.specs.declared.outcome.SkipWhy.TheVariants.{NoSync, Stale}
use Rattle.scene_model.specs.declared.outcome.Refusal.{Refusal}
use Rattle.scene_model.specs.declared.outcome.Fault.{Fault}
use Rattle.scene_model.specs.Methods.{method_at, method_digest}
use Rattle.peer_model.specs.Heard.{Who, Heard, does, comes, goes, gets, is_server, server, Letter, letter_of, received_from}
use Rattle.peer_model.specs.Peers.{peers_up}
use Rattle.peer_model.specs.Names.{targets, path_id, path_meant, is_fixed, named_to, confirmed_by}
use Rattle.peer_model.specs.Values.{runs_here}
use Rattle.peer_model.specs.Updates.{Update, Hide, Show, Tell, Live, applied}
use Rattle.peer_model.specs.Changes.{changes, added, is_frame}
use Rattle.peer_model.specs.Ticks.{tick_of, sampled, wire, widen, greatest}
use Rattle.peer_model.specs.View.{view, node_at, live_methods, reach, samples_of, best_sample}
use Rattle.peer_model.specs.Refusals.{refusal_of, method_of, number_of}
use Rattle.peer_model.specs.Faults.{fault_of, sync_meant}

-- what is sent: a packet, or the inner bytes of a relay that the server passes on with the sender's number
pub data Sent : Type 0 where
  packet_sent : Message → Sent
  passed_on : ℤ → List ℕ → Sent

-- a packet on its way: the link, the peer that it is for, its class, the full tick of a sample, and what is sent
pub record Parcel : Type 0 where
  pub link : ℤ
  pub to : ℤ
  pub class : Class
  pub tick : Option ℕ
  pub sent : Sent

-- what an accepted event does
pub record Deeds : Type 0 where
  pub packets : List Parcel
  pub runs : List Run
  pub raws : List RawGot
  pub skips : List Skip

-- what is answered: it is done, or why not
pub data Reply : Type 0 where
  done : Deeds → Reply
  refused : Refusal → Reply
  fault : Fault → Reply

-- from or to the server a packet goes as it is; between clients it goes to the server in a relay
abbrev pub parcel : Who → ℤ → Class → Option ℕ → Plain → Parcel
parcel who to class tick p =
    if is_server who || int_eq to server then record { link = to; to = to; class = class; tick = tick; sent = packet_sent (plain_packet p) }
    else record { link = server; to = to; class = class; tick = tick; sent = packet_sent (Relay to p) }

-- a reliable packet to a peer
abbrev pub reliable : Who → ℤ → Plain → Parcel
reliable who to p = parcel who to Reliable None p

-- a call

-- a call travels in its method's class
abbrev pub method_class : Option Method → Class
method_class None = Reliable
method_class (Some m) = m.class

-- the digest of a node's methods
abbrev pub digest_at : Who → Option Live → List ℕ
digest_at who None = []
digest_at who (Some n) = method_digest (live_methods who n)

-- the packets of a call to one peer: by id where the path is fixed or the peer confirmed its id, else by path, the first time with a Simplify before it
abbrev pub call_packets : Who → List Heard → CallOp → Option ℕ → Class → (Target → Plain) → List ℕ → ℤ → List Parcel
call_packets who es c None class make digest b = parcel who b class None (make (At c.path)) ∷ []
call_packets who es c (Some id) class make digest b =
    if is_fixed who c.path || confirmed_by who es b id then parcel who b class None (make (Id id)) ∷ []
    else if named_to who es b id then parcel who b class None (make (At c.path)) ∷ []
    else reliable who b (packet.Simplify digest id c.path) ∷ parcel who b class None (make (At c.path)) ∷ []

-- a call's packet for a target, where this node stands at its path
abbrev pub call_to : Who → CallOp → Option Live → Target → Plain
call_to who c n target = packet.Call target (number_of who n c.method) c.args

-- the packets of a call to each of its targets
abbrev pub call_sends_at : Who → Heard → List Heard → CallOp → Option Live → List Parcel
call_sends_at who e es c n = flat_map
    (call_packets who es c (path_id who (e ∷ es) c.path) (method_class (method_of who n c.method)) (call_to who c n) (digest_at who n))
    (targets who es c.to)

-- the packets of a call, by the node at its path
abbrev pub call_sends : Who → Heard → List Heard → CallOp → List Parcel
call_sends who e es c = call_sends_at who e es c (node_at who es c.path)

-- links and the news of them

-- a system packet from the server
abbrev pub news : ℤ → Message → Parcel
news to m = record { link = to; to = to; class = Reliable; tick = None; sent = packet_sent m }

-- the peers that are up, but one
abbrev pub others_up : List Heard → ℤ → List ℤ
others_up es b = filter (λ c. not (int_eq c b)) (peers_up es)

-- the server tells the other clients of a new one, and the new one of them
abbrev pub up_sends : Who → List Heard → ℤ → List Parcel
up_sends who es b = if is_server who then map (λ c. news c (AddPeer b)) (others_up es b) ++ map (λ c. news b (AddPeer c)) (others_up es b) else []

-- the server tells the other clients of one that went down
abbrev pub down_sends : Who → List Heard → ℤ → List Parcel
down_sends who es b = if is_server who then map (λ c. news c (DelPeer b)) (others_up es b) else []

-- a relay's head: its two command bytes and the peer's number
abbrev pub relay_head : ℕ
relay_head = 6

-- a relay on its way from its sender to its target, in the class in which it came
abbrev pub pass_on : ℤ → ℤ → Class → List ℕ → Parcel
pass_on from to class bytes = record { link = to; to = to; class = class; tick = None; sent = passed_on from (drop relay_head bytes) }

-- what a received packet has sent: a Confirm for a name, and a relay at the server on its way
abbrev pub message_sends : Who → ℤ → Class → List ℕ → Message → List Parcel
message_sends who from class bytes (plain_packet (packet.Simplify digest id path)) = reliable who from (packet.Confirm true id) ∷ []
message_sends who from class bytes (Relay peer p) = if is_server who then pass_on from peer class bytes ∷ [] else confirm_of p
  where
    confirm_of : Plain → List Parcel
    confirm_of (packet.Simplify digest id path) = reliable who peer (packet.Confirm true id) ∷ []
    confirm_of q = []
message_sends who from class bytes m = []

-- the packets of the event itself; the news of links, up_sends and down_sends, join them once system packets are built
abbrev pub own_sends : Who → Heard → List Heard → List Parcel
own_sends who (does (Call c)) es = call_sends who (does (Call c)) es c
own_sends who (does (Raw to class bytes)) es = map (λ b. parcel who b class None (packet.Raw bytes)) (targets who es to)
own_sends who (does op) es = []
own_sends who (comes b) es = []
own_sends who (goes b) es = []
own_sends who (gets from class bytes (Ok m)) es = message_sends who from class bytes m
own_sends who (gets from class bytes (Err bad)) es = []

-- the packets of changes and samples

-- the packet of an update
abbrev pub update_packet : Update → Plain
update_packet (Hide num) = packet.Despawn num
update_packet (Show m) = packet.Spawn m.scene m.spawner m.net m.syncs m.name m.arg m.values
update_packet (Tell t) = packet.Delta (t ∷ [])

-- the packets of what an event adds for a peer
abbrev pub change_sends : Who → Heard → List Heard → ℤ → List Parcel
change_sends who e es b = map (λ u. reliable who b (update_packet u)) (added who e es b (applied who.scene who.id (changes who es b)))

-- an unreliable packet with a tick's low bits
abbrev pub tick_packet : Who → ℤ → ℕ → List Entry → Parcel
tick_packet who b t entries = parcel who b Unreliable (Some t) (packet.Sync (wire t) entries)

-- one Sync packet for each sample with its full tick, or a bare tick
abbrev pub sample_sends : Who → ℤ → ℕ → List Entry → List Parcel
sample_sends who b t [] = tick_packet who b t [] ∷ []
sample_sends who b t (n ∷ ns) = map (λ m. tick_packet who b t (m ∷ [])) (n ∷ ns)

-- a frame's samples for a peer
abbrev pub frame_sends : Who → Heard → List Heard → ℤ → List Parcel
frame_sends who e es b = if is_frame e then sample_sends who b (tick_of (e ∷ es) b) (sampled who (e ∷ es) b) else []

-- what an event has sent to a peer: its changes; its samples, frame_sends, join them once loose packets are built
abbrev pub sends_to : Who → Heard → List Heard → ℤ → List Parcel
sends_to who e es b = change_sends who e es b

-- the packets of an accepted event: its own, then its changes for each peer that is up
abbrev pub sends : Who → Heard → List Heard → List Parcel
sends who e es = own_sends who e es ++ flat_map (sends_to who e es) (peers_up (e ∷ es))

-- runs, raws and skips

-- the run of a call at its caller
abbrev pub local_run : Who → CallOp → Option Method → List Run
local_run who c None = []
local_run who c (Some m) = if runs_here who c.to m then record { sender = who.id; path = c.path; method = c.method; args = c.args } ∷ [] else []

-- the run of a method
abbrev pub run_at : ℤ → List ℕ → List Variant → Option Method → List Run
run_at c path args None = []
run_at c path args (Some m) = record { sender = c; path = path; method = m.name; args = args } ∷ []

-- the run of a received call at the node that it is for
abbrev pub call_run : Who → List Heard → ℤ → ℕ → List Variant → Option (List ℕ) → List Run
call_run who es c number args None = []
call_run who es c number args (Some path) = run_at c path args (option_and_then (λ n. method_at (live_methods who n) number) (node_at who es path))

-- the run of a received packet, where it is a call
abbrev pub letter_runs : Who → List Heard → ℤ → Plain → List Run
letter_runs who es c (packet.Call target number args) = call_run who es c number args (path_meant who es c target)
letter_runs who es c p = []

-- what an accepted event runs here
abbrev pub runs : Who → Heard → List Heard → List Run
runs who (does (Call c)) es = local_run who c (method_of who (node_at who es c.path) c.method)
runs who e es = by_letter (letter_of who e)
  where
    by_letter : Option Letter → List Run
    by_letter None = []
    by_letter (Some l) = letter_runs who es l.sender l.packet

-- the raw packet that an event brings
abbrev pub raws : Who → Heard → List RawGot
raws who e = by_letter (letter_of who e)
  where
    raw_in : ℤ → Plain → List RawGot
    raw_in c (packet.Raw bytes) = record { sender = c; bytes = bytes } ∷ []
    raw_in c p = []

    by_letter : Option Letter → List RawGot
    by_letter None = []
    by_letter (Some l) = raw_in l.sender l.packet

-- whether a tick isn't above the greatest that a synchronizer took
abbrev pub is_stale : ℕ → Option (ℕ × List Variant) → Bool
is_stale t None = false
is_stale t (Some s) = nat_le t s.0

-- the best sample of a synchronizer so far, the entries of this packet that stand before included
abbrev pub best_before : Who → List Heard → ℤ → ℕ → List Entry → ℕ → Option (ℕ × List Variant)
best_before who es c w earlier id = best_sample (samples_of id (packet.Sync w earlier ∷ received_from who es c))

-- whether an entry's tick isn't above what its synchronizer took
abbrev pub is_late : Who → List Heard → ℤ → ℕ → List Entry → ℕ → Bool
is_late who es c w earlier id = is_stale (widen (greatest (reach who es c)) w) (best_before who es c w earlier id)

-- why an entry changes nothing: its synchronizer isn't there, or took a tick that is as great
abbrev pub skip_of : Who → List Heard → ℤ → ℕ → List Entry × Entry → Option Skip
skip_of who es c w (earlier, n) = first_of (
    when (is_none (sync_meant who n.id (view who es c).rows)) (record { sender = c; id = n.id; why = NoSync })
    ∷ when (is_late who es c w earlier n.id) (record { sender = c; id = n.id; why = Stale })
    ∷ [])

-- the entries of an accepted Sync that change nothing
abbrev pub skips : Who → Heard → List Heard → List Skip
skips who e es = by_letter (letter_of who e)
  where
    skips_in : ℤ → Plain → List Skip
    skips_in c (packet.Sync w entries) = filter_map (skip_of who es c w) (with_earlier [] entries)
    skips_in c p = []

    by_letter : Option Letter → List Skip
    by_letter None = []
    by_letter (Some l) = skips_in l.sender l.packet

-- all that an accepted event does
abbrev pub deeds : Who → Heard → List Heard → Deeds
deeds who e es = record { packets = sends who e es; runs = runs who e es; raws = raws who e; skips = skips who e es }

-- the refusal, else the fault, else what is done
abbrev pub decided : Who → List Heard → Heard → Option Refusal → Option Fault → Reply
decided who es e (Some r) f = refused r
decided who es e None (Some f) = fault f
decided who es e None None = done (deeds who e es)

-- what is answered to an event after these accepted ones
abbrev pub judge : Who → List Heard → Heard → Reply
judge who es e = decided who es e (refusal_of who es e) (fault_of who es e)

-- an event is kept where its answer is Done
abbrev pub keep_done : Heard → List Heard → Reply → List Heard
keep_done e es (done d) = e ∷ es
keep_done e es r = es

-- accepted events and one more, where its answer is Done
abbrev pub keep_next : Who → Heard → List Heard → List Heard
keep_next who e es = keep_done e es (judge who es e)

-- the events whose answer is Done
abbrev pub accepted : Who → List Heard → List Heard
accepted who [] = []
accepted who (e ∷ es) = keep_next who e (accepted who es)

-- the answer to an event after any events
abbrev pub reply : Who → List Heard → Heard → Reply
reply who es e = judge who (accepted who es) e
