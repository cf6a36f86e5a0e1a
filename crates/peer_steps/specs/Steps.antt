-- What a peer answers to an event, and what it keeps then.
use Rattle.std.specs.Prelude.{◌≡◌, ℕ, ℤ, Bool, true, false, List, [], ◌∷◌, ◌++◌, map, flat_map, Option, Some, None, Result, Ok, Err, if◌then◌else◌}
use Rattle.gd_variant.specs.Words.{or_else, has_int, first_of}
use Rattle.gd_variant.specs.declared.value.Variant.{Variant}
use Rattle.gd_variant.specs.declared.message.DeltaEntry.{DeltaEntry}
use Rattle.gd_variant.specs.declared.message.Plain.{Plain}
use Rattle.gd_variant.specs.declared.message.Plain.TheVariants as packet
use Rattle.gd_variant.specs.declared.message.Message.{Message}
use Rattle.gd_variant.specs.declared.message.Message.TheVariants.{Plain as plain_packet}
use Rattle.gd_variant.specs.declared.message.Bad.{Bad}
use Rattle.scene_model.specs.declared.scene.Scene.{Scene}
use Rattle.scene_model.specs.declared.spawn.SpawnMsg.{SpawnMsg}
use Rattle.scene_model.specs.declared.event.SpawnOp.{SpawnOp}
use Rattle.scene_model.specs.declared.event.Event.{Event}
use Rattle.scene_model.specs.declared.event.Event.TheVariants.{Op, Up, Down, Received}
use Rattle.scene_model.specs.declared.event.Op.{Op as Operation}
use Rattle.scene_model.specs.declared.event.Op.TheVariants.{Spawn, Custom, Despawn, Set, Public, For, Filter, Frame}
use Rattle.scene_model.specs.declared.event.Class.TheVariants.{Reliable}
use Rattle.scene_model.specs.declared.outcome.Outcome.{Outcome}
use Rattle.scene_model.specs.declared.outcome.Outcome.TheVariants.{Done, Refused, Fault}
use Rattle.scene_model.specs.declared.outcome.Out.{Out}
use Rattle.scene_model.specs.declared.outcome.Refusal.{Refusal}
use Rattle.scene_model.specs.declared.outcome.Refusal.TheVariants.{NotBuilt, BadPeer, NoPeer}
use Rattle.scene_model.specs.declared.outcome.Fault.{Fault as FaultOf}
use Rattle.scene_model.specs.declared.outcome.Fault.TheVariants as fault
use Rattle.scene_model.specs.Lookup.{fixed_path_id}
use Rattle.peer_model.specs.Rows.{syncs_at}
use Rattle.peer_model.specs.Updates.{Live, live_at, all_spawn_props}
use Rattle.peer_model.specs.Bytes.{PacketForm}
use Rattle.headless_tree.specs.Nodes.{TreeOf, without_rows}
use Rattle.peer_laws.specs.Shown.{values_in}
use Rattle.sight_laws.specs.Sights.{Sights, with_public, with_setting, with_filter, is_set_full, is_filter_full}
use Rattle.peer_steps.specs.declared.rows.SpawnedRow.{SpawnedRow}
use Rattle.peer_steps.specs.Sites.{own_made}
use Rattle.peer_steps.specs.Peers.{Peers, peer_comes, peer_goes}
use Rattle.peer_steps.specs.Track.{Track, Spawned, Despawned, Sighted, SightChange, own_spawn, own_despawn, own_sighted, shown_spawn, hidden_row, seen_by, shown_of, track_up, track_down, row_with, number_at, is_row}
use Rattle.delta_props.specs.Telling.{ToldValues, without_peer}
use Rattle.delta_props.specs.Taking.{delta_judged, delta_taken}
use Rattle.peer_steps.specs.Tellings.{told_up, shown_to_all, hidden_from_all, ids_with, told_shifts, frame_to}
use Rattle.peer_steps.specs.Kept.{Kept, kept_tree}
use Rattle.peer_steps.specs.Judged.{lacks_server, set_judged, set_nodes, link_judged}

-- an outcome, with what is kept then
pub record Taken : Type 0 where
  pub outcome : Outcome
  pub kept : Kept

-- nothing changes
abbrev pub unchanged : Kept → Outcome → Taken
unchanged k o = record { outcome = o; kept = k }

-- what an accepted event does: packets alone
abbrev pub done_with : List Out → Outcome
done_with packets = Done (record { packets = packets; runs = []; raws = []; skips = [] })

-- the packet that shows a row, with the values that stand in these nodes
abbrev pub row_packet : Scene → List Live → SpawnedRow → Plain
row_packet s nodes r = packet.Spawn r.byte (or_else (fixed_path_id s r.spawner) 0) r.num r.ids r.name r.arg (values_in nodes r.path (all_spawn_props (syncs_at s (Some r.place))))

-- a packet to a peer on its own link
abbrev pub sent_to : PacketForm → ℤ → Plain → Out
sent_to form b p = record { link = b; to = b; class = Reliable; tick = None; bytes = form.written_packet (plain_packet p) }

-- the packets that show to a new peer all rows that it may see
abbrev pub shows_to : PacketForm → Kept → ℤ → List Out
shows_to form k b = map (λ r. sent_to form b (row_packet k.who.scene k.nodes r)) (seen_by b k.track.rows k.track.sights.rows)

-- what is answered to a link that comes up
abbrev pub up_answer : PacketForm → Kept → ℤ → Option Refusal → Outcome
up_answer form k b (Some r) = Refused r
up_answer form k b None = done_with (shows_to form k b)

-- the own rows after a link came up, unless it is refused
abbrev pub track_came : Option Refusal → ℤ → Track → Track
track_came (Some r) b t = t
track_came None b t = track_up b t

-- what was told after it
abbrev pub told_came : Option Refusal → ℤ → Kept → ToldValues
told_came (Some r) b k = k.told
told_came None b k = told_up k.who k.nodes b (seen_by b k.track.rows k.track.sights.rows) k.told

-- a link that comes up, by what becomes of the peers
abbrev pub up_taken : PacketForm → Kept → ℤ → Option Refusal × Peers → Taken
up_taken form k b ps = record { outcome = up_answer form k b ps.0; kept = record k { peers = ps.1; track = track_came ps.0 b k.track; told = told_came ps.0 b k } }

-- what is answered to a link that goes down, by whether it was up
abbrev pub down_answer : Bool → Outcome
down_answer was_up = if was_up then done_with [] else Refused NoPeer

-- a link that goes down, by what becomes of the peers: the rows of its peer are gone, and nothing counts as told to it
abbrev pub down_taken : Kept → ℤ → Bool × Peers → Taken
down_taken k b ps = record {
  outcome = down_answer ps.0;
  kept = record k {
    peers = ps.1;
    nodes = if ps.0 then without_rows b k.nodes else k.nodes;
    track = if ps.0 then track_down b k.track else k.track;
    told = if ps.0 then without_peer b k.told else k.told;
  };
}

-- what is kept after a spawn
abbrev pub with_spawned : Kept → Spawned → Kept
with_spawned k s = record k { nodes = s.tree.nodes; track = s.track }

-- a row's packet for each peer to which the row is shown
abbrev pub shows_of : PacketForm → Kept → SpawnedRow → List Out
shows_of form k r = map (λ b. sent_to form b (row_packet k.who.scene k.nodes r)) (shown_of r.num k.track.sights)

-- what is answered to a spawn that makes this row
abbrev pub spawn_answer : PacketForm → Kept → SpawnedRow → Option Refusal → Outcome
spawn_answer form k row (Some r) = Refused r
spawn_answer form k row None = done_with (shows_of form k row)

-- the row that a spawn makes
abbrev pub row_made : Kept → SpawnOp → SpawnedRow
row_made k o = own_made k.who.id k.who.scene k.track.next o

-- what was told after a spawn that made this row
abbrev pub spawn_told : Kept → SpawnedRow → Option Refusal → ToldValues
spawn_told k row (Some r) = k.told
spawn_told k row None = shown_to_all k.who.scene k.nodes row (shown_of row.num k.track.sights) k.told

-- a spawn, by what becomes of the own rows and the nodes
abbrev pub spawn_taken : PacketForm → Kept → SpawnOp → Spawned → Taken
spawn_taken form k o s = record { outcome = spawn_answer form (with_spawned k s) (row_made k o) s.refused; kept = record (with_spawned k s) { told = spawn_told (with_spawned k s) (row_made k o) s.refused } }

-- a refusal, or packets
abbrev pub answer_by : Option Refusal → List Out → Outcome
answer_by (Some r) packets = Refused r
answer_by None packets = done_with packets

-- what is answered to an assignment
abbrev pub set_answer : Option Refusal → Outcome
set_answer (Some r) = Refused r
set_answer None = done_with []

-- an assignment
abbrev pub set_taken : Kept → List ℕ → List ℕ → Variant → Option Refusal → Taken
set_taken k path prop value r = record { outcome = set_answer r; kept = record k { nodes = set_nodes r path prop value k.nodes } }

-- what is answered to a despawn: the row goes at each peer to which it is shown
abbrev pub despawn_answer : PacketForm → Despawned → Outcome
despawn_answer form d = answer_by d.refused (map (λ b. sent_to form b (packet.Despawn d.num)) d.shown)

-- a despawn, by what becomes of the own rows and the nodes
abbrev pub despawn_taken : PacketForm → Kept → Despawned → Taken
despawn_taken form k d = record { outcome = despawn_answer form d; kept = record k { nodes = d.tree.nodes; track = d.track; told = hidden_from_all (ids_with d.num k.track.rows) d.shown k.told } }

-- public or not
abbrev pub public_change : Bool → SightChange
public_change on = record { change = with_public on; is_full = λ y. false }

-- set for a peer
abbrev pub for_change : ℤ → Bool → SightChange
for_change b on = record { change = with_setting b on; is_full = is_set_full b }

-- one filter more
abbrev pub filter_change : List ℤ → SightChange
filter_change peers = record { change = with_filter peers; is_full = is_filter_full }

-- what a peer is told of a row that it saw before or not, and sees then or not
abbrev pub shift_to : PacketForm → Plain → ℕ → ℤ → Bool → Bool → List Out
shift_to form shows num b true false = sent_to form b (packet.Despawn num) ∷ []
shift_to form shows num b false true = sent_to form b shows ∷ []
shift_to form shows num b true true = []
shift_to form shows num b false false = []

-- what the peers that are up are told of a row, by those to which it was shown before and is shown then
abbrev pub shifts : PacketForm → Plain → ℕ → List ℤ → List ℤ → List ℤ → List Out
shifts form shows num before after up = flat_map (λ b. shift_to form shows num b (has_int b before) (has_int b after)) up

-- what is told of an own row, by who sees the own rows then
abbrev pub row_shifts : PacketForm → Kept → Sights → Option SpawnedRow → List Out
row_shifts form k v None = []
row_shifts form k v (Some r) = shifts form (row_packet k.who.scene k.nodes r) r.num (shown_of r.num k.track.sights) (shown_of r.num v) k.peers.up

-- what is told after a setting at the node at a path: of a row alone
abbrev pub sight_shifts : PacketForm → Kept → List ℕ → Sights → List Out
sight_shifts form k path v = if is_row (live_at k.nodes path) then row_shifts form k v (row_with (number_at k.nodes path) k.track.rows) else []

-- what was told of an own row after a setting, by who sees the own rows then
abbrev pub row_told : Kept → Sights → Option SpawnedRow → ToldValues
row_told k v None = k.told
row_told k v (Some r) = told_shifts k.who.scene k.nodes r (shown_of r.num k.track.sights) (shown_of r.num v) k.peers.up k.told

-- what was told after a setting at the node at a path, unless it is refused
abbrev pub sight_told : Kept → List ℕ → Sights → Option Refusal → ToldValues
sight_told k path v (Some r) = k.told
sight_told k path v None = if is_row (live_at k.nodes path) then row_told k v (row_with (number_at k.nodes path) k.track.rows) else k.told

-- a setting of visibility, by what becomes of who sees the own rows
abbrev pub sight_taken : PacketForm → Kept → List ℕ → Sighted → Taken
sight_taken form k path s = record { outcome = answer_by s.refused (sight_shifts form k path s.track.sights); kept = record k { track = s.track; told = sight_told k path s.track.sights s.refused } }

-- the packets of entries, one each
abbrev pub entries_to : PacketForm → ℤ → List DeltaEntry → List Out
entries_to form b entries = map (λ e. sent_to form b (packet.Delta (e ∷ []))) entries

-- packets before others, and what was told
abbrev pub with_packets : List Out → List Out × ToldValues → List Out × ToldValues
with_packets packets r = (packets ++ r.0, r.1)

-- what a frame tells some peers in order, and what was told then
abbrev pub frame_told : PacketForm → Kept → List ℤ → ToldValues → List Out × ToldValues
frame_told form k [] t = ([], t)
frame_told form k (b ∷ bs) t =
    with_packets (entries_to form b (frame_to k.who.scene k.nodes k.track b t).0) (frame_told form k bs (frame_to k.who.scene k.nodes k.track b t).1)

-- a frame, by what it tells the peers that are up
abbrev pub frame_by : Kept → List Out × ToldValues → Taken
frame_by k r = record { outcome = done_with r.0; kept = record k { told = r.1 } }

-- a frame
abbrev pub frame_taken : PacketForm → Kept → Taken
frame_taken form k = frame_by k (frame_told form k k.peers.up k.told)

-- an operation; the others aren't built
abbrev pub op_taken : PacketForm → Kept → Operation → Taken
op_taken form k (Spawn o) = spawn_taken form k o (own_spawn k.who.id k.peers.up o k.track (kept_tree k))
op_taken form k (Custom o) = spawn_taken form k o (own_spawn k.who.id k.peers.up o k.track (kept_tree k))
op_taken form k (Despawn path) = despawn_taken form k (own_despawn k.who.id path k.track (kept_tree k))
op_taken form k (Public path n on) = sight_taken form k path (own_sighted k.who.id k.peers.up path n (public_change on) k.track (kept_tree k))
op_taken form k (For path n peer on) = sight_taken form k path (own_sighted k.who.id k.peers.up path n (for_change peer on) k.track (kept_tree k))
op_taken form k (Filter path n peers) = sight_taken form k path (own_sighted k.who.id k.peers.up path n (filter_change peers) k.track (kept_tree k))
op_taken form k (Set path prop value) = set_taken k path prop value (set_judged k.who k.nodes path prop value)
op_taken form k Frame = frame_taken form k
op_taken form k op = unchanged k (Refused NotBuilt)

-- what is answered to a received packet of a row or of values
abbrev pub shown_answer : Option FaultOf → Outcome
shown_answer (Some f) = Fault f
shown_answer None = done_with []

-- a received packet, by what becomes of the nodes
abbrev pub shown_taken : Kept → Option FaultOf × TreeOf → Taken
shown_taken k t = record { outcome = shown_answer t.0; kept = record k { nodes = t.1.nodes } }

-- what a message says of a row, or of values of some synchronizers
pub data RowNews : Type 0 where
  appears : SpawnMsg → RowNews
  disappears : ℕ → RowNews
  changes : List DeltaEntry → RowNews

-- the news of a row that a message is
abbrev pub row_read : Message → Option RowNews
row_read (plain_packet (packet.Spawn scene spawner net syncs name arg values)) = Some (appears (record { scene = scene; spawner = spawner; net = net; syncs = syncs; name = name; arg = arg; values = values }))
row_read (plain_packet (packet.Despawn net)) = Some (disappears net)
row_read (plain_packet (packet.Delta entries)) = Some (changes entries)
row_read m = None

-- why one of some received entries is a fault, the first
abbrev pub entries_judged : TreeOf → ℤ → List DeltaEntry → Option FaultOf
entries_judged tree c ts = first_of (map (delta_judged tree.scene tree.nodes c) ts)

-- the tree after entries in order
abbrev pub entries_put : ℤ → List DeltaEntry → TreeOf → TreeOf
entries_put c [] tree = tree
entries_put c (t ∷ ts) tree = entries_put c ts (delta_taken c t tree).1

-- the tree after received entries, by why one is a fault: a fault puts none of them
abbrev pub entries_tree : ℤ → List DeltaEntry → TreeOf → Option FaultOf → TreeOf
entries_tree c ts tree (Some f) = tree
entries_tree c ts tree None = entries_put c ts tree

-- received entries, by why one is a fault
abbrev pub entries_by : ℤ → List DeltaEntry → TreeOf → Option FaultOf → Option FaultOf × TreeOf
entries_by c ts tree f = (f, entries_tree c ts tree f)

-- entries that were received from a peer: why one is a fault, and the tree then
abbrev pub entries_taken : ℤ → List DeltaEntry → TreeOf → Option FaultOf × TreeOf
entries_taken c ts tree = entries_by c ts tree (entries_judged tree c ts)

-- a message from a link that is up
abbrev pub message_taken : Kept → ℤ → Option RowNews → Taken
message_taken k from None = unchanged k (Fault fault.NotBuilt)
message_taken k from (Some (appears m)) = shown_taken k (shown_spawn from m (kept_tree k))
message_taken k from (Some (disappears net)) = shown_taken k (hidden_row from net (kept_tree k))
message_taken k from (Some (changes ts)) = shown_taken k (entries_taken from ts (kept_tree k))

-- a message, by whether its link is up
abbrev pub linked_taken : Kept → ℤ → Message → Option FaultOf → Taken
linked_taken k from m (Some f) = unchanged k (Fault f)
linked_taken k from m None = message_taken k from (row_read m)

-- a received packet, by what it reads as
abbrev pub read_taken : Kept → ℤ → Result Message Bad → Taken
read_taken k from (Err bad) = unchanged k (Fault (fault.Malformed bad.at bad.why))
read_taken k from (Ok m) = linked_taken k from m (link_judged k.peers from)

-- a link that comes up; a client's only link is to the server
abbrev pub link_taken : PacketForm → Kept → ℤ → Taken
link_taken form k b = if lacks_server k.peers.me b then unchanged k (Refused BadPeer) else up_taken form k b (peer_comes b k.peers)

-- any event
abbrev pub taken : PacketForm → Kept → Event → Taken
taken form k (Up b) = link_taken form k b
taken form k (Down b) = down_taken k b (peer_goes b k.peers)
taken form k (Op op) = op_taken form k op
taken form k (Received from class bytes) = read_taken k from (form.read_packet bytes)

-- what is written for a packet is read as that packet
abbrev pub IsReadablePlain : PacketForm → Plain → Type 0
IsReadablePlain form p = form.read_packet (form.written_packet (plain_packet p)) ≡ Ok (plain_packet p)

-- whether an outcome is done
abbrev pub is_done : Outcome → Bool
is_done (Done effects) = true
is_done o = false
