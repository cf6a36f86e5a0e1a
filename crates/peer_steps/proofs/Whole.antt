-- Any event: what is answered is what the definitions give, and what is kept then stands for the events with it.
use Rattle.std.proofs.Common.{◌≡◌, ℕ, ℤ, Bool, true, false, List, refl, Option, Some, None, Ok}
use Rattle.std.specs.Prelude.{if◌then◌else◌, Result, Err}
use Rattle.std.proofs.lemmas.Bool.{true≢false}
use Rattle.gd_variant.specs.Words.{has_int, some_is}
use Rattle.gd_variant.specs.declared.value.Variant.{Variant}
use Rattle.gd_variant.specs.declared.message.DeltaEntry.{DeltaEntry}
use Rattle.gd_variant.specs.declared.message.Message.{Message}
use Rattle.gd_variant.specs.declared.message.Bad.{Bad}
use Rattle.scene_model.specs.declared.spawn.SpawnMsg.{SpawnMsg}
use Rattle.scene_model.specs.declared.event.SpawnOp.{SpawnOp}
use Rattle.scene_model.specs.declared.event.Event.{Event}
use Rattle.scene_model.specs.declared.event.Event.TheVariants.{Op, Up, Down, Received}
use Rattle.scene_model.specs.declared.event.Op.{Op as Operation}
use Rattle.scene_model.specs.declared.event.Op.TheVariants.{Spawn, Custom, Despawn, Set, Public, For, Filter, Frame}
use Rattle.scene_model.specs.declared.outcome.Refusal.{Refusal}
use Rattle.scene_model.specs.declared.outcome.Refusal.TheVariants.{BadPeer}
use Rattle.scene_model.specs.declared.outcome.Outcome.TheVariants.{Refused}
use Rattle.scene_model.specs.declared.outcome.Fault.{Fault as FaultOf}
use Rattle.peer_model.specs.Updates.{live_at}
use Rattle.peer_model.specs.Bytes.{PacketForm}
use Rattle.peer_laws.specs.Built.{is_built_op}
use Rattle.peer_steps.specs.Kept.{Kept, kept_tree}
use Rattle.peer_steps.specs.Spawns.{spawn_judged, shown_judged}
use Rattle.peer_steps.specs.Peers.{comes_judged, peer_comes, peers_after, without_peer}
use Rattle.peer_steps.specs.Track.{SightChange, spawned_by, despawned_by, shown_by, hidden_by, own_sighted, sighted_by, sight_at, number_at}
use Rattle.peer_steps.specs.Judged.{lacks_server, set_judged, despawn_judged, sight_judged, hidden_judged, link_judged}
use Rattle.peer_steps.specs.Stands.{StandsFor, is_built_event}
use Rattle.peer_steps.specs.Steps.{RowNews, appears, disappears, changes, entries_by, entries_judged, unchanged, taken, up_answer, up_taken, link_taken, down_answer, down_taken, set_taken, spawn_taken, despawn_taken, sight_taken, op_taken, shown_taken, shown_answer, message_taken, linked_taken, read_taken, row_read, public_change, for_change, filter_change, is_done}
pub use Rattle.peer_steps.proofs.Accepted.{Right}
use Rattle.peer_steps.proofs.LinkSteps.{up_right, down_right}
use Rattle.peer_steps.proofs.OwnSteps.{set_right, spawn_right, custom_right, despawn_right}
use Rattle.peer_steps.proofs.SightSteps.{public_right, for_right, filter_right}
use Rattle.peer_steps.proofs.ReceivedSteps.{read_right}
use Rattle.peer_steps.proofs.FrameSteps.{frame_right}

op_right : (form : PacketForm) (k : Kept) (es : List Event) (op : Operation) → StandsFor form k es → is_built_op op ≡ true → Right form k es (Op op) (op_taken form k op)
op_right form k es (Spawn o) h built = spawn_right form k es o h built
op_right form k es (Custom o) h built = custom_right form k es o h built
op_right form k es (Despawn path) h built = despawn_right form k es path h
op_right form k es (Set path prop value) h built = set_right form k es path prop value h
op_right form k es (Public path n on) h built = public_right form k es path n on h
op_right form k es (For path n b on) h built = for_right form k es path n b on h
op_right form k es (Filter path n bs) h built = filter_right form k es path n bs h
op_right form k es Frame h built = frame_right form k es h
op_right form k es op h built = absurd (cc built)

-- any event that is built
pub taken_right : (form : PacketForm) (k : Kept) (es : List Event) (e : Event) → StandsFor form k es → is_built_event e ≡ true → Right form k es e (taken form k e)
taken_right form k es (Up b) h built = up_right form k es b h
taken_right form k es (Down b) h built = down_right form k es b h (has_int b k.peers.up) refl
taken_right form k es (Op op) h built = op_right form k es op h built
taken_right form k es (Received from class bytes) h built = read_right form k es from class bytes h (form.read_packet bytes) refl

-- an event that isn't done leaves what is kept

come_still : (form : PacketForm) (k : Kept) (b : ℤ) (o : Option Refusal) → is_done (up_answer form k b o) ≡ false → (up_taken form k b (o, peers_after o b k.peers)).kept ≡ k
come_still form k b (Some r) h = refl
come_still form k b None h = absurd (true≢false h)

up_still : (form : PacketForm) (k : Kept) (b : ℤ) → is_done (link_taken form k b).outcome ≡ false → (link_taken form k b).kept ≡ k
up_still form k b = by (lacks_server k.peers.me b)
  where
    by : (c : Bool) → is_done (if c then unchanged k (Refused BadPeer) else up_taken form k b (peer_comes b k.peers)).outcome ≡ false → (if c then unchanged k (Refused BadPeer) else up_taken form k b (peer_comes b k.peers)).kept ≡ k
    by true h = refl
    by false h = come_still form k b (comes_judged k.peers b) h

down_still : (k : Kept) (b : ℤ) (c : Bool) → is_done (down_answer c) ≡ false → (down_taken k b (c, if c then without_peer b k.peers else k.peers)).kept ≡ k
down_still k b true h = absurd (true≢false h)
down_still k b false h = refl

spawn_still : (form : PacketForm) (k : Kept) (o : SpawnOp) (r : Option Refusal) → is_done (spawn_taken form k o (spawned_by k.who.id k.peers.up o k.track (kept_tree k) r)).outcome ≡ false → (spawn_taken form k o (spawned_by k.who.id k.peers.up o k.track (kept_tree k) r)).kept ≡ k
spawn_still form k o (Some r) h = refl
spawn_still form k o None h = absurd (true≢false h)

despawn_still : (form : PacketForm) (k : Kept) (path : List ℕ) (r : Option Refusal) → is_done (despawn_taken form k (despawned_by path (number_at k.nodes path) k.track (kept_tree k) r)).outcome ≡ false → (despawn_taken form k (despawned_by path (number_at k.nodes path) k.track (kept_tree k) r)).kept ≡ k
despawn_still form k path (Some r) h = refl
despawn_still form k path None h = absurd (true≢false h)

sight_still : (form : PacketForm) (k : Kept) (path : List ℕ) (n : ℕ) (c : SightChange) → is_done (sight_taken form k path (own_sighted k.who.id k.peers.up path n c k.track (kept_tree k))).outcome ≡ false → (sight_taken form k path (own_sighted k.who.id k.peers.up path n c k.track (kept_tree k))).kept ≡ k
sight_still form k path n c = by (sight_judged k.who k.nodes path n (some_is c.is_full (sight_at k.track.sights (live_at k.nodes path) path n)))
  where
    by : (r : Option Refusal) → is_done (sight_taken form k path (sighted_by k.peers.up path n c k.track (kept_tree k) r)).outcome ≡ false → (sight_taken form k path (sighted_by k.peers.up path n c k.track (kept_tree k) r)).kept ≡ k
    by (Some r) h = refl
    by None h = absurd (true≢false h)

set_still : (k : Kept) (path prop : List ℕ) (value : Variant) (r : Option Refusal) → is_done (set_taken k path prop value r).outcome ≡ false → (set_taken k path prop value r).kept ≡ k
set_still k path prop value (Some r) h = refl
set_still k path prop value None h = absurd (true≢false h)

op_still : (form : PacketForm) (k : Kept) (op : Operation) → is_done (op_taken form k op).outcome ≡ false → (op_taken form k op).kept ≡ k
op_still form k (Spawn o) h = spawn_still form k o (spawn_judged k.who k.nodes k.track.rows k.track.next o) h
op_still form k (Custom o) h = spawn_still form k o (spawn_judged k.who k.nodes k.track.rows k.track.next o) h
op_still form k (Despawn path) h = despawn_still form k path (despawn_judged k.who k.nodes path) h
op_still form k (Set path prop value) h = set_still k path prop value (set_judged k.who k.nodes path prop value) h
op_still form k (Public path n on) h = sight_still form k path n (public_change on) h
op_still form k (For path n b on) h = sight_still form k path n (for_change b on) h
op_still form k (Filter path n bs) h = sight_still form k path n (filter_change bs) h
op_still form k Frame h = absurd (true≢false h)
op_still form k op h = refl

shown_still : (k : Kept) (from : ℤ) (s : SpawnMsg) (o : Option FaultOf) → is_done (shown_answer o) ≡ false → (shown_taken k (shown_by from s (kept_tree k) o)).kept ≡ k
shown_still k from s (Some f) h = refl
shown_still k from s None h = absurd (true≢false h)

hidden_still : (k : Kept) (from : ℤ) (net : ℕ) (o : Option FaultOf) → is_done (shown_answer o) ≡ false → (shown_taken k (hidden_by from net (kept_tree k) o)).kept ≡ k
hidden_still k from net (Some f) h = refl
hidden_still k from net None h = absurd (true≢false h)

changes_still : (k : Kept) (from : ℤ) (ts : List DeltaEntry) (o : Option FaultOf) → is_done (shown_answer o) ≡ false → (shown_taken k (entries_by from ts (kept_tree k) o)).kept ≡ k
changes_still k from ts (Some f) h = refl
changes_still k from ts None h = absurd (true≢false h)

message_still : (k : Kept) (from : ℤ) (x : Option RowNews) → is_done (message_taken k from x).outcome ≡ false → (message_taken k from x).kept ≡ k
message_still k from None h = refl
message_still k from (Some (appears s)) h = shown_still k from s (shown_judged k.who.scene k.nodes from s) h
message_still k from (Some (disappears net)) h = hidden_still k from net (hidden_judged k.nodes from net) h
message_still k from (Some (changes ts)) h = changes_still k from ts (entries_judged (kept_tree k) from ts) h

linked_still : (k : Kept) (from : ℤ) (m : Message) (o : Option FaultOf) → is_done (linked_taken k from m o).outcome ≡ false → (linked_taken k from m o).kept ≡ k
linked_still k from m (Some f) h = refl
linked_still k from m None h = message_still k from (row_read m) h

read_still : (k : Kept) (from : ℤ) (r : Result Message Bad) → is_done (read_taken k from r).outcome ≡ false → (read_taken k from r).kept ≡ k
read_still k from (Err bad) h = refl
read_still k from (Ok m) h = linked_still k from m (link_judged k.peers from) h

pub kept_still : (form : PacketForm) (k : Kept) (e : Event) → is_done (taken form k e).outcome ≡ false → (taken form k e).kept ≡ k
kept_still form k (Up b) h = up_still form k b h
kept_still form k (Down b) h = down_still k b (has_int b k.peers.up) h
kept_still form k (Op op) h = op_still form k op h
kept_still form k (Received from class bytes) h = read_still k from (form.read_packet bytes) h
