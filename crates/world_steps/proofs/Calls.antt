-- What an event makes of a world, whatever it stands for: an event that doesn't happen leaves it as it is, and the scene stays; and what a world that stands for a script answers and reports.
use Rattle.std.proofs.Common.{◌≡◌, ℕ, ℤ, pos, Bool, true, false, not, ◌&&◌, ◌||◌, List, [], ◌∷◌, refl, sym, ap, ap₂, ◌∙◌, subst, is_some, Option, Some, None, Result, Ok, Err}
use Rattle.std.specs.Prelude.{slice_get, option_map, option_and_then, IfOk, ◌↔◌, if◌then◌else◌}
use Rattle.std.specs.List.{list_all}
use Rattle.std.specs.Ordering.{int_eq}
use Rattle.std.proofs.lemmas.Bool.{true≢false, and_from}
use Rattle.std.proofs.lemmas.List.{append-nil}
use Rattle.gd_variant.specs.Sound.{is_text}
use Rattle.gd_variant.specs.declared.message.Message.{Message}
use Rattle.gd_variant.specs.declared.message.Bad.{Bad}
use Rattle.scene_model.specs.declared.scene.Scene.{Scene}
use Rattle.scene_model.specs.declared.event.Class.{Class}
use Rattle.scene_model.specs.declared.event.Event.{Event}
use Rattle.scene_model.specs.declared.event.Event.TheVariants as event
use Rattle.scene_model.specs.declared.event.Op.{Op as Operation}
use Rattle.scene_model.specs.declared.event.Op.TheVariants.{Spawn, Custom, Despawn, Set, Public, For, Filter, Call, Raw, Frame}
use Rattle.scene_model.specs.declared.outcome.Out.{Out}
use Rattle.scene_model.specs.declared.outcome.Fault.{Fault as FaultOf}
use Rattle.scene_model.specs.declared.report.Report.{Report}
use Rattle.scene_model.specs.declared.world.WorldEvent.{WorldEvent}
use Rattle.scene_model.specs.declared.world.WorldEvent.TheVariants.{Connect, Down, Op, Rel, Loose, Forge}
use Rattle.scene_model.specs.declared.world.WorldOutcome.{WorldOutcome}
use Rattle.scene_model.specs.declared.world.WorldOutcome.TheVariants as answers
use Rattle.scene_model.specs.declared.world.WorldNo.TheVariants as refusal
use Rattle.scene_model.specs.Valid.{IsValidScene}
use Rattle.peer_model.specs.Heard.{Who, server}
use Rattle.peer_laws.proofs.Numbers.{int_is}
use Rattle.peer_steps.specs.Arguments.{is_sound_argument}
use Rattle.peer_steps.specs.Kept.{Kept, kept_tree}
use Rattle.peer_steps.specs.Track.{shown_spawn, hidden_row}
use Rattle.peer_steps.specs.Judged.{link_judged}
use Rattle.peer_steps.specs.Steps.{taken, shown_answer, RowNews, appears, disappears, changes, entries_taken, message_taken, linked_taken, read_taken, row_read}
use Rattle.peer_core.specs.Forms.{packet_form}
use Rattle.peer_steps.proofs.Whole.{kept_still}
use Rattle.peer_steps.proofs.Clauses.{same_who, start_stands as new_peer_stands}
use Rattle.world_model.specs.World.{World, is_in}
use Rattle.world_model.specs.Happens.{world}
use Rattle.world_model.specs.Answers.{has_no_link, peer_answer, world_answer, happened, overflows}
use Rattle.world_model.specs.Replicas.{is_joined, reported}
use Rattle.channel_laws.proofs.Links.{channels}
use Rattle.world_steps.specs.Sound.{has_sound, has_sound_values, has_text_name, is_built_event, is_sound_event}
use Rattle.world_steps.specs.Steps.{Parts, Made, Client, scene_of, first_parts, number_after, place_of, client_at, has_peer, put_with, waiting_with, with_packets, left_after, with_client as set_client, is_over, unchanged, is_full, connect_as, connect_made, server_made, down_with, down_made, client_made, client_does, does_at, op_made, deliver_down, deliver_up, delivers_of, delivers_at, rel_made, made, kept_at, kept_report, is_spent}
use Rattle.world_steps.specs.Scripts.{Happened, TellsValues}
use Rattle.world_steps.specs.Stands.{IsPeer, HasParts, StandsForScript, StepsAreRight}
use Rattle.world_steps.proofs.Lists.{set_same}
use Rattle.world_steps.proofs.Happenings.{runs}
use Rattle.world_steps.proofs.Places.{client_there}
use Rattle.world_steps.proofs.Places as places
use Rattle.world_steps.proofs.Reports.{kept_same, values_reported}
use Rattle.world_steps.proofs.Flights.{put_nothing}
use Rattle.world_steps.proofs.Answered.{RightAt, Before, not_happened}
use Rattle.world_steps.proofs.Steps.{step_right}

-- an event that doesn't happen

no_packets : (xs : List Out) (b : ℤ) → waiting_with xs [] b ≡ xs
no_packets xs b = append-nil xs

pub nothing_put : (cs : List Client) → with_packets [] cs ≡ cs
nothing_put [] = refl
nothing_put (c ∷ cs) = ap₂ (λ y ds. record c { down = y } ∷ ds) (no_packets c.down c.number) (nothing_put cs)

server_still : (v : Parts) (e : Event) → happened (server_made v e).outcome ≡ false → (server_made v e).parts ≡ v
server_still v e h =
    let t = taken packet_form v.server e in
    let no = not_happened server t.outcome h in
    ap₂ (λ k ps. record v { server = k; put = put_with v.put ps; clients = with_packets ps v.clients }) (kept_still packet_form v.server e no.0) no.1
    ∙ ap₂ (λ n cs. record v { put = n; clients = cs }) (put_nothing v.put) (nothing_put v.clients)

-- a down that the server doesn't take leaves all clients
down_with_still : (v : Parts) (p : ℤ) → happened (down_with v p (taken packet_form v.server (event.Down p))).outcome ≡ false → (down_with v p (taken packet_form v.server (event.Down p))).parts ≡ v
down_with_still v p h =
    ap (λ b. (server_made (record v { clients = left_after b p v.clients }) (event.Down p)).parts) (not_happened server (taken packet_form v.server (event.Down p)).outcome h).0
    ∙ server_still v (event.Down p) h

down_still : (v : Parts) (p : ℤ) → happened (down_made v p).outcome ≡ false → (down_made v p).parts ≡ v
down_still v p = by_rows (int_eq p server) (is_some (place_of p v.clients))
  where
    by_rows : (x y : Bool)
        → happened (if x then unchanged v (answers.Refused refusal.Server) else if y then down_with v p (taken packet_form v.server (event.Down p)) else unchanged v (answers.Refused refusal.NoPeer)).outcome ≡ false
        → (if x then unchanged v (answers.Refused refusal.Server) else if y then down_with v p (taken packet_form v.server (event.Down p)) else unchanged v (answers.Refused refusal.NoPeer)).parts ≡ v
    by_rows true y h = refl
    by_rows false true h = down_with_still v p h
    by_rows false false h = refl

client_still : (v : Parts) (i : ℕ) (c : Client) (e : Event) → slice_get v.clients i ≡ Some c → happened (client_made v i c e).outcome ≡ false → (client_made v i c e).parts ≡ v
client_still v i c e at h =
    let t = taken packet_form c.kept e in
    let no = not_happened c.number t.outcome h in
    ap₂ (λ k ps. set_client (record v { put = put_with v.put ps }) i (record c { kept = k; up = waiting_with c.up ps server })) (kept_still packet_form c.kept e no.0) no.1
    ∙ ap₂ (λ n y. set_client (record v { put = n }) i (record c { up = y })) (put_nothing v.put) (no_packets c.up server)
    ∙ ap (λ cs. record v { clients = cs }) (set_same v.clients i c at)

does_still : (v : Parts) (op : Operation) (o : Option ℕ) → happened (does_at v op o).outcome ≡ false → (does_at v op o).parts ≡ v
does_still v op None h = refl
does_still v op (Some i) h = by_client (slice_get v.clients i) refl h
  where
    by_client : (o : Option Client) → slice_get v.clients i ≡ o → happened (client_does v i op o).outcome ≡ false → (client_does v i op o).parts ≡ v
    by_client None at k = refl
    by_client (Some c) at k = client_still v i c (event.Op op) at k

op_still : (v : Parts) (p : ℤ) (op : Operation) → happened (op_made v p op).outcome ≡ false → (op_made v p op).parts ≡ v
op_still v p op = by_server (int_eq p server)
  where
    by_server : (b : Bool) → happened (if b then server_made v (event.Op op) else does_at v op (place_of p v.clients)).outcome ≡ false → (if b then server_made v (event.Op op) else does_at v op (place_of p v.clients)).parts ≡ v
    by_server true h = server_still v (event.Op op) h
    by_server false h = does_still v op (place_of p v.clients) h

connect_still : (v : Parts) → happened (connect_made v).outcome ≡ false → (connect_made v).parts ≡ v
connect_still v = by_room (is_full v.come v.clients)
  where
    done : Made
    done = connect_as v (pos (number_after v.come))

    by_room : (b : Bool) → happened (if b then unchanged v (answers.Refused refusal.PeersFull) else done).outcome ≡ false → (if b then unchanged v (answers.Refused refusal.PeersFull) else done).parts ≡ v
    by_room true h = refl
    by_room false h = absurd (true≢false h)

-- a received packet is never refused

shown_happens : (p : ℤ) (o : Option FaultOf) → happened (peer_answer p (shown_answer o)) ≡ true
shown_happens p (Some f) = refl
shown_happens p None = refl

message_happens : (k : Kept) (from p : ℤ) (n : Option RowNews) → happened (peer_answer p (message_taken k from n).outcome) ≡ true
message_happens k from p None = refl
message_happens k from p (Some (appears m)) = shown_happens p (shown_spawn from m (kept_tree k)).0
message_happens k from p (Some (disappears net)) = shown_happens p (hidden_row from net (kept_tree k)).0
message_happens k from p (Some (changes ts)) = shown_happens p (entries_taken from ts (kept_tree k)).0

linked_happens : (k : Kept) (from p : ℤ) (m : Message) (o : Option FaultOf) → happened (peer_answer p (linked_taken k from m o).outcome) ≡ true
linked_happens k from p m (Some f) = refl
linked_happens k from p m None = message_happens k from p (row_read m)

read_happens : (k : Kept) (from p : ℤ) (r : Result Message Bad) → happened (peer_answer p (read_taken k from r).outcome) ≡ true
read_happens k from p (Err bad) = refl
read_happens k from p (Ok m) = linked_happens k from p m (link_judged k.peers from)

received_happens : (k : Kept) (from p : ℤ) (class : Class) (bytes : List ℕ) → happened (peer_answer p (taken packet_form k (event.Received from class bytes)).outcome) ≡ true
received_happens k from p class bytes = read_happens k from p (packet_form.read_packet bytes)

next_down_still : (v : Parts) (i : ℕ) (c : Client) (xs : List Out) → happened (deliver_down v i c xs).outcome ≡ false → (deliver_down v i c xs).parts ≡ v
next_down_still v i c [] h = refl
next_down_still v i c (x ∷ xs) h = absurd (true≢false (sym (received_happens c.kept server c.number x.class x.bytes) ∙ h))

next_up_still : (v : Parts) (i : ℕ) (c : Client) (xs : List Out) → happened (deliver_up v i c xs).outcome ≡ false → (deliver_up v i c xs).parts ≡ v
next_up_still v i c [] h = refl
next_up_still v i c (x ∷ xs) h = absurd (true≢false (sym (received_happens v.server c.number server x.class x.bytes) ∙ h))

delivers_still : (v : Parts) (is_down : Bool) (o : Option ℕ) → happened (delivers_at v is_down o).outcome ≡ false → (delivers_at v is_down o).parts ≡ v
delivers_still v is_down None h = refl
delivers_still v is_down (Some i) h = by_client is_down (slice_get v.clients i) h
  where
    by_client : (d : Bool) (o : Option Client) → happened (delivers_of v d i o).outcome ≡ false → (delivers_of v d i o).parts ≡ v
    by_client d None k = refl
    by_client true (Some c) k = next_down_still v i c c.down k
    by_client false (Some c) k = next_up_still v i c c.up k

rel_still : (v : Parts) (a b : ℤ) → happened (rel_made v a b).outcome ≡ false → (rel_made v a b).parts ≡ v
rel_still v a b = by_rows (not (has_peer v a && has_peer v b)) (has_no_link a b) (int_eq a server)
  where
    by_rows : (x y z : Bool)
        → happened (if x then unchanged v (answers.Refused refusal.NoPeer) else if y then unchanged v (answers.Refused refusal.NotLink) else if z then delivers_at v true (place_of b v.clients) else delivers_at v false (place_of a v.clients)).outcome ≡ false
        → (if x then unchanged v (answers.Refused refusal.NoPeer) else if y then unchanged v (answers.Refused refusal.NotLink) else if z then delivers_at v true (place_of b v.clients) else delivers_at v false (place_of a v.clients)).parts ≡ v
    by_rows true y z h = refl
    by_rows false true z h = refl
    by_rows false false true h = delivers_still v true (place_of b v.clients) h
    by_rows false false false h = delivers_still v false (place_of a v.clients) h

made_still : (v : Parts) (e : WorldEvent) → happened (made v e).outcome ≡ false → (made v e).parts ≡ v
made_still v Connect h = connect_still v h
made_still v (Down p) h = down_still v p h
made_still v (Op p op) h = op_still v p op h
made_still v (Rel a b) h = rel_still v a b h
made_still v e h = refl

-- the scene stays

server_scene : (v : Parts) (e : Event) → scene_of (server_made v e).parts ≡ scene_of v
server_scene v e = ap (λ (w : Who). w.scene) (same_who packet_form v.server e)

connect_scene : (v : Parts) → scene_of (connect_made v).parts ≡ scene_of v
connect_scene v = by_room (is_full v.come v.clients)
  where
    by_room : (b : Bool) → scene_of (if b then unchanged v (answers.Refused refusal.PeersFull) else connect_as v (pos (number_after v.come))).parts ≡ scene_of v
    by_room true = refl
    by_room false = ap (λ (w : Who). w.scene) (same_who packet_form v.server (event.Up (pos (number_after v.come))))

does_scene : (v : Parts) (op : Operation) (o : Option ℕ) → scene_of (does_at v op o).parts ≡ scene_of v
does_scene v op None = refl
does_scene v op (Some i) = by_client (slice_get v.clients i)
  where
    by_client : (o : Option Client) → scene_of (client_does v i op o).parts ≡ scene_of v
    by_client None = refl
    by_client (Some c) = refl

op_scene : (v : Parts) (p : ℤ) (op : Operation) → scene_of (op_made v p op).parts ≡ scene_of v
op_scene v p op = by_server (int_eq p server)
  where
    by_server : (b : Bool) → scene_of (if b then server_made v (event.Op op) else does_at v op (place_of p v.clients)).parts ≡ scene_of v
    by_server true = server_scene v (event.Op op)
    by_server false = does_scene v op (place_of p v.clients)

next_down_scene : (v : Parts) (i : ℕ) (c : Client) (xs : List Out) → scene_of (deliver_down v i c xs).parts ≡ scene_of v
next_down_scene v i c [] = refl
next_down_scene v i c (x ∷ xs) = refl

next_up_scene : (v : Parts) (i : ℕ) (c : Client) (xs : List Out) → scene_of (deliver_up v i c xs).parts ≡ scene_of v
next_up_scene v i c [] = refl
next_up_scene v i c (x ∷ xs) = ap (λ (w : Who). w.scene) (same_who packet_form v.server (event.Received c.number x.class x.bytes))

delivers_scene : (v : Parts) (is_down : Bool) (o : Option ℕ) → scene_of (delivers_at v is_down o).parts ≡ scene_of v
delivers_scene v is_down None = refl
delivers_scene v is_down (Some i) = by_client is_down (slice_get v.clients i)
  where
    by_client : (d : Bool) (o : Option Client) → scene_of (delivers_of v d i o).parts ≡ scene_of v
    by_client d None = refl
    by_client true (Some c) = next_down_scene v i c c.down
    by_client false (Some c) = next_up_scene v i c c.up

rel_scene : (v : Parts) (a b : ℤ) → scene_of (rel_made v a b).parts ≡ scene_of v
rel_scene v a b = by_rows (not (has_peer v a && has_peer v b)) (has_no_link a b) (int_eq a server)
  where
    by_rows : (x y z : Bool)
        → scene_of (if x then unchanged v (answers.Refused refusal.NoPeer) else if y then unchanged v (answers.Refused refusal.NotLink) else if z then delivers_at v true (place_of b v.clients) else delivers_at v false (place_of a v.clients)).parts ≡ scene_of v
    by_rows true y z = refl
    by_rows false true z = refl
    by_rows false false true = delivers_scene v true (place_of b v.clients)
    by_rows false false false = delivers_scene v false (place_of a v.clients)

down_scene : (v : Parts) (p : ℤ) → scene_of (down_made v p).parts ≡ scene_of v
down_scene v p = by_rows (int_eq p server) (is_some (place_of p v.clients))
  where
    by_rows : (x y : Bool) → scene_of (if x then unchanged v (answers.Refused refusal.Server) else if y then down_with v p (taken packet_form v.server (event.Down p)) else unchanged v (answers.Refused refusal.NoPeer)).parts ≡ scene_of v
    by_rows true y = refl
    by_rows false true = server_scene v (event.Down p)
    by_rows false false = refl

made_scene : (v : Parts) (e : WorldEvent) → scene_of (made v e).parts ≡ scene_of v
made_scene v Connect = connect_scene v
made_scene v (Down p) = down_scene v p
made_scene v (Op p op) = op_scene v p op
made_scene v (Rel a b) = rel_scene v a b
made_scene v e = refl

-- calls of a world

-- a new world stands for the empty script
pub start_stands : (v : Parts) (s : Scene) → v ≡ first_parts s → IsValidScene s → StandsForScript v []
start_stands v s is valid = subst (λ x. StandsForScript x []) (sym is) (record {
  valid = valid;
  happened = tt;
  parts = record {
    live = refl;
    server = record { who = refl; stands = new_peer_stands packet_form s server valid };
    come = refl;
    put = refl;
    room = refl;
    numbers = refl;
    clients = λ i c at. absurd (cc at);
  };
})

-- what is known of a world that stands for a script
before : (v : Parts) (es : List WorldEvent) → StandsForScript v es → Before (scene_of v) v (world packet_form (scene_of v) es)
before v es h = record { valid = h.valid; run = runs (scene_of v) h.valid es h.happened; parts = h.parts; within = λ p b. (channels packet_form (scene_of v) es p b).got.within }

step_at : (v : Parts) (es : List WorldEvent) (e : WorldEvent) → StandsForScript v es → is_built_event e ≡ true → RightAt (scene_of v) (world packet_form (scene_of v) es) e (made v e)
step_at v es e h built = step_right (scene_of v) v (world packet_form (scene_of v) es) e (before v es h) built

-- a step that made this outcome and keeps this

pub step_answers : (v u : Parts) (es : List WorldEvent) (e : WorldEvent) (o : WorldOutcome) → record { outcome = o; parts = u } ≡ made v e → StandsForScript v es → is_built_event e ≡ true → o ≡ world_answer packet_form (scene_of v) (world packet_form (scene_of v) es) e
step_answers v u es e o is h built = ap (λ (m : Made). m.outcome) is ∙ (step_at v es e h built).answers

pub step_scene : (v u : Parts) (e : WorldEvent) (o : WorldOutcome) → record { outcome = o; parts = u } ≡ made v e → scene_of u ≡ scene_of v
step_scene v u e o is = ap (λ (m : Made). scene_of m.parts) is ∙ made_scene v e

pub step_stands : (v u : Parts) (es : List WorldEvent) (e : WorldEvent) (o : WorldOutcome) → record { outcome = o; parts = u } ≡ made v e → StandsForScript v es → is_built_event e ≡ true → is_sound_event e ≡ true → is_over (made v e) ≡ false → happened o ≡ true → StandsForScript u (e ∷ es)
step_stands v u es e o is h built sound room done = stands_by (scene_of u) (step_scene v u e o is) parts
  where
    s : Scene
    s = scene_of v

    parts : HasParts s u (world packet_form s (e ∷ es))
    parts = subst (λ (m : Made). HasParts s m.parts (world packet_form s (e ∷ es))) (sym is) ((step_at v es e h built).stands (sym (ap (λ (m : Made). happened m.outcome) is) ∙ done) room)

    now : Happened s (e ∷ es)
    now = (built, sound, ap happened (sym (step_answers v u es e o is h built)) ∙ done, h.happened)

    stands_by : (z : Scene) → z ≡ s → HasParts s u (world packet_form s (e ∷ es)) → StandsForScript u (e ∷ es)
    stands_by z same p = record {
      valid = subst IsValidScene (sym (step_scene v u e o is)) h.valid;
      happened = subst (λ y. Happened y (e ∷ es)) (sym (step_scene v u e o is)) now;
      parts = subst (λ y. HasParts y u (world packet_form y (e ∷ es))) (sym (step_scene v u e o is)) p;
    }

-- it is over where the definitions overflow
pub step_over : (v : Parts) (es : List WorldEvent) (e : WorldEvent) → StandsForScript v es → is_built_event e ≡ true → is_over (made v e) ≡ overflows packet_form (scene_of v) (world packet_form (scene_of v) es) e
step_over v es e h built = (step_at v es e h built).over

pub step_unchanged : (v u : Parts) (e : WorldEvent) (o : WorldOutcome) → record { outcome = o; parts = u } ≡ made v e → happened o ≡ false → u ≡ v
step_unchanged v u e o is no_event = ap (λ (m : Made). m.parts) is ∙ made_still v e (sym (ap (λ (m : Made). happened m.outcome) is) ∙ no_event)

-- reports

-- a peer is there where it is in the script's world
pub made_there : (v : Parts) (es : List WorldEvent) (p : ℤ) → StandsForScript v es → has_peer v p ≡ is_in (world packet_form (scene_of v) es) p
made_there v es p h = let b = before v es h in places.there_is v (world packet_form (scene_of v) es) p b.parts.numbers

-- what is kept of any peer that is there stands for its history
pub kept_stands : (v : Parts) (es : List WorldEvent) (p : ℤ) (k : Kept) → StandsForScript v es → kept_at v p ≡ Some k → IsPeer (scene_of v) (world packet_form (scene_of v) es) p k
kept_stands v es p k h = by_server (int_eq p server) refl
  where
    w : World
    w = world packet_form (scene_of v) es

    by_place : (o : Option ℕ) → place_of p v.clients ≡ o → option_map (λ (c : Client). c.kept) (option_and_then (slice_get v.clients) o) ≡ Some k → IsPeer (scene_of v) w p k
    by_place None at is = absurd (cc is)
    by_place (Some i) at is =
        let c = client_there v.clients p i at in
        let same : c.client.kept ≡ k = cc (sym (ap (option_map (λ (d : Client). d.kept)) c.there) ∙ is) in
        subst (IsPeer (scene_of v) w p) same (subst (λ q. IsPeer (scene_of v) w q c.client.kept) c.is (h.parts.clients i c.client c.there).peer)

    by_server : (b : Bool) → int_eq p server ≡ b → (if b then Some v.server else option_map (λ (c : Client). c.kept) (client_at v p)) ≡ Some k → IsPeer (scene_of v) w p k
    by_server true e is = let same : v.server ≡ k = cc is in subst (IsPeer (scene_of v) w p) same (subst (λ q. IsPeer (scene_of v) w q v.server) (sym (int_is p server e)) h.parts.server)
    by_server false e is = by_place (place_of p v.clients) refl is

-- what is reported of a peer that is there
pub report_is : {E : Type 0} (r : Result Report E) (v : Parts) (es : List WorldEvent) (p : ℤ) → StandsForScript v es → IfOk r (λ x. option_map kept_report (kept_at v p) ≡ Some x) → IfOk r (λ x. x ≡ reported packet_form (scene_of v) (world packet_form (scene_of v) es) p)
report_is (Err e) v es p h said = tt
report_is (Ok x) v es p h said = by_kept (kept_at v p) refl said
  where
    by_kept : (o : Option Kept) → kept_at v p ≡ o → option_map kept_report o ≡ Some x → x ≡ reported packet_form (scene_of v) (world packet_form (scene_of v) es) p
    by_kept None e k = absurd (cc k)
    by_kept (Some y) e k = let same : x ≡ kept_report y = cc k in same ∙ kept_same (scene_of v) es p y h.valid h.happened (kept_stands v es p y h e)

-- and, with nothing in flight, after a frame since which nothing changed, a report has each on-change value of a joined peer that the peer may see
pub values_are : {E : Type 0} (r : Result Report E) (v : Parts) (es : List WorldEvent) (a p : ℤ) → StandsForScript v es → IfOk r (λ x. x ≡ reported packet_form (scene_of v) (world packet_form (scene_of v) es) p) → is_joined (world packet_form (scene_of v) es) a p ≡ true
    → IfOk r (TellsValues (scene_of v) (world packet_form (scene_of v) es) a p)
values_are (Err e) v es a p h said joined = tt
values_are (Ok x) v es a p h said joined = subst (TellsValues (scene_of v) (world packet_form (scene_of v) es) a p) (sym said) (values_reported (scene_of v) es a p h.valid h.happened joined)

-- nobody is reported where nobody is
pub nobody_is : (R : Type 0) (v : Parts) (es : List WorldEvent) (p : ℤ) → StandsForScript v es → R ↔ has_peer v p ≡ false → R ↔ is_in (world packet_form (scene_of v) es) p ≡ false
nobody_is R v es p h both = (λ r. sym (made_there v es p h) ∙ both.0 r, λ e. both.1 (made_there v es p h ∙ e))

-- a report is one of a peer that is there
pub there_is : {E : Type 0} (r : Result Report E) (v : Parts) (es : List WorldEvent) (p : ℤ) → StandsForScript v es → IfOk r (λ x. option_map kept_report (kept_at v p) ≡ Some x) → IfOk r (λ x. is_in (world packet_form (scene_of v) es) p ≡ true)
there_is (Err e) v es p h said = tt
there_is (Ok x) v es p h said = sym (made_there v es p h) ∙ by_server (int_eq p server) said
  where
    by_place : (o : Option ℕ) → option_map kept_report (option_map (λ (c : Client). c.kept) (option_and_then (slice_get v.clients) o)) ≡ Some x → is_some o ≡ true
    by_place None k = absurd (cc k)
    by_place (Some i) k = refl

    by_server : (b : Bool) → option_map kept_report (if b then Some v.server else option_map (λ (c : Client). c.kept) (client_at v p)) ≡ Some x → (b || is_some (place_of p v.clients)) ≡ true
    by_server true k = refl
    by_server false k = by_place (place_of p v.clients) k

-- no peer of a world that stands for a script is spent
pub never_spent : (v : Parts) (es : List WorldEvent) (p : ℤ) → StandsForScript v es → option_map is_spent (kept_at v p) ≡ Some true → ⊥
never_spent v es p h = by_kept (kept_at v p) refl
  where
    by_kept : (o : Option Kept) → kept_at v p ≡ o → option_map is_spent o ≡ Some true → ⊥
    by_kept None e k = absurd (cc k)
    by_kept (Some y) e k = let live = (kept_stands v es p y h e).stands.live in absurd (cc (k, live))

-- an event whose name is a text and whose values are sound can be written
pub sound_event : (e : WorldEvent) → has_text_name e ≡ true → has_sound_values e ≡ true → is_sound_event e ≡ true
sound_event Connect text h = refl
sound_event (Down p) text h = refl
sound_event (Op p (Spawn o)) text h = and_from (is_text o.name) (list_all has_sound o.sets) text h
sound_event (Op p (Custom o)) text h = and_from (is_text o.name) (is_sound_argument o.arg) text h
sound_event (Op p (Despawn path)) text h = refl
sound_event (Op p (Set path prop value)) text h = h
sound_event (Op p (Public path k on)) text h = refl
sound_event (Op p (For path k peer on)) text h = refl
sound_event (Op p (Filter path k peers)) text h = refl
sound_event (Op p (Call c)) text h = refl
sound_event (Op p (Raw to class bytes)) text h = refl
sound_event (Op p Frame) text h = refl
sound_event (Rel a b) text h = refl
sound_event (Loose a b i) text h = refl
sound_event (Forge p class bytes) text h = refl

pub steps_are_right : StepsAreRight
steps_are_right v es e h built sound = record {
  answers = step_answers v (made v e).parts es e (made v e).outcome refl h built;
  over = step_over v es e h built;
  stands = λ done room. step_stands v (made v e).parts es e (made v e).outcome refl h built sound room done;
  unchanged = step_unchanged v (made v e).parts e (made v e).outcome refl;
}
