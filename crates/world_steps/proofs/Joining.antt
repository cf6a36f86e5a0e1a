-- A client that connects.
use Rattle.std.proofs.Common.{◌≡◌, ℕ, ◌+◌, ◌≤◌, min, ℤ, pos, Bool, true, false, not, ◌&&◌, ◌||◌, List, [], ◌∷◌, ◌++◌, length, map, reverse, refl, sym, ap, ap₂, ◌∙◌, subst, arith, Some}
use Rattle.std.specs.Prelude.{slice_get, nat_le, nat_lt, if◌then◌else◌}
use Rattle.std.specs.Ordering.{int_eq}
use Rattle.std.proofs.lemmas.List.{map-append}
use Rattle.gd_variant.specs.Words.{has_int, when}
use Rattle.scene_model.specs.declared.scene.Scene.{Scene}
use Rattle.scene_model.specs.declared.event.Event.TheVariants as event
use Rattle.scene_model.specs.declared.outcome.Out.{Out}
use Rattle.scene_model.specs.declared.world.WorldEvent.TheVariants.{Connect}
use Rattle.scene_model.specs.declared.world.WorldOutcome.TheVariants as answers
use Rattle.scene_model.specs.declared.world.WorldNo.TheVariants as refusal
use Rattle.peer_model.specs.Heard.{Who, comes, server}
use Rattle.peer_model.specs.Peers.{is_up}
use Rattle.peer_model.specs.Changes.{changes}
use Rattle.peer_model.specs.Refusals.{most_clients}
use Rattle.peer_laws.specs.Built.{AllAccepted}
use Rattle.peer_laws.proofs.Numbers.{int_same, int_comm}
use Rattle.peer_laws.proofs.Told.{changes_never}
use Rattle.peer_steps.specs.Kept.{new_peer}
use Rattle.peer_steps.specs.Stands.{StandsFor}
use Rattle.peer_steps.specs.Steps.{Taken, taken}
use Rattle.peer_core.specs.Forms.{packet_form}
use Rattle.peer_steps.proofs.Clauses.{start_stands}
use Rattle.world_model.specs.World.{Way, Came, World, peer_of, clients, next_client, events_at, heard_in, bytes_in_flight, most_in_flight}
use Rattle.world_model.specs.Happens.{packets_in, by_itself, with_client, link_up, happens}
use Rattle.world_model.specs.Answers.{most_number, has_no_link, refused_or, effects_in, step_of, connect_answer}
use Rattle.world_model.specs.Answers as model
use Rattle.channel_laws.specs.Channels.{waiting_on}
use Rattle.world_steps.specs.Steps.{Parts, Client, scene_of, number_after, new_client, packet_bytes, put_with, waiting_with, with_down, with_packets, unchanged, is_full, connect_with, connect_as, connect_made}
use Rattle.world_steps.specs.Stands.{outs, IsPeer, IsClient}
use Rattle.world_steps.proofs.Numbers.{not_server, server_not, reversed}
use Rattle.world_steps.proofs.Runs.{heard_at, Members}
use Rattle.world_steps.proofs.Joins.{not_full, clients_with, Meets, meets, connect_members}
use Rattle.world_steps.proofs.Links.{told_parcels}
use Rattle.world_steps.proofs.Waiting.{nothing_waits}
use Rattle.world_steps.proofs.Peers.{IsAnswered, peer_answers}
use Rattle.world_steps.proofs.Places.{number_in, as_many, numbers_with, next_outside}
use Rattle.world_steps.proofs.Keeping.{Keeps, Within, took, server_keeps, joins_keeps, way_waits, way_more}
use Rattle.world_steps.proofs.Flights.{Distinct, client_flies, empty_way, joined_flies, client_links, put_more}
use Rattle.world_steps.proofs.Answered.{RightAt, Before, keeps, distinct_of, Counted, counted_before, done_right, refused_right, server_counted, came_by}

-- a connect

room_right : (s : Scene) (v : Parts) (w : World) → Before s v w → model.is_full w ≡ false → scene_of v ≡ s → v.come ≡ length w.come → RightAt s w Connect (connect_as v (next_client w))
room_right s v w h room same come = subst (λ z. RightAt s w Connect (connect_with v id t (taken packet_form (new_peer z id) (event.Up server)))) (sym same) (done_right s w Connect (connect_with v id t u)
    (ap₂ (λ a b. answers.Done (Some id) (step_of server (effects_in a) ∷ step_of id (effects_in b) ∷ [])) first.answers second.answers
    ∙ ap (λ b. refused_or (when b refusal.PeersFull) (connect_answer packet_form s w)) (sym room))
    refl count
    (record {
      live = h.parts.live;
      server = k.server;
      come = ap (λ n. n + 1) come ∙ omega arith;
      numbers = numbers_with ps (v.clients ++ fresh ∷ []) ∙ map-append number_in v.clients (fresh ∷ [])
          ∙ ap (λ ns. ns ++ id ∷ []) h.parts.numbers ∙ sym (reversed id (clients w)) ∙ ap reverse (sym (clients_with w h.run.members));
      clients = ap_clients;
    }))
  where
    id : ℤ
    id = next_client w

    t : Taken
    t = taken packet_form v.server (event.Up id)

    u : Taken
    u = taken packet_form (new_peer s id) (event.Up server)

    ps : List Out
    ps = packets_in t.outcome

    fresh : Client
    fresh = new_client id u.kept (packets_in u.outcome)

    w0 : World
    w0 = with_client w

    w1 : World
    w1 = link_up packet_form s w

    both : Meets s w
    both = meets s w h.run.members (not_full w h.run.members (ap (λ b. when b refusal.PeersFull) room))

    before : Keeps s w v.server v.clients
    before = keeps s v w h

    begun : Keeps s w0 v.server v.clients
    begun = record {
      server = record { who = before.server.who; stands = before.server.stands };
      clients = λ i c at. let ci = before.clients i c at in record { peer = record { who = ci.peer.who; stands = ci.peer.stands }; down = ci.down; up = ci.up };
      others = before.others;
      once = before.once;
    }

    no_link_to : int_eq id server ≡ false → has_no_link server id ≡ false
    no_link_to e = ap (λ t. t || (false && not (int_eq id server))) (int_comm server id ∙ e)

    no_link_from : int_eq id server ≡ false → has_no_link id server ≡ false
    no_link_from e = ap (λ t. t || (not t && false)) e

    first : IsAnswered s w0 server v.server (event.Up id)
    first = peer_answers s w0 server v.server (event.Up id) begun.server refl refl

    linked : Keeps s w1 t.kept (with_packets ps v.clients)
    linked = server_keeps s w0 v.server v.clients (by_itself (event.Up id)) begun first (h.within server)

    far : int_eq id server ≡ false
    far = not_server (length w.come)

    none_yet : events_at w1 id ≡ []
    none_yet = ap (λ b. map (λ (c : Came). c.event) (if b then by_itself (event.Up id) ∷ w.history id else w.history id)) far ∙ ap (map (λ (c : Came). c.event)) (h.run.members.fresh (length w.come) (omega arith)).0

    alone : IsPeer s w1 id (new_peer s id)
    alone = record { who = refl; stands = subst (StandsFor packet_form (new_peer s id)) (sym none_yet) (start_stands packet_form s id h.valid) }

    second : IsAnswered s w1 id (new_peer s id) (event.Up server)
    second = peer_answers s w1 id (new_peer s id) (event.Up server) alone refl refl

    down_empty : outs (waiting_on (w.way server id)) ≡ []
    down_empty = nothing_waits (w.way server id)
        ((h.run.core.links server id (no_link_to far)).sent ∙ ap (told_parcels server id) (changes_never (peer_of s server) (heard_at w server) id (h.run.members.fresh (length w.come) (omega arith)).1))

    up_empty : outs (waiting_on (w.way id server)) ≡ []
    up_empty = nothing_waits (w.way id server)
        ((h.run.core.links id server (no_link_from far)).sent ∙ ap (λ es. told_parcels id server (changes (peer_of s id) es server)) (ap (heard_in packet_form) (h.run.members.fresh (length w.come) (omega arith)).0))

    base : Client
    base = record { number = id; kept = new_peer s id; down = waiting_with [] ps id; up = [] }

    is_base : IsClient s w1 base
    is_base = record {
      peer = alone;
      down = way_more s w0 server id v.server (by_itself (event.Up id)) [] first (h.within server) (sym down_empty);
      up = sym (ap (λ y. outs (waiting_on y)) (way_waits s w0 server id server (by_itself (event.Up id)) far) ∙ up_empty);
    }

    x : World
    x = happens packet_form s w Connect

    members : Members x
    members = connect_members s w h.run.members both

    distinct : Distinct w0
    distinct = distinct_of w0 (ap (λ ns. id ∷ ns) h.run.members.numbers)

    joined : bytes_in_flight w0 ≡ bytes_in_flight w
    joined = joined_flies w
        (empty_way (w.way server id) ((h.run.core.links server id (no_link_to far)).sent ∙ ap (told_parcels server id) (changes_never (peer_of s server) (heard_at w server) id (h.run.members.fresh (length w.come) (omega arith)).1)) (h.run.core.loose server id))
        (empty_way (w.way id server) ((h.run.core.links id server (no_link_from far)).sent ∙ ap (λ es. told_parcels id server (changes (peer_of s id) es server)) (ap (heard_in packet_form) (h.run.members.fresh (length w.come) (omega arith)).0)) (h.run.core.loose id server))

    up_came : (p : ℤ) → is_up (comes id ∷ heard_at w0 server) p ≡ true → has_int p w0.come ≡ true
    up_came = came_by x w0.come (comes id ∷ heard_at w0 server) members refl (ap (λ t. heard_in packet_form (if t then by_itself (event.Up server) ∷ w1.history server else w1.history server)) (server_not (length w.come)))

    at_server : Counted (put_with v.put ps) w1
    at_server = server_counted s w0 v.server (by_itself (event.Up id)) v.put (counted_before s v w h ∙ ap (λ n. min n (most_in_flight + 1)) (sym joined)) distinct first (h.run.core.accepted server) both.at_server up_came

    at_client : bytes_in_flight x ≡ bytes_in_flight w1 + packet_bytes (packets_in u.outcome)
    at_client =
        client_flies s w1 id (by_itself (event.Up server)) (distinct_of w1 (ap (λ ns. id ∷ ns) h.run.members.numbers)) (ap (λ t. t || has_int id w.come) (int_same id))
        (client_links s w1 id (by_itself (event.Up server)) far (subst (AllAccepted (peer_of s id)) (sym both.alone) tt) both.at_client)
        ∙ ap (λ o. bytes_in_flight w1 + packet_bytes (packets_in o)) (sym second.answers)

    count : Counted (put_with (put_with v.put ps) (packets_in u.outcome)) x
    count = put_more (put_with v.put ps) (bytes_in_flight w1) (packets_in u.outcome) at_server ∙ ap (λ n. min n (most_in_flight + 1)) (sym at_client)

    inside : Within w1 id
    inside b = subst (λ (y : Way). y.delivered ≤ length y.sent) (sym (way_waits s w0 server id b (by_itself (event.Up id)) far)) (h.within id b)

    k : Keeps s (happens packet_form s w Connect) t.kept (with_packets ps v.clients ++ took base (event.Up server) ∷ [])
    k = joins_keeps s w1 t.kept (with_packets ps v.clients) base (by_itself (event.Up server)) linked far (ap (has_int id) (numbers_with ps v.clients) ∙ next_outside w v.clients h.run.members h.parts.numbers) is_base second inside

    ap_clients : (i : ℕ) (c : Client) → slice_get (with_packets ps (v.clients ++ fresh ∷ [])) i ≡ Some c → IsClient s (happens packet_form s w Connect) c
    ap_clients = subst (λ cs. (i : ℕ) (c : Client) → slice_get cs i ≡ Some c → IsClient s (happens packet_form s w Connect) c) (sym (map-append (with_down ps) v.clients (fresh ∷ []))) k.clients

pub connect_right : (s : Scene) (v : Parts) (w : World) → Before s v w → RightAt s w Connect (connect_made v)
connect_right s v w h = by_room (is_full v.come v.clients) refl
  where
    full_is : is_full v.come v.clients ≡ model.is_full w
    full_is = ap₂ (λ n m. nat_le most_clients n || nat_lt most_number (number_after m))
        (as_many w v.clients h.parts.numbers) h.parts.come

    same : scene_of v ≡ s
    same = ap (λ (x : Who). x.scene) h.parts.server.who

    by_room : (b : Bool) → is_full v.come v.clients ≡ b → RightAt s w Connect (if b then unchanged v (answers.Refused refusal.PeersFull) else connect_as v (pos (number_after v.come)))
    by_room true e = refused_right s v w Connect refusal.PeersFull h (ap (λ b. when b refusal.PeersFull) (sym full_is ∙ e))
    by_room false e = subst (λ n. RightAt s w Connect (connect_as v (pos (number_after n)))) (sym h.parts.come) (room_right s v w h (sym full_is ∙ e) same h.parts.come)
