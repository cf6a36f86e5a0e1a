-- Packets that are delivered.
use Rattle.std.proofs.Common.{◌≡◌, ℕ, ◌+◌, ◌≤◌, min, ℤ, Bool, true, false, not, ◌&&◌, ◌||◌, List, [], ◌∷◌, length, refl, sym, ap, ap₂, ◌∙◌, subst, is_some, Option, Some, None}
use Rattle.std.specs.Prelude.{slice_get, is_none, if◌then◌else◌}
use Rattle.std.specs.List.{slice_set}
use Rattle.std.specs.Ordering.{int_eq}
use Rattle.std.proofs.lemmas.Bool.{true≢false, and_parts, and_from}
use Rattle.gd_variant.specs.Words.{has_int, when, first_of}
use Rattle.scene_model.specs.declared.scene.Scene.{Scene}
use Rattle.scene_model.specs.declared.event.Event.TheVariants as event
use Rattle.scene_model.specs.declared.outcome.Out.{Out}
use Rattle.scene_model.specs.declared.world.WorldEvent.TheVariants.{Rel}
use Rattle.scene_model.specs.declared.world.WorldOutcome.TheVariants as answers
use Rattle.scene_model.specs.declared.world.WorldNo.{WorldNo}
use Rattle.scene_model.specs.declared.world.WorldNo.TheVariants as refusal
use Rattle.peer_model.specs.Heard.{gets, server}
use Rattle.peer_model.specs.Answer.{decided}
use Rattle.peer_model.specs.Faults.{link_fault}
use Rattle.peer_model.specs.Bytes.{accepted_events, outcome_of}
use Rattle.peer_laws.specs.Built.{is_built, is_unbuilt}
use Rattle.peer_laws.proofs.Numbers.{int_is, int_same, int_comm}
use Rattle.peer_laws.proofs.Tests.{not_false}
use Rattle.peer_steps.specs.Kept.{Kept}
use Rattle.peer_steps.specs.Stands.{is_answered}
use Rattle.peer_steps.specs.Steps.{taken}
use Rattle.peer_core.specs.Forms.{packet_form}
use Rattle.world_model.specs.World.{Parcel, Way, World, peer_of, is_in, events_at, next_of, most_in_flight}
use Rattle.world_model.specs.Happens.{packets_in, fed, brought_by, after_next, at_way, delivered, answer_at}
use Rattle.world_model.specs.Answers.{has_no_link, refused_by, refused_or, accepted_answer, peer_answer, delivery_answer, world_answer, happened}
use Rattle.channel_laws.specs.Channels.{waiting_on}
use Rattle.world_steps.specs.Steps.{Parts, Made, Client, place_of, has_peer, with_packets, unchanged, server_made, client_made, with_client as set_client, deliver_down, deliver_up, delivers_of, delivers_at, rel_made}
use Rattle.world_steps.specs.Stands.{outs, IsPeer, IsClient}
use Rattle.world_steps.proofs.Lists.{each_set, got_within, got_set, set_again}
use Rattle.world_steps.proofs.Numbers.{is_once}
use Rattle.world_steps.proofs.Runs.{heard_at, link_ends, answer_by, Core, come_is}
use Rattle.world_steps.proofs.Arrivals.{IsArrival, arrival, arrival_members, arrival_no_news, arrives, sender_up}
use Rattle.world_steps.proofs.Waiting.{IsFirst, first_waits, none_waits}
use Rattle.world_steps.proofs.Peers.{IsAnswered, peer_answers}
use Rattle.world_steps.proofs.Places.{client_there, numbers_with, numbers_set}
use Rattle.world_steps.proofs.Keeping.{Keeps, Within, took, server_keeps, client_keeps, client_far, clients_apart}
use Rattle.world_steps.proofs.Flights.{moved_flies}
use Rattle.world_steps.proofs.Answered.{RightAt, Before, keeps, there, distinct_of, Has, Counted, counted_before, done_right, refused_right, server_counted, came_by, client_counted}
use Rattle.world_steps.proofs.Operating.{client_in}

-- deliveries

rows_of_delivery : Bool → Bool → Bool → Option WorldNo
rows_of_delivery gone apart empty = first_of (when gone refusal.NoPeer ∷ when apart refusal.NotLink ∷ when empty refusal.NothingInFlight ∷ [])

refused_is : (s : Scene) (w : World) (a b : ℤ) (gone apart : Bool) (o : Option Parcel) → not (is_in w a && is_in w b) ≡ gone → has_no_link a b ≡ apart → next_of (w.way a b) ≡ o → refused_by packet_form s w (Rel a b) ≡ rows_of_delivery gone apart (is_none o)
unfolding rows_of_delivery
refused_is s w a b gone apart o g x n = ap₂ (λ (p q : Bool). rows_of_delivery p q (is_none (next_of (w.way a b)))) g x ∙ ap (λ p. rows_of_delivery gone apart (is_none p)) n

-- the next packet of a way is taken, and its receiver answers it
waits_right : (s : Scene) (w : World) (a b : ℤ) (q : Parcel) → (is_in w a && is_in w b) ≡ true → has_no_link a b ≡ false → next_of (w.way a b) ≡ Some q → refused_by packet_form s w (Rel a b) ≡ None
unfolding rows_of_delivery
waits_right s w a b q i l n = refused_is s w a b false false (Some q) (ap not i) l n

nothing_right : (s : Scene) (w : World) (a b : ℤ) → (is_in w a && is_in w b) ≡ true → has_no_link a b ≡ false → next_of (w.way a b) ≡ None → refused_by packet_form s w (Rel a b) ≡ Some refusal.NothingInFlight
unfolding rows_of_delivery
nothing_right s w a b i l n = refused_is s w a b false false None (ap not i) l n

not_link_right : (s : Scene) (w : World) (a b : ℤ) → (is_in w a && is_in w b) ≡ true → has_no_link a b ≡ true → refused_by packet_form s w (Rel a b) ≡ Some refusal.NotLink
unfolding rows_of_delivery
not_link_right s w a b i l = refused_is s w a b false true (next_of (w.way a b)) (ap not i) l refl

nobody_right : (s : Scene) (w : World) (a b : ℤ) → not (is_in w a && is_in w b) ≡ true → refused_by packet_form s w (Rel a b) ≡ Some refusal.NoPeer
unfolding rows_of_delivery
nobody_right s w a b i = refused_is s w a b true (has_no_link a b) (next_of (w.way a b)) i refl refl

-- the definitions' answer is given to an arrival
arrival_answered : (s : Scene) (w : World) (a b : ℤ) (q : Parcel) → IsArrival s w a b q → is_answered packet_form (peer_of s b) (events_at w b) (event.Received a q.out.class q.out.bytes) ≡ true
arrival_answered s w a b q i =
    ap (λ r. if is_unbuilt (peer_of s b) (accepted_events packet_form (peer_of s b) (events_at w b)) (gets a q.out.class q.out.bytes r) then false else true) i.reads
    ∙ ap (λ t. if is_none (link_fault (peer_of s b) (accepted_events packet_form (peer_of s b) (events_at w b)) a) && not t then false else true) (sym (ap (λ r. is_built (gets a q.out.class q.out.bytes r)) i.reads) ∙ i.accepts.built)
    ∙ ap (λ t. if t then false else true) (never_both (is_none (link_fault (peer_of s b) (accepted_events packet_form (peer_of s b) (events_at w b)) a)))
  where
    never_both : (t : Bool) → (t && false) ≡ false
    never_both true = refl
    never_both false = refl

-- What is known of a delivery over a link on which a parcel waits.
record Delivers (s : Scene) (v : Parts) (w : World) (a b : ℤ) (q : Parcel) : Type 0 where
  pub before : Before s v w
  pub first : is_in w a ≡ true
  pub second : is_in w b ≡ true
  pub link : has_no_link a b ≡ false
  pub next : next_of (w.way a b) ≡ Some q

arrival_of : (s : Scene) (v : Parts) (w : World) (a b : ℤ) (q : Parcel) → Delivers s v w a b q → IsArrival s w a b q
arrival_of s v w a b q d = arrives s w a b q d.before.valid d.before.run.core d.link (sender_up w a b d.before.run.members d.link d.first d.second) d.next

answered_at : (s : Scene) (v : Parts) (w : World) (a b : ℤ) (q : Parcel) (k : Kept) → Delivers s v w a b q → IsPeer s w b k → IsAnswered s (at_way w a b after_next) b k (event.Received a q.out.class q.out.bytes)
answered_at s v w a b q k d h =
    let x = peer_answers s w b k (event.Received a q.out.class q.out.bytes) h refl (arrival_answered s w a b q (arrival_of s v w a b q d)) in
    record { answers = x.answers; who = x.who; stands = x.stands }

-- it is done
arrival_done : (s : Scene) (w : World) (a b : ℤ) (q : Parcel) → Core s w → IsArrival s w a b q → happened (peer_answer b (answer_at packet_form s w b (event.Received a q.out.class q.out.bytes))) ≡ true
arrival_done s w a b q h i =
    ap (λ o. happened (peer_answer b o)) (answer_by s w b (event.Received a q.out.class q.out.bytes) (h.accepted b))
    ∙ ap₂ (λ r f. happened (peer_answer b (outcome_of packet_form (decided (peer_of s b) (heard_at w b) (arrival a q) r f)))) i.accepts.no_refusal i.accepts.no_fault

delivered_answer : (s : Scene) (v : Parts) (w : World) (a b : ℤ) (q : Parcel) → Delivers s v w a b q → peer_answer b (answer_at packet_form s w b (event.Received a q.out.class q.out.bytes)) ≡ world_answer packet_form s w (Rel a b)
delivered_answer s v w a b q d =
    ap (delivery_answer packet_form s w a b) (sym d.next)
    ∙ ap (λ o. refused_or o (accepted_answer packet_form s w (Rel a b))) (sym (waits_right s w a b q (and_from (is_in w a) (is_in w b) d.first d.second) d.link d.next))

moved_within : (w : World) (a b : ℤ) → int_eq a b ≡ false → Within w b → Within (at_way w a b after_next) b
moved_within w a b apart h x = subst (λ (y : Way). y.delivered ≤ length y.sent) (sym (ap (λ t. if t && int_eq x b then after_next (w.way b x) else w.way b x) (int_comm b a ∙ apart))) (h x)

-- a way that another delivery leaves as it is
way_stays : (w : World) (a b x z : ℤ) → (int_eq x a && int_eq z b) ≡ false → (at_way w a b after_next).way x z ≡ w.way x z
way_stays w a b x z other = ap (λ t. if t then after_next (w.way x z) else w.way x z) other

way_moves : (w : World) (a b : ℤ) → (at_way w a b after_next).way a b ≡ after_next (w.way a b)
way_moves w a b = ap₂ (λ t u. if t && u then after_next (w.way a b) else w.way a b) (int_same a) (int_same b)

and_off : (t : Bool) → (t && false) ≡ false
and_off true = refl
and_off false = refl

-- a packet for a client
down_right : (s : Scene) (v : Parts) (w : World) (i : ℕ) (c : Client) (x : Out) (xs : List Out) → Before s v w → slice_get v.clients i ≡ Some c → is_in w c.number ≡ true → c.down ≡ x ∷ xs
    → RightAt s w (Rel server c.number) (client_made v i (record c { down = xs }) (event.Received server x.class x.bytes))
down_right s v w i c x xs h at inside waits =
    subst (λ y. RightAt s w (Rel server id) (client_made v i d (event.Received server y.class y.bytes))) f.is
    (done_right s w (Rel server id) made_now
    (ap (peer_answer id) a.answers ∙ delivered_answer s v w server id q del) (ap (λ o. happened (peer_answer id o)) a.answers ∙ arrival_done s w server id q h.run.core i_is)
    (subst (λ o. Counted made_now.parts.put (delivered packet_form s w server id (λ p. after_next) o)) (sym f.next) count)
    (subst (λ o. Has s made_now.parts (delivered packet_form s w server id (λ p. after_next) o)) (sym f.next)
    (record {
      live = h.parts.live;
      server = k.server;
      come = h.parts.come;
      numbers = numbers_set v.clients i c (took d (event.Received server q.out.class q.out.bytes)) at refl ∙ h.parts.numbers;
      clients = subst (λ cs. (j : ℕ) (e : Client) → slice_get cs j ≡ Some e → IsClient s (fed packet_form s w1 id (brought_by server q)) e) (set_again v.clients i d (took d (event.Received server q.out.class q.out.bytes))) k.clients;
    })))
  where
    id : ℤ
    id = c.number

    ci : IsClient s w c
    ci = h.parts.clients i c at

    f : IsFirst (w.way server id) x xs
    f = first_waits (w.way server id) x xs (sym ci.down ∙ waits)

    q : Parcel
    q = f.parcel

    d : Client
    d = record c { down = xs }

    before : Keeps s w v.server v.clients
    before = keeps s v w h

    far : int_eq id server ≡ false
    far = client_far s w v.server v.clients c i before at

    near : int_eq server id ≡ false
    near = int_comm server id ∙ far

    del : Delivers s v w server id q
    del = record { before = h; first = refl; second = inside; link = ap (λ t. t || (false && not (int_eq id server))) near; next = f.next }

    w1 : World
    w1 = at_way w server id after_next

    a : IsAnswered s w1 id d.kept (event.Received server q.out.class q.out.bytes)
    a = answered_at s v w server id q c.kept del ci.peer

    moved : Keeps s w1 v.server (slice_set v.clients i d)
    moved = record {
      server = record { who = before.server.who; stands = before.server.stands };
      clients = each_set (λ j e. IsClient s w1 e) v.clients i d
          (λ j e there n. let ei = before.clients j e there in
          let apart : int_eq e.number id ≡ false = clients_apart s w v.server v.clients e c j i before there at n in
          record {
            peer = record { who = ei.peer.who; stands = ei.peer.stands };
            down = ei.down ∙ sym (ap (λ y. outs (waiting_on y)) (way_stays w server id server e.number apart));
            up = ei.up ∙ sym (ap (λ y. outs (waiting_on y)) (way_stays w server id e.number server (ap (λ t. t && int_eq server id) (client_far s w v.server v.clients e j before there))));
          })
          (record {
            peer = record { who = ci.peer.who; stands = ci.peer.stands };
            down = sym (ap (λ y. outs (waiting_on y)) (way_moves w server id) ∙ f.rest);
            up = ci.up ∙ sym (ap (λ y. outs (waiting_on y)) (way_stays w server id id server (ap (λ t. t && int_eq server id) far)));
          });
      others = ap (has_int server) (numbers_set v.clients i c d at refl) ∙ before.others;
      once = ap is_once (numbers_set v.clients i c d at refl) ∙ before.once;
    }

    k : Keeps s (fed packet_form s w1 id (brought_by server q)) v.server (slice_set (slice_set v.clients i d) i (took d (event.Received server q.out.class q.out.bytes)))
    k = client_keeps s w1 v.server (slice_set v.clients i d) i d (brought_by server q) moved (got_set v.clients i d (got_within v.clients i c at)) a (moved_within w server id near (h.within id))

    made_now : Made
    made_now = client_made v i d (event.Received server q.out.class q.out.bytes)

    i_is : IsArrival s w server id q
    i_is = arrival_of s v w server id q del

    count : Counted made_now.parts.put (fed packet_form s w1 id (brought_by server q))
    count = client_counted s w1 id c.kept (brought_by server q) v.put (counted_before s v w h ∙ ap (λ n. min n (most_in_flight + 1)) (sym (moved_flies w server id))) (distinct_of w1 h.run.members.numbers) (come_is w id h.run.members inside far) a (h.run.core.accepted id) i_is.accepts

-- a packet from a client
up_right : (s : Scene) (v : Parts) (w : World) (i : ℕ) (c : Client) (x : Out) (xs : List Out) → Before s v w → slice_get v.clients i ≡ Some c → is_in w c.number ≡ true → c.up ≡ x ∷ xs
    → RightAt s w (Rel c.number server) (server_made (set_client v i (record c { up = xs })) (event.Received c.number x.class x.bytes))
up_right s v w i c x xs h at inside waits =
    subst (λ y. RightAt s w (Rel id server) (server_made (set_client v i d) (event.Received id y.class y.bytes))) f.is
    (done_right s w (Rel id server) made_now
    (ap (peer_answer server) a.answers ∙ delivered_answer s v w id server q del) (ap (λ o. happened (peer_answer server o)) a.answers ∙ arrival_done s w id server q h.run.core i_is)
    (subst (λ o. Counted made_now.parts.put (delivered packet_form s w id server (λ p. after_next) o)) (sym f.next) count)
    (subst (λ o. Has s made_now.parts (delivered packet_form s w id server (λ p. after_next) o)) (sym f.next)
    (record {
      live = h.parts.live;
      server = k.server;
      come = h.parts.come;
      numbers = numbers_with (packets_in (taken packet_form v.server (event.Received id q.out.class q.out.bytes)).outcome) (slice_set v.clients i d) ∙ numbers_set v.clients i c d at refl ∙ h.parts.numbers;
      clients = k.clients;
    })))
  where
    id : ℤ
    id = c.number

    ci : IsClient s w c
    ci = h.parts.clients i c at

    f : IsFirst (w.way id server) x xs
    f = first_waits (w.way id server) x xs (sym ci.up ∙ waits)

    q : Parcel
    q = f.parcel

    d : Client
    d = record c { up = xs }

    before : Keeps s w v.server v.clients
    before = keeps s v w h

    far : int_eq id server ≡ false
    far = client_far s w v.server v.clients c i before at

    del : Delivers s v w id server q
    del = record { before = h; first = inside; second = refl; link = ap (λ t. t || (not t && false)) far; next = f.next }

    w1 : World
    w1 = at_way w id server after_next

    a : IsAnswered s w1 server v.server (event.Received id q.out.class q.out.bytes)
    a = answered_at s v w id server q v.server del h.parts.server

    moved : Keeps s w1 v.server (slice_set v.clients i d)
    moved = record {
      server = record { who = before.server.who; stands = before.server.stands };
      clients = each_set (λ j e. IsClient s w1 e) v.clients i d
          (λ j e there n. let ei = before.clients j e there in
          let apart : int_eq e.number id ≡ false = clients_apart s w v.server v.clients e c j i before there at n in
          record {
            peer = record { who = ei.peer.who; stands = ei.peer.stands };
            down = ei.down ∙ sym (ap (λ y. outs (waiting_on y)) (way_stays w id server server e.number (ap (λ t. t && int_eq e.number server) (int_comm server id ∙ far))));
            up = ei.up ∙ sym (ap (λ y. outs (waiting_on y)) (way_stays w id server e.number server (ap (λ t. t && true) apart)));
          })
          (record {
            peer = record { who = ci.peer.who; stands = ci.peer.stands };
            down = ci.down ∙ sym (ap (λ y. outs (waiting_on y)) (way_stays w id server server id (ap (λ t. t && int_eq id server) (int_comm server id ∙ far))));
            up = sym (ap (λ y. outs (waiting_on y)) (way_moves w id server) ∙ f.rest);
          });
      others = ap (has_int server) (numbers_set v.clients i c d at refl) ∙ before.others;
      once = ap is_once (numbers_set v.clients i c d at refl) ∙ before.once;
    }

    k : Keeps s (fed packet_form s w1 server (brought_by id q)) (taken packet_form v.server (event.Received id q.out.class q.out.bytes)).kept
        (with_packets (packets_in (taken packet_form v.server (event.Received id q.out.class q.out.bytes)).outcome) (slice_set v.clients i d))
    k = server_keeps s w1 v.server (slice_set v.clients i d) (brought_by id q) moved a (moved_within w id server far (h.within server))

    made_now : Made
    made_now = server_made (set_client v i d) (event.Received id q.out.class q.out.bytes)

    i_is : IsArrival s w id server q
    i_is = arrival_of s v w id server q del

    count : Counted made_now.parts.put (fed packet_form s w1 server (brought_by id q))
    count = server_counted s w1 v.server (brought_by id q) v.put (counted_before s v w h ∙ ap (λ n. min n (most_in_flight + 1)) (sym (moved_flies w id server))) (distinct_of w1 h.run.members.numbers) a (h.run.core.accepted server) i_is.accepts
        (came_by (fed packet_form s w1 server (brought_by id q)) w.come (arrival id q ∷ heard_at w server) (arrival_members s w id server q refl (arrival_no_news id q i_is.update i_is.reads) h.run.members) refl refl)

-- any delivery

down_of : (s : Scene) (v : Parts) (w : World) (i : ℕ) (c : Client) → Before s v w → slice_get v.clients i ≡ Some c → is_in w c.number ≡ true → RightAt s w (Rel server c.number) (deliver_down v i c c.down)
down_of s v w i c h at inside = by_next c.down refl
  where
    far : int_eq server c.number ≡ false
    far = int_comm server c.number ∙ client_far s w v.server v.clients c i (keeps s v w h) at

    by_next : (ys : List Out) → c.down ≡ ys → RightAt s w (Rel server c.number) (deliver_down v i c ys)
    by_next [] e = refused_right s v w (Rel server c.number) refusal.NothingInFlight h
        (nothing_right s w server c.number inside (ap (λ t. t || (false && not (int_eq c.number server))) far) (none_waits (w.way server c.number) (sym (h.parts.clients i c at).down ∙ e)))
    by_next (x ∷ xs) e = down_right s v w i c x xs h at inside e

up_of : (s : Scene) (v : Parts) (w : World) (i : ℕ) (c : Client) → Before s v w → slice_get v.clients i ≡ Some c → is_in w c.number ≡ true → RightAt s w (Rel c.number server) (deliver_up v i c c.up)
up_of s v w i c h at inside = by_next c.up refl
  where
    far : int_eq c.number server ≡ false
    far = client_far s w v.server v.clients c i (keeps s v w h) at

    by_next : (ys : List Out) → c.up ≡ ys → RightAt s w (Rel c.number server) (deliver_up v i c ys)
    by_next [] e = refused_right s v w (Rel c.number server) refusal.NothingInFlight h
        (nothing_right s w c.number server (ap (λ b. b && true) inside) (ap (λ t. t || (not t && false)) far) (none_waits (w.way c.number server) (sym (h.parts.clients i c at).up ∙ e)))
    by_next (x ∷ xs) e = up_right s v w i c x xs h at inside e

pub rel_right : (s : Scene) (v : Parts) (w : World) (a b : ℤ) → Before s v w → RightAt s w (Rel a b) (rel_made v a b)
rel_right s v w a b h = by_there (not (has_peer v a && has_peer v b)) refl
  where
    gone_is : not (is_in w a && is_in w b) ≡ not (has_peer v a && has_peer v b)
    gone_is = sym (ap₂ (λ c d. not (c && d)) (there s v w a h) (there s v w b h))

    -- the place of a peer that is there and isn't the server
    place : (p : ℤ) → int_eq p server ≡ false → has_peer v p ≡ true → is_some (place_of p v.clients) ≡ true
    place p e is = sym (ap (λ t. t || is_some (place_of p v.clients)) e) ∙ is

    down_at : (o : Option ℕ) → int_eq b server ≡ false → place_of b v.clients ≡ o → is_some o ≡ true → RightAt s w (Rel server b) (delivers_at v true o)
    down_at None e at k = absurd (true≢false (sym k))
    down_at (Some i) e at k =
        let c = client_there v.clients b i at in
        subst (λ o. RightAt s w (Rel server b) (delivers_of v true i o)) (sym c.there)
        (subst (λ q. RightAt s w (Rel server q) (deliver_down v i c.client c.client.down)) c.is (down_of s v w i c.client h c.there (ap (is_in w) c.is ∙ client_in s v w b i h at)))

    up_at : (o : Option ℕ) → int_eq a server ≡ false → place_of a v.clients ≡ o → is_some o ≡ true → RightAt s w (Rel a server) (delivers_at v false o)
    up_at None e at k = absurd (true≢false (sym k))
    up_at (Some i) e at k =
        let c = client_there v.clients a i at in
        subst (λ o. RightAt s w (Rel a server) (delivers_of v false i o)) (sym c.there)
        (subst (λ q. RightAt s w (Rel q server) (deliver_up v i c.client c.client.up)) c.is (up_of s v w i c.client h c.there (ap (is_in w) c.is ∙ client_in s v w a i h at)))

    by_end : (x : Bool) → int_eq a server ≡ x → has_no_link a b ≡ false → has_peer v a ≡ true → has_peer v b ≡ true → RightAt s w (Rel a b) (if x then delivers_at v true (place_of b v.clients) else delivers_at v false (place_of a v.clients))
    by_end true e l ia ib =
        let is = int_is a server e in
        let other : int_eq b server ≡ false = int_comm b server ∙ ap (λ q. int_eq q b) (sym is) ∙ (link_ends a b l).0 in
        subst (λ q. RightAt s w (Rel q b) (delivers_at v true (place_of b v.clients))) (sym is) (down_at (place_of b v.clients) other refl (place b other ib))
    by_end false e l ia ib =
        let is = int_is b server (other_end (int_eq a server) (int_eq b server) (link_ends a b l).1 e) in
        subst (λ q. RightAt s w (Rel a q) (delivers_at v false (place_of a v.clients))) (sym is) (up_at (place_of a v.clients) e refl (place a e ia))
      where
        other_end : (t u : Bool) → (t || u) ≡ true → t ≡ false → u ≡ true
        other_end true u k n = absurd (cc n)
        other_end false u k n = k

    by_link : (x : Bool) → has_no_link a b ≡ x → has_peer v a ≡ true → has_peer v b ≡ true
        → RightAt s w (Rel a b) (if x then unchanged v (answers.Refused refusal.NotLink) else if int_eq a server then delivers_at v true (place_of b v.clients) else delivers_at v false (place_of a v.clients))
    by_link true e ia ib = refused_right s v w (Rel a b) refusal.NotLink h (not_link_right s w a b (ap₂ (λ c d. c && d) (sym (there s v w a h) ∙ ia) (sym (there s v w b h) ∙ ib)) e)
    by_link false e ia ib = by_end (int_eq a server) refl e ia ib

    by_there : (x : Bool) → not (has_peer v a && has_peer v b) ≡ x
        → RightAt s w (Rel a b) (if x then unchanged v (answers.Refused refusal.NoPeer) else if has_no_link a b then unchanged v (answers.Refused refusal.NotLink) else if int_eq a server then delivers_at v true (place_of b v.clients) else delivers_at v false (place_of a v.clients))
    by_there true e = refused_right s v w (Rel a b) refusal.NoPeer h (nobody_right s w a b (gone_is ∙ e))
    by_there false e = let k = and_parts (has_peer v a) (has_peer v b) (not_false (has_peer v a && has_peer v b) e) in by_link (has_no_link a b) refl k.0 k.1
