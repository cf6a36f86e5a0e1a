-- A client that goes down.
use Rattle.std.proofs.Common.{◌≡◌, ℕ, ℤ, Bool, true, false, not, ◌||◌, List, [], ◌∷◌, map, filter, reverse, refl, sym, ap, ap₂, ◌∙◌, subst, is_some, Some}
use Rattle.std.specs.Prelude.{slice_get, if◌then◌else◌}
use Rattle.std.specs.Ordering.{int_eq}
use Rattle.gd_variant.specs.Words.{when, first_of}
use Rattle.scene_model.specs.declared.scene.Scene.{Scene}
use Rattle.scene_model.specs.declared.event.Event.TheVariants as event
use Rattle.scene_model.specs.declared.outcome.Outcome.{Outcome}
use Rattle.scene_model.specs.declared.outcome.Outcome.TheVariants as outcome
use Rattle.scene_model.specs.declared.outcome.Out.{Out}
use Rattle.scene_model.specs.declared.world.WorldEvent.TheVariants.{Down}
use Rattle.scene_model.specs.declared.world.WorldOutcome.TheVariants as answers
use Rattle.scene_model.specs.declared.world.WorldNo.TheVariants as refusal
use Rattle.peer_model.specs.Heard.{goes, server}
use Rattle.peer_model.specs.Answer.{decided}
use Rattle.peer_model.specs.Bytes.{outcome_of}
use Rattle.peer_laws.specs.Built.{Accepts}
use Rattle.peer_steps.specs.Steps.{Taken, taken, is_done}
use Rattle.peer_core.specs.Forms.{packet_form}
use Rattle.world_model.specs.World.{Came, World, peer_of, is_in, clients}
use Rattle.world_model.specs.Happens.{packets_in, fed, by_itself, happens}
use Rattle.world_model.specs.Answers.{refused_or, accepted_answer, peer_answer, world_answer, happened}
use Rattle.world_steps.specs.Steps.{Parts, Client, place_of, put_with, with_packets, left_after, unchanged, down_with, down_made}
use Rattle.world_steps.specs.Stands.{IsClient}
use Rattle.world_steps.proofs.Numbers.{left_reversed}
use Rattle.world_steps.proofs.Runs.{heard_at, answer_by}
use Rattle.world_steps.proofs.Goings.{IsGoing, down_accepts, clients_left, down_members}
use Rattle.world_steps.proofs.Peers.{IsAnswered, peer_answers}
use Rattle.world_steps.proofs.Places.{number_in, numbers_with, numbers_left}
use Rattle.world_steps.proofs.Keeping.{Keeps, server_keeps, left_keeps}
use Rattle.world_steps.proofs.Answered.{RightAt, Before, keeps, there, distinct_of, Counted, counted_before, done_right, refused_right, server_counted, came_by}

-- a client that goes down

down_done : (s : Scene) (v : Parts) (w : World) (p : ℤ) → Before s v w → int_eq p server ≡ false → is_in w p ≡ true → RightAt s w (Down p) (down_with v p (taken packet_form v.server (event.Down p)))
down_done s v w p h client inside = done_right s w (Down p) (down_with v p t) answered done count (record {
  live = h.parts.live;
  server = k.server;
  come = h.parts.come;
  numbers = numbers_with ps (left_after (is_done t.outcome) p v.clients) ∙ ap (λ b. map number_in (left_after b p v.clients)) is_taken
      ∙ numbers_left p v.clients ∙ ap (filter (λ n. not (int_eq n p))) h.parts.numbers ∙ left_reversed (λ n. not (int_eq n p)) (clients w) ∙ ap reverse (sym (clients_left w p));
  clients = subst (λ b. (i : ℕ) (c : Client) → slice_get (with_packets ps (left_after b p v.clients)) i ≡ Some c → IsClient s (happens packet_form s w (Down p)) c) (sym is_taken) k.clients;
})
  where
    t : Taken
    t = taken packet_form v.server (event.Down p)

    ps : List Out
    ps = packets_in t.outcome

    c : Came
    c = by_itself (event.Down p)

    w0 : World
    w0 = record w { gone = p ∷ w.gone }

    g : IsGoing w p
    g = record { client = client; there = inside }

    acc : Accepts (peer_of s server) (heard_at w server) (goes p)
    acc = down_accepts s w p h.run.members g

    before : Keeps s w v.server v.clients
    before = keeps s v w h

    begun : Keeps s w0 v.server v.clients
    begun = record {
      server = record { who = before.server.who; stands = before.server.stands };
      clients = λ i d at. let di = before.clients i d at in record { peer = record { who = di.peer.who; stands = di.peer.stands }; down = di.down; up = di.up };
      others = before.others;
      once = before.once;
    }

    a : IsAnswered s w0 server v.server (event.Down p)
    a = peer_answers s w0 server v.server (event.Down p) begun.server refl refl

    -- the server takes its link down
    is_taken : is_done t.outcome ≡ true
    is_taken = ap is_done a.answers ∙ ap is_done (answer_by s w server (event.Down p) (h.run.core.accepted server))
        ∙ ap₂ (λ r f. is_done (outcome_of packet_form (decided (peer_of s server) (heard_at w server) (goes p) r f))) acc.no_refusal acc.no_fault

    done : happened (peer_answer server t.outcome) ≡ true
    done = by_outcome t.outcome is_taken
      where
        by_outcome : (o : Outcome) → is_done o ≡ true → happened (peer_answer server o) ≡ true
        by_outcome (outcome.Done effects) e = refl
        by_outcome o e = absurd (cc e)

    answered : peer_answer server t.outcome ≡ world_answer packet_form s w (Down p)
    answered = ap (peer_answer server) a.answers ∙ sym (ap₂ (λ x y. refused_or (first_of (when x refusal.Server ∷ when (not y) refusal.NoPeer ∷ [])) (accepted_answer packet_form s w (Down p))) client inside)

    k : Keeps s (fed packet_form s w0 server c) t.kept (with_packets ps (left_after true p v.clients))
    k = server_keeps s w0 v.server (left_after true p v.clients) c (left_keeps s w0 v.server v.clients p begun) a (h.within server)

    count : Counted (put_with v.put ps) (happens packet_form s w (Down p))
    count = server_counted s w0 v.server c v.put (counted_before s v w h) (distinct_of w0 h.run.members.numbers) a (h.run.core.accepted server) acc
        (came_by (happens packet_form s w (Down p)) w.come (goes p ∷ heard_at w server) (down_members s w p h.run.members g) refl refl)

pub down_event : (s : Scene) (v : Parts) (w : World) (p : ℤ) → Before s v w → RightAt s w (Down p) (down_made v p)
down_event s v w p h = by_server (int_eq p server) refl
  where
    by_place : (b : Bool) → is_some (place_of p v.clients) ≡ b → int_eq p server ≡ false → RightAt s w (Down p) (if b then down_with v p (taken packet_form v.server (event.Down p)) else unchanged v (answers.Refused refusal.NoPeer))
    by_place true at e = down_done s v w p h e (sym (there s v w p h) ∙ ap₂ (λ x y. x || y) e at)
    by_place false at e = refused_right s v w (Down p) refusal.NoPeer h
        (ap₂ (λ x y. first_of (when x refusal.Server ∷ when (not y) refusal.NoPeer ∷ [])) e (sym (there s v w p h) ∙ ap₂ (λ x y. x || y) e at))

    by_server : (b : Bool) → int_eq p server ≡ b → RightAt s w (Down p) (if b then unchanged v (answers.Refused refusal.Server) else if is_some (place_of p v.clients) then down_with v p (taken packet_form v.server (event.Down p)) else unchanged v (answers.Refused refusal.NoPeer))
    by_server true e = refused_right s v w (Down p) refusal.Server h (ap (λ x. first_of (when x refusal.Server ∷ when (not (is_in w p)) refusal.NoPeer ∷ [])) e)
    by_server false e = by_place (is_some (place_of p v.clients)) refl e
