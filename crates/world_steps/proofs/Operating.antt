-- Operations of peers.
use Rattle.std.proofs.Common.{◌≡◌, ℕ, ℤ, Bool, true, false, not, ◌||◌, ◌∷◌, refl, sym, ap, ap₂, ◌∙◌, subst, is_some, Option, Some, None}
use Rattle.std.specs.Prelude.{slice_get, if◌then◌else◌}
use Rattle.std.specs.List.{slice_set}
use Rattle.std.specs.Ordering.{int_eq}
use Rattle.gd_variant.specs.Words.{when}
use Rattle.scene_model.specs.declared.scene.Scene.{Scene}
use Rattle.scene_model.specs.declared.event.Event.TheVariants as event
use Rattle.scene_model.specs.declared.event.Op.{Op as Operation}
use Rattle.scene_model.specs.declared.world.WorldEvent.TheVariants.{Op}
use Rattle.scene_model.specs.declared.world.WorldOutcome.TheVariants as answers
use Rattle.scene_model.specs.declared.world.WorldNo.TheVariants as refusal
use Rattle.peer_model.specs.Heard.{does, server}
use Rattle.peer_laws.specs.Built.{is_built_op}
use Rattle.peer_laws.proofs.Numbers.{int_is}
use Rattle.peer_laws.proofs.Tests.{or_true}
use Rattle.peer_steps.specs.Steps.{Taken, taken}
use Rattle.peer_core.specs.Forms.{packet_form}
use Rattle.world_model.specs.World.{World, is_in}
use Rattle.world_model.specs.Happens.{packets_in, fed, by_itself}
use Rattle.world_model.specs.Answers.{refused_or, accepted_answer, peer_answer, world_answer, happened}
use Rattle.world_steps.specs.Steps.{Parts, Client, place_of, has_peer, with_packets, unchanged, server_made, client_made, client_does, does_at, op_made}
use Rattle.world_steps.proofs.Runs.{heard_at, come_is, members_fed, op_no_news}
use Rattle.world_steps.proofs.Joins.{op_accepts}
use Rattle.world_steps.proofs.Peers.{IsAnswered, peer_answers}
use Rattle.world_steps.proofs.Places.{client_there, numbers_with, numbers_set}
use Rattle.world_steps.proofs.Keeping.{Keeps, took, server_keeps, client_keeps, client_far}
use Rattle.world_steps.proofs.Answered.{RightAt, Before, keeps, there, distinct_of, counted_before, done_right, undone_right, refused_right, stays_counted, server_counted, came_by, client_counted}

-- operations

server_op : (s : Scene) (v : Parts) (w : World) (op : Operation) → Before s v w → is_built_op op ≡ true → RightAt s w (Op server op) (server_made v (event.Op op))
server_op s v w op h built = by_done (happened (peer_answer server t.outcome)) refl
  where
    t : Taken
    t = taken packet_form v.server (event.Op op)

    a : IsAnswered s w server v.server (event.Op op)
    a = peer_answers s w server v.server (event.Op op) h.parts.server built refl

    k : Keeps s (fed packet_form s w server (by_itself (event.Op op))) t.kept (with_packets (packets_in t.outcome) v.clients)
    k = server_keeps s w v.server v.clients (by_itself (event.Op op)) (keeps s v w h) a (h.within server)

    by_done : (b : Bool) → happened (peer_answer server t.outcome) ≡ b → RightAt s w (Op server op) (server_made v (event.Op op))
    by_done false undone = undone_right s v w (Op server op) (server_made v (event.Op op)) h (ap (peer_answer server) a.answers) undone (stays_counted s v w server t.outcome h undone)
    by_done true done =
        let all = h.run.core.accepted server in
        let acc = op_accepts s w server op all built (sym (ap (λ o. happened (peer_answer server o)) a.answers) ∙ done) in
        let m = members_fed s w server (by_itself (event.Op op)) refl (op_no_news (event.Op op) op refl) h.run.members in
        done_right s w (Op server op) (server_made v (event.Op op)) (ap (peer_answer server) a.answers) done
        (server_counted s w v.server (by_itself (event.Op op)) v.put (counted_before s v w h) (distinct_of w h.run.members.numbers) a all acc (came_by (fed packet_form s w server (by_itself (event.Op op))) w.come (does op ∷ heard_at w server) m refl refl))
        (record {
          live = h.parts.live;
          server = k.server;
          come = h.parts.come;
          numbers = numbers_with (packets_in t.outcome) v.clients ∙ h.parts.numbers;
          clients = k.clients;
        })

pub client_in : (s : Scene) (v : Parts) (w : World) (p : ℤ) (i : ℕ) → Before s v w → place_of p v.clients ≡ Some i → is_in w p ≡ true
client_in s v w p i h at = sym (there s v w p h) ∙ ap (λ o. int_eq p server || is_some o) at ∙ or_true (int_eq p server)

-- an operation of the client at a place
client_op : (s : Scene) (v : Parts) (w : World) (i : ℕ) (c : Client) (op : Operation) → Before s v w → slice_get v.clients i ≡ Some c → is_in w c.number ≡ true → is_built_op op ≡ true → RightAt s w (Op c.number op) (client_made v i c (event.Op op))
client_op s v w i c op h at inside built = by_done (happened (peer_answer c.number t.outcome)) refl
  where
    t : Taken
    t = taken packet_form c.kept (event.Op op)

    a : IsAnswered s w c.number c.kept (event.Op op)
    a = peer_answers s w c.number c.kept (event.Op op) (h.parts.clients i c at).peer built refl

    k : Keeps s (fed packet_form s w c.number (by_itself (event.Op op))) v.server (slice_set v.clients i (took c (event.Op op)))
    k = client_keeps s w v.server v.clients i c (by_itself (event.Op op)) (keeps s v w h) at a (h.within c.number)

    answered : peer_answer c.number t.outcome ≡ world_answer packet_form s w (Op c.number op)
    answered = ap (peer_answer c.number) a.answers ∙ sym (ap (λ b. refused_or (when (not b) refusal.NoPeer) (accepted_answer packet_form s w (Op c.number op))) inside)

    by_done : (b : Bool) → happened (peer_answer c.number t.outcome) ≡ b → RightAt s w (Op c.number op) (client_made v i c (event.Op op))
    by_done false undone = undone_right s v w (Op c.number op) (client_made v i c (event.Op op)) h answered undone (stays_counted s v w c.number t.outcome h undone)
    by_done true done =
        let all = h.run.core.accepted c.number in
        let acc = op_accepts s w c.number op all built (sym (ap (λ o. happened (peer_answer c.number o)) a.answers) ∙ done) in
        let far = client_far s w v.server v.clients c i (keeps s v w h) at in
        done_right s w (Op c.number op) (client_made v i c (event.Op op)) answered done
        (client_counted s w c.number c.kept (by_itself (event.Op op)) v.put (counted_before s v w h) (distinct_of w h.run.members.numbers) (come_is w c.number h.run.members inside far) a all acc)
        (record {
          live = h.parts.live;
          server = k.server;
          come = h.parts.come;
          numbers = numbers_set v.clients i c (took c (event.Op op)) at refl ∙ h.parts.numbers;
          clients = k.clients;
        })

nobody : (s : Scene) (v : Parts) (w : World) (p : ℤ) (op : Operation) → Before s v w → has_peer v p ≡ false → RightAt s w (Op p op) (unchanged v (answers.Refused refusal.NoPeer))
nobody s v w p op h gone = refused_right s v w (Op p op) refusal.NoPeer h (ap (λ b. when (not b) refusal.NoPeer) (sym (there s v w p h) ∙ gone))

pub op_right : (s : Scene) (v : Parts) (w : World) (p : ℤ) (op : Operation) → Before s v w → is_built_op op ≡ true → RightAt s w (Op p op) (op_made v p op)
op_right s v w p op h built = by_server (int_eq p server) refl
  where
    by_place : (o : Option ℕ) → int_eq p server ≡ false → place_of p v.clients ≡ o → RightAt s w (Op p op) (does_at v op o)
    by_place None e at = nobody s v w p op h (ap₂ (λ b o. b || is_some o) e at)
    by_place (Some i) e at =
        let c = client_there v.clients p i at in
        subst (λ o. RightAt s w (Op p op) (client_does v i op o)) (sym c.there)
        (subst (λ q. RightAt s w (Op q op) (client_made v i c.client (event.Op op))) c.is
        (client_op s v w i c.client op h c.there (ap (is_in w) c.is ∙ client_in s v w p i h at) built))

    by_server : (b : Bool) → int_eq p server ≡ b → RightAt s w (Op p op) (if b then server_made v (event.Op op) else does_at v op (place_of p v.clients))
    by_server true e = subst (λ q. RightAt s w (Op q op) (server_made v (event.Op op))) (sym (int_is p server e)) (server_op s v w op h built)
    by_server false e = by_place (place_of p v.clients) e refl
