-- A client that goes down, by what it makes of a world.
use Rattle.std.proofs.Common.{◌≡◌, ℤ, Bool, true, false, cond, not, ◌||◌, List, [], ◌∷◌, length, filter, reverse, refl, sym, ap, ◌∙◌, None}
use Rattle.std.specs.Prelude.{if◌then◌else◌}
use Rattle.std.specs.Ordering.{int_eq}
use Rattle.std.proofs.lemmas.Bool.{true≢false}
use Rattle.gd_variant.specs.Words.{has_int, when}
use Rattle.scene_model.specs.declared.scene.Scene.{Scene}
use Rattle.scene_model.specs.declared.event.Event.TheVariants as event
use Rattle.scene_model.specs.declared.outcome.Refusal.TheVariants.{NoPeer}
use Rattle.scene_model.specs.declared.world.WorldEvent.TheVariants.{Down}
use Rattle.scene_model.specs.declared.world.WorldNo.TheVariants as refusal
use Rattle.scene_model.specs.Valid.{IsValidScene}
use Rattle.peer_model.specs.Heard.{Heard, goes, server}
use Rattle.peer_model.specs.Peers.{is_up}
use Rattle.peer_laws.specs.Built.{Accepts}
use Rattle.peer_laws.proofs.Numbers.{int_is}
use Rattle.peer_laws.proofs.Tests.{not_false, no_row}
use Rattle.peer_laws.proofs.Ups.{ups_go}
use Rattle.peer_core.specs.Forms.{packet_form}
use Rattle.world_model.specs.World.{World, peer_of, is_in, clients, heard_in}
use Rattle.world_model.specs.Happens.{by_itself, happens}
use Rattle.world_model.specs.Answers.{refused_by, accepted_answer, world_answer, happened}
use Rattle.channel_laws.proofs.Origins.{not_refused}
use Rattle.world_steps.proofs.Numbers.{number_of, not_server, server_outside, left_reversed}
use Rattle.world_steps.proofs.Runs.{heard_at, fed_itself, Members, come_is, up_is_client}
use Rattle.world_steps.proofs.Joins.{Run}
use Rattle.world_steps.proofs.Arrivals.{client_of}

-- a client that goes down

-- What is known of a down that isn't refused.
pub record IsGoing (w : World) (p : ℤ) : Type 0 where
  pub client : int_eq p server ≡ false
  pub there : is_in w p ≡ true

pub going_of : (s : Scene) (w : World) (p : ℤ) → refused_by packet_form s w (Down p) ≡ None → IsGoing w p
going_of s w p h =
    let first = no_row (int_eq p server) refusal.Server (when (not (is_in w p)) refusal.NoPeer ∷ []) h in
    let second = no_row (not (is_in w p)) refusal.NoPeer [] first.1 in
    record { client = first.0; there = not_false (is_in w p) second.0 }

-- the server takes its link down
pub down_accepts : (s : Scene) (w : World) (p : ℤ) → Members w → IsGoing w p → Accepts (peer_of s server) (heard_at w server) (goes p)
down_accepts s w p m g = record { built = refl; no_refusal = ap (λ t. when (not t) NoPeer) (up_is_client w p m ∙ client_of w p g.there g.client); no_fault = refl }

-- those that are left, with one more that went
left_with : (p : ℤ) (gs qs : List ℤ) → filter (λ q. not (has_int q (p ∷ gs))) qs ≡ filter (λ q. not (int_eq q p)) (filter (λ q. not (has_int q gs)) qs)
left_with p gs [] = refl
left_with p gs (q ∷ qs) = step (int_eq q p) refl (has_int q gs) (left_with p gs qs)
  where
    more : List ℤ
    more = filter (λ z. not (has_int z (p ∷ gs))) qs

    rest : List ℤ
    rest = filter (λ z. not (has_int z gs)) qs

    others : List ℤ
    others = filter (λ z. not (int_eq z p)) rest

    step : (t : Bool) → int_eq q p ≡ t → (u : Bool) → more ≡ others → cond (not (t || u)) (q ∷ more) more ≡ filter (λ z. not (int_eq z p)) (cond (not u) (q ∷ rest) rest)
    step true e true h = h
    step true e false h = h ∙ sym (ap (λ t. cond (not t) (q ∷ others) others) e)
    step false e true h = h
    step false e false h = ap (λ zs. q ∷ zs) h ∙ sym (ap (λ t. cond (not t) (q ∷ others) others) e)

-- the clients that are left
pub clients_left : (w : World) (p : ℤ) → clients (record w { gone = p ∷ w.gone }) ≡ filter (λ q. not (int_eq q p)) (clients w)
clients_left w p = left_with p w.gone w.come

pub down_members : (s : Scene) (w : World) (p : ℤ) → Members w → IsGoing w p → Members (happens packet_form s w (Down p))
down_members s w p m g = record {
  wild = m.wild;
  numbers = m.numbers;
  went = λ q h. went_at q (int_eq q p) refl h;
  ups = ups_go gs p ∙ ap (filter (λ c. not (int_eq c p))) m.ups ∙ left_reversed (λ c. not (int_eq c p)) (clients w) ∙ ap reverse (sym (clients_left w p));
  knows = λ q h. knows_at q h (int_eq q server) refl;
  fresh = λ n far. (ap (λ t. if t then by_itself (event.Down p) ∷ w.history (number_of n) else w.history (number_of n)) (not_server n) ∙ (m.fresh n far).0, (m.fresh n far).1);
}
  where
    gs : List Heard
    gs = heard_at w server

    went_at : (q : ℤ) (t : Bool) → int_eq q p ≡ t → (t || has_int q w.gone) ≡ true → has_int q w.come ≡ true
    went_at q true e h = ap (λ z. has_int z w.come) (int_is q p e) ∙ come_is w p m g.there g.client
    went_at q false e h = m.went q h

    knows_at : (q : ℤ) → has_int q w.come ≡ true → (t : Bool) → int_eq q server ≡ t → is_up (heard_in packet_form (if t then by_itself (event.Down p) ∷ w.history q else w.history q)) server ≡ true
    knows_at q h true e = absurd (true≢false (sym h ∙ ap (λ z. has_int z w.come) (int_is q server e) ∙ ap (has_int server) m.numbers ∙ server_outside (length w.come)))
    knows_at q h false e = m.knows q h

pub down_run : (s : Scene) (w : World) (p : ℤ) → IsValidScene s → Run s w → happened (world_answer packet_form s w (Down p)) ≡ true → Run s (happens packet_form s w (Down p))
down_run s w p valid h done =
    let g = going_of s w p (not_refused (refused_by packet_form s w (Down p)) (accepted_answer packet_form s w (Down p)) done) in
    record {
      core = fed_itself s (record w { gone = p ∷ w.gone }) server (event.Down p) valid (record { accepted = h.core.accepted; sound = h.core.sound; own = h.core.own; loose = h.core.loose; links = h.core.links }) (down_accepts s w p h.members g) refl refl (λ a b. refl);
      members = down_members s w p h.members g;
    }
