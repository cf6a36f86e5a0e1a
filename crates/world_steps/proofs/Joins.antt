-- What an operation and a connect make of a world, where they happened.
use Rattle.std.proofs.Common.{◌≡◌, ℕ, suc, ◌+◌, ◌≤◌, ℤ, pos, Bool, true, false, cond, not, ◌&&◌, ◌||◌, List, [], ◌∷◌, ◌++◌, length, filter, reverse, refl, sym, ap, ap₂, ◌∙◌, arith, nat_eq, Option, Some, None}
use Rattle.std.specs.Prelude.{int_lt, nat_le, nat_lt, if◌then◌else◌}
use Rattle.std.specs.Ordering.{int_eq}
use Rattle.std.proofs.lemmas.Bool.Decides.{nat_tests}
use Rattle.std.proofs.lemmas.Bool.{true≢false, or_from, or_parts}
use Rattle.gd_variant.specs.Words.{has_int, when, first_of, put_by}
use Rattle.scene_model.specs.declared.scene.Scene.{Scene}
use Rattle.scene_model.specs.declared.event.Op.{Op as Operation}
use Rattle.scene_model.specs.declared.event.Op.TheVariants as op_of
use Rattle.scene_model.specs.declared.event.Event.TheVariants as event
use Rattle.scene_model.specs.declared.outcome.Refusal.{Refusal}
use Rattle.scene_model.specs.declared.outcome.Refusal.TheVariants.{BadPeer, PeersFull}
use Rattle.scene_model.specs.declared.world.WorldEvent.TheVariants.{Connect, Op}
use Rattle.scene_model.specs.declared.world.WorldOutcome.{WorldOutcome}
use Rattle.scene_model.specs.declared.world.WorldNo.{WorldNo}
use Rattle.scene_model.specs.declared.world.WorldNo.TheVariants as refusal
use Rattle.scene_model.specs.Valid.{IsValidScene}
use Rattle.peer_model.specs.Heard.{Heard, does, comes, is_server, server}
use Rattle.peer_model.specs.Peers.{is_up, was_up, peers_up}
use Rattle.peer_model.specs.Refusals.{refusal_of, up_refusal}
use Rattle.peer_model.specs.Answer.{decided}
use Rattle.peer_model.specs.Bytes.{outcome_of}
use Rattle.peer_laws.specs.Built.{Accepts, AllAccepted, is_built_op}
use Rattle.peer_laws.proofs.Numbers.{int_is}
use Rattle.peer_laws.proofs.Tests.{never, not_false, or_true, no_answer}
use Rattle.peer_laws.proofs.Told.{come_still_up}
use Rattle.peer_laws.proofs.Ups.{ups_come, come_is_up}
use Rattle.peer_core.specs.Forms.{packet_form}
use Rattle.world_model.specs.World.{World, peer_of, is_in, clients, next_client, heard_in}
use Rattle.world_model.specs.Happens.{path_called, by_itself, with_client, link_up, happens, answer_at}
use Rattle.world_model.specs.Answers.{is_full, refused_by, refused_or, accepted_answer, peer_answer, world_answer, happened}
use Rattle.channel_laws.proofs.Origins.{not_refused}
use Rattle.world_steps.specs.Sound.{is_sound_op}
use Rattle.world_steps.proofs.Numbers.{number_of, numbers_to, not_server, server_not, numbers_apart, has_number_to, next_put, reversed, length-reversed}
use Rattle.world_steps.proofs.Runs.{heard_at, Core, answer_by, fed_itself, Members, op_no_news, members_fed}

-- What holds of a world.
pub record Run (s : Scene) (w : World) : Type 0 where
  pub core : Core s w
  pub members : Members w

-- a line that happened was answered so
pub answered_so : (o : Option WorldNo) (x : WorldOutcome) → happened (refused_or o x) ≡ true → happened x ≡ true
answered_so None x h = h
answered_so (Some r) x h = absurd (cc h)

-- operations

-- an operation that is done is accepted
pub op_accepts : (s : Scene) (w : World) (p : ℤ) (op : Operation) → AllAccepted (peer_of s p) (heard_at w p) → is_built_op op ≡ true → happened (peer_answer p (answer_at packet_form s w p (event.Op op))) ≡ true
    → Accepts (peer_of s p) (heard_at w p) (does op)
op_accepts s w p op all built h = record {
  built = built;
  no_refusal = step (refusal_of (peer_of s p) (heard_at w p) (does op)) (sym (ap (λ o. happened (peer_answer p o)) (answer_by s w p (event.Op op) all)) ∙ h);
  no_fault = refl;
}
  where
    step : (r : Option Refusal) → happened (peer_answer p (outcome_of packet_form (decided (peer_of s p) (heard_at w p) (does op) r None))) ≡ true → r ≡ None
    step None k = refl
    step (Some r) k = absurd (true≢false (sym k))

no_path : (op : Operation) → is_built_op op ≡ true → path_called (event.Op op) ≡ None
no_path (op_of.Spawn o) h = refl
no_path (op_of.Custom o) h = refl
no_path (op_of.Despawn path) h = refl
no_path (op_of.Set path prop value) h = refl
no_path (op_of.Public path k on) h = refl
no_path (op_of.For path k peer on) h = refl
no_path (op_of.Filter path k peers) h = refl
no_path (op_of.Call c) h = absurd (true≢false (sym h))
no_path (op_of.Raw to class bytes) h = refl
no_path op_of.Frame h = refl

op_there : (w : World) (p : ℤ) → when (not (is_in w p)) refusal.NoPeer ≡ None → is_in w p ≡ true
op_there w p h = not_false (is_in w p) (no_answer (not (is_in w p)) refusal.NoPeer h)

pub op_run : (s : Scene) (w : World) (p : ℤ) (op : Operation) → IsValidScene s → Run s w → is_built_op op ≡ true → is_sound_op op ≡ true → happened (world_answer packet_form s w (Op p op)) ≡ true → Run s (happens packet_form s w (Op p op))
op_run s w p op valid h built sound done =
    let none = not_refused (refused_by packet_form s w (Op p op)) (accepted_answer packet_form s w (Op p op)) done in
    let a = op_accepts s w p op (h.core.accepted p) built (answered_so (refused_by packet_form s w (Op p op)) (accepted_answer packet_form s w (Op p op)) done) in
    record {
      core = fed_itself s w p (event.Op op) valid h.core a sound (no_path op built) (λ x z. refl);
      members = members_fed s w p (by_itself (event.Op op)) (op_there w p none) (op_no_news (event.Op op) op refl) h.members;
    }

-- a connect

none_of_two : {X : Type 0} (a b : Bool) (x y : X) → a ≡ false → b ≡ false → first_of (when a x ∷ when b y ∷ []) ≡ None
none_of_two a b x y h k = ap₂ (λ c d. first_of (when c x ∷ when d y ∷ [])) h k

-- the server takes up the next client
pub server_free : (s : Scene) (gs : List Heard) (n : ℕ) → was_up gs (number_of n) ≡ false → nat_le 64 (length (peers_up gs)) ≡ false → up_refusal (peer_of s server) gs (number_of n) ≡ None
server_free s gs n never room = none_of_two _ _ BadPeer PeersFull
    (or_from (int_eq (number_of n) server || was_up gs (number_of n)) (int_lt (number_of n) (pos 2)) (or_from (int_eq (number_of n) server) (was_up gs (number_of n)) (not_server n) never) high)
    room
  where
    high : int_lt (number_of n) (pos 2) ≡ false
    high = let h : nat_lt (2 + n) 2 ≡ false = grind (arith, nat_tests) in h

-- a new client takes up the server
pub client_free : (s : Scene) (n : ℕ) → up_refusal (peer_of s (number_of n)) [] server ≡ None
client_free s n = none_of_two _ _ BadPeer PeersFull
    (or_from (int_eq server (number_of n) || false) (if is_server (peer_of s (number_of n)) then int_lt server (pos 2) else false) (or_from (int_eq server (number_of n)) false (server_not n) refl) (ap (λ b. if b then int_lt server (pos 2) else false) (not_server n)))
    (ap (λ b. b && nat_le 64 0) (not_server n))

-- as many are up at the server as there are clients
pub not_full : (w : World) → Members w → when (is_full w) refusal.PeersFull ≡ None → nat_le 64 (length (peers_up (heard_at w server))) ≡ false
not_full w m none = ap (λ ps. nat_le 64 (length ps)) m.ups ∙ ap (nat_le 64) (length-reversed (clients w)) ∙ (or_parts (nat_le 64 (length (clients w))) _ (no_answer (is_full w) refusal.PeersFull none)).0

-- the next number isn't one of those that went
pub next_stays : (w : World) → Members w → has_int (next_client w) w.gone ≡ false
next_stays w m = never (has_int (next_client w) w.gone) (λ gone.
    let n = length w.come in
    let below : nat_lt n n ≡ false = grind (arith, nat_tests) in
    sym (m.went (next_client w) gone) ∙ ap (has_int (next_client w)) m.numbers ∙ has_number_to n n ∙ below)

-- the clients that are there with the next one
pub clients_with : (w : World) → Members w → clients (with_client w) ≡ next_client w ∷ clients w
clients_with w m = ap (λ t. cond (not t) (next_client w ∷ clients w) (clients w)) (next_stays w m)

-- a new client, and the server that takes up its link
pub record Meets (s : Scene) (w : World) : Type 0 where
  pub at_server : Accepts (peer_of s server) (heard_at (with_client w) server) (comes (next_client w))
  pub at_client : Accepts (peer_of s (next_client w)) (heard_at (link_up packet_form s w) (next_client w)) (comes server)
  pub alone : heard_at (link_up packet_form s w) (next_client w) ≡ []

pub meets : (s : Scene) (w : World) → Members w → nat_le 64 (length (peers_up (heard_at w server))) ≡ false → Meets s w
meets s w m room = record {
  at_server = record { built = refl; no_refusal = server_free s (heard_at w server) n (m.fresh n (omega arith)).1 room; no_fault = refl };
  at_client = record { built = refl; no_refusal = ap (λ gs. up_refusal (peer_of s (number_of n)) gs server) alone ∙ client_free s n; no_fault = refl };
  alone = alone;
}
  where
    n : ℕ
    n = length w.come

    alone : heard_at (link_up packet_form s w) (number_of n) ≡ []
    alone =
        ap (λ t. heard_in packet_form (if t then by_itself (event.Up (number_of n)) ∷ w.history (number_of n) else w.history (number_of n))) (not_server n)
        ∙ ap (heard_in packet_form) (m.fresh n (omega arith)).0

connect_core : (s : Scene) (w : World) → IsValidScene s → Core s w → Meets s w → Core s (happens packet_form s w Connect)
connect_core s w valid h m =
    let first = fed_itself s (with_client w) server (event.Up (next_client w)) valid (record { accepted = h.accepted; sound = h.sound; own = h.own; loose = h.loose; links = h.links }) m.at_server refl refl (λ a b. refl) in
    fed_itself s (link_up packet_form s w) (next_client w) (event.Up server) valid first m.at_client refl refl (λ a b. refl)

pub connect_members : (s : Scene) (w : World) → Members w → Meets s w → Members (happens packet_form s w Connect)
connect_members s w m both = record {
  wild = m.wild;
  numbers = ap (λ ns. number_of n ∷ ns) m.numbers;
  went = λ q h. ap (λ t. int_eq q id || t) (m.went q h) ∙ or_true (int_eq q id);
  ups = ap peers_up at_server ∙ ups_now;
  knows = λ q h. knows_at q (int_eq q id) refl h;
  fresh = λ j far. (fresh_at j far, ap (λ hs. was_up hs (number_of j)) at_server ∙ never_at j far);
}
  where
    n : ℕ
    n = length w.come

    id : ℤ
    id = number_of n

    gs : List Heard
    gs = heard_at w server

    x : World
    x = happens packet_form s w Connect

    y : World
    y = link_up packet_form s w

    at_server : heard_at x server ≡ comes id ∷ gs
    at_server = ap (λ t. heard_in packet_form (if t then by_itself (event.Up server) ∷ y.history server else y.history server)) (server_not n)

    ups_now : peers_up (comes id ∷ gs) ≡ reverse (clients x)
    ups_now =
        ups_come gs id (m.fresh n (omega arith)).1 ∙ ap (put_by int_lt id) (m.ups ∙ among)
        ∙ next_put (λ q. not (has_int q w.gone)) n
        ∙ ap (λ ns. ns ++ id ∷ []) (sym among) ∙ sym (reversed id (clients w)) ∙ ap reverse (sym (clients_with w m))
      where
        among : reverse (clients w) ≡ reverse (filter (λ q. not (has_int q w.gone)) (numbers_to n))
        among = ap (λ ns. reverse (filter (λ q. not (has_int q w.gone)) ns)) m.numbers

    knows_at : (q : ℤ) (t : Bool) → int_eq q id ≡ t → (t || has_int q w.come) ≡ true → is_up (heard_in packet_form (if t then by_itself (event.Up server) ∷ y.history q else y.history q)) server ≡ true
    knows_at q true e h =
        ap (λ z. is_up (comes server ∷ heard_at y z) server) (int_is q id e)
        ∙ ap (λ hs. is_up (comes server ∷ hs) server) both.alone ∙ come_is_up [] server
    knows_at q false e h = at_other (int_eq q server)
      where
        at_other : (t : Bool) → is_up (heard_in packet_form (if t then by_itself (event.Up id) ∷ w.history q else w.history q)) server ≡ true
        at_other true = come_still_up (heard_at w q) id server (m.knows q h)
        at_other false = m.knows q h

    fresh_at : (j : ℕ) → suc n ≤ j → x.history (number_of j) ≡ []
    fresh_at j far =
        let other : nat_eq j n ≡ false = grind (arith, nat_tests, far) in
        ap (λ t. if t then by_itself (event.Up server) ∷ y.history (number_of j) else y.history (number_of j)) (numbers_apart j n other)
        ∙ ap (λ t. if t then by_itself (event.Up id) ∷ w.history (number_of j) else w.history (number_of j)) (not_server j)
        ∙ (m.fresh j (omega (arith, far))).0

    never_at : (j : ℕ) → suc n ≤ j → was_up (comes id ∷ gs) (number_of j) ≡ false
    never_at j far =
        let other : nat_eq j n ≡ false = grind (arith, nat_tests, far) in
        or_from (int_eq (number_of j) id) (was_up gs (number_of j)) (numbers_apart j n other) (m.fresh j (omega (arith, far))).1

pub connect_run : (s : Scene) (w : World) → IsValidScene s → Run s w → happened (world_answer packet_form s w Connect) ≡ true → Run s (happens packet_form s w Connect)
connect_run s w valid h done =
    let none = not_refused (refused_by packet_form s w Connect) (accepted_answer packet_form s w Connect) done in
    let both = meets s w h.members (not_full w h.members none) in
    record { core = connect_core s w valid h.core both; members = connect_members s w h.members both }
