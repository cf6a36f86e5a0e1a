-- What is asked of a step of a world: that it is answered as the definitions say, and counts what is put in flight.
use Rattle.std.proofs.Common.{◌≡◌, ℕ, ◌+◌, min, ℤ, true, false, not, ◌&&◌, List, [], ◌∷◌, length, map, reverse, refl, sym, ap, ◌∙◌, arith, Some}
use Rattle.std.specs.Prelude.{slice_get, nat_le, nat_lt}
use Rattle.std.proofs.lemmas.Bool.{true≢false, and_parts, leb-true, le-ltb}
use Rattle.gd_variant.specs.Words.{has_int}
use Rattle.scene_model.specs.declared.scene.Scene.{Scene}
use Rattle.scene_model.specs.declared.outcome.Outcome.{Outcome}
use Rattle.scene_model.specs.declared.outcome.Outcome.TheVariants as outcome
use Rattle.scene_model.specs.declared.outcome.Out.{Out}
use Rattle.scene_model.specs.declared.world.WorldEvent.{WorldEvent}
use Rattle.scene_model.specs.declared.world.WorldOutcome.TheVariants as answers
use Rattle.scene_model.specs.declared.world.WorldNo.{WorldNo}
use Rattle.scene_model.specs.Valid.{IsValidScene}
use Rattle.peer_model.specs.Heard.{Heard, server}
use Rattle.peer_model.specs.Peers.{is_up}
use Rattle.peer_model.specs.Bytes.{heard_of}
use Rattle.peer_laws.specs.Built.{Accepts, AllAccepted}
use Rattle.peer_laws.proofs.Tests.{not_false}
use Rattle.headless_tree.proofs.Order.{all_weaker}
use Rattle.peer_steps.specs.Kept.{Kept}
use Rattle.peer_steps.specs.Steps.{taken, is_done}
use Rattle.peer_core.specs.Forms.{packet_form}
use Rattle.world_model.specs.World.{Came, World, peer_of, is_in, clients, bytes_in_flight, most_in_flight, has_room}
use Rattle.world_model.specs.Happens.{packets_in, fed, happens, answer_at}
use Rattle.world_model.specs.Answers.{refused_by, refused_or, accepted_answer, peer_answer, world_answer, happened, overflows}
use Rattle.world_steps.specs.Steps.{Parts, Made, Client, has_peer, put_with, is_over, unchanged}
use Rattle.world_steps.specs.Stands.{IsPeer, IsClient, HasParts}
use Rattle.world_steps.proofs.Numbers.{numbers_to, server_outside, is_once, numbers_once}
use Rattle.world_steps.proofs.Runs.{heard_at, Members, up_is_client}
use Rattle.world_steps.proofs.Joins.{Run}
use Rattle.world_steps.proofs.Peers.{IsAnswered}
use Rattle.world_steps.proofs.Places.{number_in, there_is, server_outside_of, all_once}
use Rattle.world_steps.proofs.Keeping.{Keeps, Within}
use Rattle.world_steps.proofs.Flights.{Distinct, no_server, server_flies, client_flies, up_links, client_links, over_is, under_is, Counts, put_more, put_nothing}

-- What is answered, whether it is over, and what is kept then where the event happened and isn't over.
pub record RightAt (s : Scene) (w : World) (e : WorldEvent) (m : Made) : Type 0 where
  pub answers : m.outcome ≡ world_answer packet_form s w e
  pub over : is_over m ≡ overflows packet_form s w e
  pub stands : happened m.outcome ≡ true → is_over m ≡ false → HasParts s m.parts (happens packet_form s w e)

-- What is known of a world before an event.
pub record Before (s : Scene) (v : Parts) (w : World) : Type 0 where
  pub valid : IsValidScene s
  pub run : Run s w
  pub parts : HasParts s v w
  pub within : (p : ℤ) → Within w p

pub keeps : (s : Scene) (v : Parts) (w : World) → Before s v w → Keeps s w v.server v.clients
keeps s v w h = record { server = h.parts.server; clients = h.parts.clients; others = server_outside_of w v.clients h.run.members h.parts.numbers; once = all_once w v.clients h.run.members h.parts.numbers }

pub there : (s : Scene) (v : Parts) (w : World) (p : ℤ) → Before s v w → has_peer v p ≡ is_in w p
there s v w p h = there_is v w p h.parts.numbers

pub distinct_of : (w : World) → w.come ≡ numbers_to (length w.come) → Distinct w
distinct_of w numbers = record { once = ap is_once numbers ∙ numbers_once (length w.come); others = ap (has_int server) numbers ∙ server_outside (length w.come) }

-- what is kept but for the count of bytes
pub record Has (s : Scene) (v : Parts) (w : World) : Type 0 where
  pub live : v.spent ≡ false
  pub server : IsPeer s w server v.server
  pub come : v.come ≡ length w.come
  pub numbers : map number_in v.clients ≡ reverse (clients w)
  pub clients : (i : ℕ) (c : Client) → slice_get v.clients i ≡ Some c → IsClient s w c

-- the count of the bytes that were ever put in flight
abbrev pub Counted : ℕ → World → Type 0
Counted put w = Counts put (bytes_in_flight w)

pub counted_before : (s : Scene) (v : Parts) (w : World) → Before s v w → Counted v.put w
counted_before s v w h = h.parts.put ∙ sym (under_is (bytes_in_flight w) h.parts.room)

-- an event that happened
pub done_right : (s : Scene) (w : World) (e : WorldEvent) (m : Made) → m.outcome ≡ world_answer packet_form s w e → happened m.outcome ≡ true → Counted m.parts.put (happens packet_form s w e) → Has s m.parts (happens packet_form s w e) → RightAt s w e m
done_right s w e m answers done put has = record {
  answers = answers;
  over = over;
  stands = λ happened room. let fits = not_false (has_room x) (sym over_so ∙ room) in record {
    live = has.live;
    server = has.server;
    come = has.come;
    put = put ∙ under_is (bytes_in_flight x) fits;
    room = fits;
    numbers = has.numbers;
    clients = has.clients;
  };
}
  where
    x : World
    x = happens packet_form s w e

    over_so : is_over m ≡ not (has_room x)
    over_so = ap (nat_lt most_in_flight) put ∙ over_is (bytes_in_flight x)

    over : is_over m ≡ overflows packet_form s w e
    over = over_so ∙ sym (ap (λ t. t && not (has_room x)) (ap happened (sym answers) ∙ done))

-- an event that didn't
pub undone_right : (s : Scene) (v : Parts) (w : World) (e : WorldEvent) (m : Made) → Before s v w → m.outcome ≡ world_answer packet_form s w e → happened m.outcome ≡ false → m.parts.put ≡ v.put → RightAt s w e m
undone_right s v w e m h answers undone put = record {
  answers = answers;
  over = ap (nat_lt most_in_flight) (put ∙ h.parts.put) ∙ none (bytes_in_flight w) h.parts.room ∙ sym (ap (λ t. t && not (has_room (happens packet_form s w e))) (ap happened (sym answers) ∙ undone));
  stands = λ done. absurd (true≢false (sym done ∙ undone));
}
  where
    none : (n : ℕ) → nat_le n most_in_flight ≡ true → nat_lt most_in_flight n ≡ false
    none n k = let low = leb-true n most_in_flight k in le-ltb most_in_flight n (omega (arith, low))

-- an event that is refused
pub refused_right : (s : Scene) (v : Parts) (w : World) (e : WorldEvent) (r : WorldNo) → Before s v w → refused_by packet_form s w e ≡ Some r → RightAt s w e (unchanged v (answers.Refused r))
refused_right s v w e r h why = undone_right s v w e (unchanged v (answers.Refused r)) h (sym (ap (λ o. refused_or o (accepted_answer packet_form s w e)) why)) refl refl

-- counts

-- a peer whose answer isn't done sends nothing
pub not_happened : (p : ℤ) (o : Outcome) → happened (peer_answer p o) ≡ false → (is_done o ≡ false) × (packets_in o ≡ [])
not_happened p (outcome.Done effects) h = absurd (true≢false h)
not_happened p (outcome.Refused r) h = (refl, refl)
not_happened p (outcome.Fault f) h = absurd (true≢false h)

pub stays_counted : (s : Scene) (v : Parts) (w : World) (p : ℤ) (o : Outcome) → Before s v w → happened (peer_answer p o) ≡ false → put_with v.put (packets_in o) ≡ v.put
stays_counted s v w p o h undone = ap (put_with v.put) (not_happened p o undone).1 ∙ put_nothing v.put

-- the server took an event, as those that are up then came
pub server_counted : (s : Scene) (w : World) (k : Kept) (c : Came) (put : ℕ) → Counted put w → Distinct w → IsAnswered s w server k c.event → AllAccepted (peer_of s server) (heard_at w server) → Accepts (peer_of s server) (heard_at w server) (heard_of packet_form c.event)
    → ((p : ℤ) → is_up (heard_of packet_form c.event ∷ heard_at w server) p ≡ true → has_int p w.come ≡ true)
    → Counted (put_with put (packets_in (taken packet_form k c.event).outcome)) (fed packet_form s w server c)
server_counted s w k c put is d a all acc came =
    ap (λ o. put_with put (packets_in o)) a.answers ∙ put_more put (bytes_in_flight w) (packets_in (answer_at packet_form s w server c.event)) is
    ∙ ap (λ n. min n (most_in_flight + 1)) (sym (server_flies s w c d
    (all_weaker (λ (x : Out). is_up (heard_of packet_form c.event ∷ heard_at w server) x.link) (λ (x : Out). has_int x.link w.come) (λ x up. came x.link up) (packets_in (answer_at packet_form s w server c.event)) (up_links s w server c all acc))))

-- in a world whose members are known
pub came_by : (x : World) (come : List ℤ) (hs : List Heard) → Members x → x.come ≡ come → heard_at x server ≡ hs → (p : ℤ) → is_up hs p ≡ true → has_int p come ≡ true
came_by x come hs m same heard p up =
    sym (ap (has_int p) same) ∙ (and_parts (has_int p x.come) (not (has_int p x.gone)) (sym (up_is_client x p m) ∙ ap (λ es. is_up es p) heard ∙ up)).0

-- a client took an event
pub client_counted : (s : Scene) (w : World) (p : ℤ) (k : Kept) (c : Came) (put : ℕ) → Counted put w → Distinct w → has_int p w.come ≡ true → IsAnswered s w p k c.event → AllAccepted (peer_of s p) (heard_at w p) → Accepts (peer_of s p) (heard_at w p) (heard_of packet_form c.event)
    → Counted (put_with put (packets_in (taken packet_form k c.event).outcome)) (fed packet_form s w p c)
client_counted s w p k c put is d came a all acc =
    ap (λ o. put_with put (packets_in o)) a.answers ∙ put_more put (bytes_in_flight w) (packets_in (answer_at packet_form s w p c.event)) is
    ∙ ap (λ n. min n (most_in_flight + 1)) (sym (client_flies s w p c d came (client_links s w p c (no_server w d p came) all acc)))
