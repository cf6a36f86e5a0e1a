-- What a world keeps, one event later at the server or at a client.
use Rattle.std.proofs.Common.{◌≡◌, ℕ, zero, suc, ◌≤◌, ℤ, Bool, true, false, cond, not, List, [], ◌∷◌, ◌++◌, length, map, filter, refl, sym, ap, ap₂, ◌∙◌, subst, nat_eq, Some}
use Rattle.std.specs.Prelude.{slice_get, if◌then◌else◌}
use Rattle.std.specs.List.{slice_set}
use Rattle.std.specs.Ordering.{int_eq}
use Rattle.std.proofs.lemmas.List.{map-append}
use Rattle.gd_variant.specs.Words.{has_int}
use Rattle.scene_model.specs.declared.scene.Scene.{Scene}
use Rattle.scene_model.specs.declared.event.Event.{Event}
use Rattle.scene_model.specs.declared.outcome.Out.{Out}
use Rattle.peer_model.specs.Heard.{server}
use Rattle.peer_model.specs.Heard as heard
use Rattle.peer_laws.proofs.Numbers.{int_same, int_comm}
use Rattle.peer_steps.specs.Kept.{Kept}
use Rattle.peer_steps.specs.Stands.{StandsFor}
use Rattle.peer_steps.specs.Steps.{taken}
use Rattle.peer_core.specs.Forms.{packet_form}
use Rattle.world_model.specs.World.{Came, World}
use Rattle.world_model.specs.Happens.{packets_in, parcels_made, way_with, fed, answer_at}
use Rattle.channel_laws.specs.Channels.{waiting_on}
use Rattle.world_steps.specs.Steps.{Client, waiting_with, with_down, with_packets}
use Rattle.world_steps.specs.Stands.{outs, IsPeer, IsClient}
use Rattle.world_steps.proofs.Lists.{each_set, each_more, EachAt}
use Rattle.world_steps.proofs.Numbers.{has_kept, is_once, once_kept, once_more, outside_more}
use Rattle.world_steps.proofs.Places.{number_in, apart_at, numbers_left, numbers_set, numbers_with, outside_at}
use Rattle.world_steps.proofs.Links.{some_same}
use Rattle.world_steps.proofs.Waiting.{waiting_more}
use Rattle.world_steps.proofs.Peers.{IsAnswered}

-- What is kept of the server and of each client: none is the server, and none stands twice.
pub record Keeps (s : Scene) (w : World) (k : Kept) (cs : List Client) : Type 0 where
  pub server : IsPeer s w server k
  pub clients : EachAt (λ i c. IsClient s w c) cs
  pub others : has_int heard.server (map number_in cs) ≡ false
  pub once : is_once (map number_in cs) ≡ true

-- no way has more delivered than was sent
abbrev pub Within : World → ℤ → Type 0
Within w p = (b : ℤ) → (w.way p b).delivered ≤ length (w.way p b).sent

pub client_far : (s : Scene) (w : World) (k : Kept) (cs : List Client) (c : Client) (i : ℕ) → Keeps s w k cs → slice_get cs i ≡ Some c → int_eq c.number server ≡ false
client_far s w k cs c i h at = int_comm c.number server ∙ outside_at server cs i c h.others at

pub clients_apart : (s : Scene) (w : World) (k : Kept) (cs : List Client) (c d : Client) (i j : ℕ) → Keeps s w k cs → slice_get cs i ≡ Some c → slice_get cs j ≡ Some d → nat_eq i j ≡ false → int_eq c.number d.number ≡ false
clients_apart s w k cs c d i j h at there n = apart_at cs i j c d h.once at there n

-- a peer that took an event
pub peer_took : (s : Scene) (w : World) (p : ℤ) (k : Kept) (c : Came) → IsAnswered s w p k c.event → IsPeer s (fed packet_form s w p c) p (taken packet_form k c.event).kept
peer_took s w p k c a = record {
  who = a.who;
  stands = subst (StandsFor packet_form (taken packet_form k c.event).kept) (sym (ap (λ t. map (λ (d : Came). d.event) (if t then c ∷ w.history p else w.history p)) (int_same p))) a.stands;
}

-- a peer that didn't
pub peer_waits : (s : Scene) (w : World) (p q : ℤ) (k : Kept) (c : Came) → int_eq q p ≡ false → IsPeer s w q k → IsPeer s (fed packet_form s w p c) q k
peer_waits s w p q k c other h = record {
  who = h.who;
  stands = subst (StandsFor packet_form k) (sym (ap (λ t. map (λ (d : Came). d.event) (if t then c ∷ w.history q else w.history q)) other)) h.stands;
}

-- a way of a peer that took an event, as packets
pub way_more : (s : Scene) (w : World) (p b : ℤ) (k : Kept) (c : Came) (xs : List Out) → IsAnswered s w p k c.event → Within w p → xs ≡ outs (waiting_on (w.way p b))
    → waiting_with xs (packets_in (taken packet_form k c.event).outcome) b ≡ outs (waiting_on ((fed packet_form s w p c).way p b))
way_more s w p b k c xs a within is =
    ap₂ (λ ys o. waiting_with ys (packets_in o) b) is a.answers
    ∙ waiting_more p c b (w.way p b) (packets_in (answer_at packet_form s w p c.event)) (within b)
    ∙ sym (ap (λ t. outs (waiting_on (if t then way_with (w.way p b) b (parcels_made packet_form s w p c) else w.way p b))) (int_same p))

-- a way of one that didn't
pub way_waits : (s : Scene) (w : World) (p q b : ℤ) (c : Came) → int_eq q p ≡ false → (fed packet_form s w p c).way q b ≡ w.way q b
way_waits s w p q b c other = ap (λ t. if t then way_with (w.way q b) b (parcels_made packet_form s w p c) else w.way q b) other

-- the server took an event

each_mapped : (P : ℕ → Client → Type 0) (f : Client → Client) (cs : List Client) → EachAt (λ i c. P i (f c)) cs → EachAt P (map f cs)
each_mapped P f [] each i x e = absurd (cc e)
each_mapped P f (c ∷ cs) each zero x e = subst (P 0) (some_same (f c) x e) (each 0 c refl)
each_mapped P f (c ∷ cs) each (suc i) x e = each_mapped (λ j. P (suc j)) f cs (λ j. each (suc j)) i x e

pub server_keeps : (s : Scene) (w : World) (k : Kept) (cs : List Client) (c : Came) → Keeps s w k cs → IsAnswered s w server k c.event → Within w server
    → Keeps s (fed packet_form s w server c) (taken packet_form k c.event).kept (with_packets (packets_in (taken packet_form k c.event).outcome) cs)
server_keeps s w k cs c h a within = record {
  server = peer_took s w server k c a;
  clients = each_mapped (λ i d. IsClient s x d) (with_down packets) cs (λ i d at. client i d at);
  others = ap (has_int heard.server) (numbers_with packets cs) ∙ h.others;
  once = ap is_once (numbers_with packets cs) ∙ h.once;
}
  where
    x : World
    x = fed packet_form s w server c

    packets : List Out
    packets = packets_in (taken packet_form k c.event).outcome

    client : (i : ℕ) (d : Client) → slice_get cs i ≡ Some d → IsClient s x (with_down packets d)
    client i d at =
        let far = client_far s w k cs d i h at in
        let is = h.clients i d at in
        record {
          peer = peer_waits s w server d.number d.kept c far is.peer;
          down = way_more s w server d.number k c d.down a within is.down;
          up = is.up ∙ sym (ap (λ y. outs (waiting_on y)) (way_waits s w server d.number server c far));
        }

-- a client that another peer's event leaves as it is
client_waits : (s : Scene) (w : World) (p : ℤ) (c : Came) (d : Client) → int_eq d.number p ≡ false → int_eq server p ≡ false → IsClient s w d → IsClient s (fed packet_form s w p c) d
client_waits s w p c d other far is = record {
  peer = peer_waits s w p d.number d.kept c other is.peer;
  down = is.down ∙ sym (ap (λ y. outs (waiting_on y)) (way_waits s w p server d.number c far));
  up = is.up ∙ sym (ap (λ y. outs (waiting_on y)) (way_waits s w p d.number server c other));
}

-- a client that took an event
abbrev pub took : Client → Event → Client
took d e = record d { kept = (taken packet_form d.kept e).kept; up = waiting_with d.up (packets_in (taken packet_form d.kept e).outcome) server }

client_took : (s : Scene) (w : World) (d : Client) (c : Came) → int_eq server d.number ≡ false → IsClient s w d → IsAnswered s w d.number d.kept c.event → Within w d.number → IsClient s (fed packet_form s w d.number c) (took d c.event)
client_took s w d c far is a within = record {
  peer = peer_took s w d.number d.kept c a;
  down = is.down ∙ sym (ap (λ y. outs (waiting_on y)) (way_waits s w d.number server d.number c far));
  up = way_more s w d.number server d.kept c d.up a within is.up;
}

pub client_keeps : (s : Scene) (w : World) (k : Kept) (cs : List Client) (i : ℕ) (d : Client) (c : Came) → Keeps s w k cs → slice_get cs i ≡ Some d → IsAnswered s w d.number d.kept c.event → Within w d.number
    → Keeps s (fed packet_form s w d.number c) k (slice_set cs i (took d c.event))
client_keeps s w k cs i d c h at a within = record {
  server = peer_waits s w d.number server k c far h.server;
  clients = each_set (λ j e. IsClient s (fed packet_form s w d.number c) e) cs i (took d c.event)
      (λ j e there n. client_waits s w d.number c e (clients_apart s w k cs e d j i h there at n) far (h.clients j e there))
      (client_took s w d c far (h.clients i d at) a within);
  others = ap (has_int heard.server) (numbers_set cs i d (took d c.event) at refl) ∙ h.others;
  once = ap is_once (numbers_set cs i d (took d c.event) at refl) ∙ h.once;
}
  where
    far : int_eq server d.number ≡ false
    far = outside_at server cs i d h.others at

-- one client more that took an event, whose number is new
pub joins_keeps : (s : Scene) (w : World) (k : Kept) (cs : List Client) (d : Client) (c : Came) → Keeps s w k cs → int_eq d.number server ≡ false → has_int d.number (map number_in cs) ≡ false → IsClient s w d → IsAnswered s w d.number d.kept c.event → Within w d.number
    → Keeps s (fed packet_form s w d.number c) k (cs ++ took d c.event ∷ [])
joins_keeps s w k cs d c h other new is a within = record {
  server = peer_waits s w d.number server k c far h.server;
  clients = each_more (λ j e. IsClient s (fed packet_form s w d.number c) e) cs (took d c.event)
      (λ j e there. client_waits s w d.number c e (int_comm e.number d.number ∙ outside_at d.number cs j e new there) far (h.clients j e there))
      (client_took s w d c far is a within);
  others = ap (has_int heard.server) (map-append number_in cs (took d c.event ∷ [])) ∙ outside_more heard.server (map number_in cs) d.number h.others far;
  once = ap is_once (map-append number_in cs (took d c.event ∷ [])) ∙ once_more (map number_in cs) d.number h.once new;
}
  where
    far : int_eq server d.number ≡ false
    far = int_comm server d.number ∙ other

-- clients without one

left_from : (P : Client → Type 0) (q : Client → Bool) (cs : List Client) → ((i : ℕ) (c : Client) → slice_get cs i ≡ Some c → P c) → (i : ℕ) (c : Client) → slice_get (filter q cs) i ≡ Some c → P c
left_from P q [] each i c at = absurd (cc at)
left_from P q (d ∷ cs) each i c at = step (q d) i at (λ j there. left_from P q cs (λ k e. each (suc k) e) j c there)
  where
    step : (t : Bool) (j : ℕ) → slice_get (cond t (d ∷ filter q cs) (filter q cs)) j ≡ Some c → ((k : ℕ) → slice_get (filter q cs) k ≡ Some c → P c) → P c
    step true zero there more = each 0 c there
    step true (suc j) there more = more j there
    step false j there more = more j there

pub left_keeps : (s : Scene) (w : World) (k : Kept) (cs : List Client) (p : ℤ) → Keeps s w k cs → Keeps s w k (filter (λ (c : Client). not (int_eq c.number p)) cs)
left_keeps s w k cs p h = record {
  server = h.server;
  clients = left_from (IsClient s w) (λ (c : Client). not (int_eq c.number p)) cs h.clients;
  others = ap (has_int heard.server) (numbers_left p cs) ∙ has_kept (λ n. not (int_eq n p)) heard.server (map number_in cs) h.others;
  once = ap is_once (numbers_left p cs) ∙ once_kept (λ n. not (int_eq n p)) (map number_in cs) h.once;
}
