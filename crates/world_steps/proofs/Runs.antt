-- What holds of every world that a script of built events makes: each event of a peer was accepted, and each way of a link has the changes that its sender told.
use Rattle.std.proofs.Common.{◌≡◌, ℕ, ◌≤◌, ℤ, Bool, true, false, not, ◌&&◌, ◌||◌, List, [], ◌∷◌, ◌++◌, length, map, reverse, refl, sym, ap, ap₂, ◌∙◌, subst, arith, Option, Some, None}
use Rattle.std.specs.Prelude.{is_none, nat_lt, if◌then◌else◌}
use Rattle.std.specs.List.{list_all}
use Rattle.std.specs.Ordering.{int_eq}
use Rattle.std.proofs.lemmas.Bool.Decides.{nat_tests}
use Rattle.std.proofs.lemmas.Bool.{true≢false, and_from, and_parts, or_parts}
use Rattle.gd_variant.specs.Words.{has_int}
use Rattle.scene_model.specs.declared.scene.Scene.{Scene}
use Rattle.scene_model.specs.declared.event.Op.{Op as Operation}
use Rattle.scene_model.specs.declared.event.Event.{Event}
use Rattle.scene_model.specs.declared.event.Event.TheVariants as event
use Rattle.scene_model.specs.Valid.{IsValidScene}
use Rattle.peer_model.specs.Heard.{Who, Heard, server}
use Rattle.peer_model.specs.Peers.{is_up, was_up, peers_up}
use Rattle.peer_model.specs.View.{updates_from}
use Rattle.peer_model.specs.Refusals.{refusal_of}
use Rattle.peer_model.specs.Faults.{fault_of}
use Rattle.peer_model.specs.Answer.{accepted, judge, decided, sends}
use Rattle.peer_model.specs.Bytes.{heard_of, out_of, outcome_of, accepted_events}
use Rattle.peer_model.proofs.Accept.{accepted_done}
use Rattle.peer_laws.specs.Built.{Accepts, AllAccepted}
use Rattle.peer_laws.proofs.Numbers.{int_is, int_same}
use Rattle.peer_laws.proofs.Tests.{never}
use Rattle.peer_laws.proofs.Ups.{has_up, up_is_direct}
use Rattle.peer_core.specs.Forms.{packet_form}
use Rattle.world_model.specs.World.{Parcel, Came, World, peer_of, is_in, is_client, clients, heard_in, keep_entry, accepted_entries, accepted_history, accepted_at, events_at}
use Rattle.world_model.specs.Happens.{packets_in, path_called, parcels_made, on_link, way_with, fed, by_itself, answer_at}
use Rattle.world_model.specs.Answers.{has_no_link}
use Rattle.world_steps.proofs.SoundValues.{is_sound_heard}
use Rattle.world_steps.proofs.Readable.{up_readable}
use Rattle.world_steps.proofs.Numbers.{number_of, numbers_to, has_left, has_number_to, has_reversed, not_server}
use Rattle.world_steps.proofs.Links.{IsLink, OwnTags, is_straight, told_parcels, adds_up, link_posts, link_posts_no_loose, link_posts_nothing, link_more, link_stays}

-- all events of a peer
abbrev pub heard_at : World → ℤ → List Heard
heard_at w p = heard_in packet_form (w.history p)

-- an entry that a parcel brought: it comes from the other end of a link, and has no tick
abbrev pub own_if : ℤ → Option Parcel → Bool
own_if p None = true
own_if p (Some q) = not (has_no_link q.tag.origin p) && is_none q.tag.tick

abbrev pub is_own_entry : ℤ → Came → Bool
is_own_entry p c = own_if p c.brought

-- What holds of the events of peers, and of the ways between them.
pub record Core (s : Scene) (w : World) : Type 0 where
  pub accepted : (p : ℤ) → AllAccepted (peer_of s p) (heard_at w p)
  pub sound : (p : ℤ) → list_all is_sound_heard (heard_at w p) ≡ true
  pub own : (p : ℤ) → list_all (is_own_entry p) (w.history p) ≡ true
  pub loose : (a b : ℤ) → (w.way a b).loose ≡ []
  pub links : (a b : ℤ) → has_no_link a b ≡ false → IsLink s a b (heard_at w a) (heard_at w b) (w.history b) (w.way a b)

-- accepted events are all events

heards : (cs : List Came) → map (heard_of packet_form) (map (λ (c : Came). c.event) cs) ≡ heard_in packet_form cs
heards [] = refl
heards (c ∷ cs) = ap (λ es. heard_of packet_form c.event ∷ es) (heards cs)

all_kept : (who : Who) (es : List Heard) → AllAccepted who es → accepted who es ≡ es
all_kept who [] all = refl
all_kept who (e ∷ es) all =
    let before = all_kept who es all.1 in
    accepted_done who es e (ap (λ gs. refusal_of who gs e) before ∙ all.0.no_refusal) (ap (λ gs. fault_of who gs e) before ∙ all.0.no_fault) ∙ ap (λ gs. e ∷ gs) before

pub accepted_is : (who : Who) (cs : List Came) → AllAccepted who (heard_in packet_form cs) → accepted_events packet_form who (map (λ (c : Came). c.event) cs) ≡ heard_in packet_form cs
accepted_is who cs all = ap (accepted who) (heards cs) ∙ all_kept who (heard_in packet_form cs) all

pub entries_are : (who : Who) (cs : List Came) → AllAccepted who (heard_in packet_form cs) → accepted_entries packet_form who cs ≡ cs
entries_are who [] all = refl
entries_are who (c ∷ cs) all =
    let before = entries_are who cs all.1 in
    let e = heard_of packet_form c.event in
    ap (λ kept. keep_entry c kept (judge who (heard_in packet_form kept) e)) before
    ∙ ap₂ (λ r f. keep_entry c cs (decided who (heard_in packet_form cs) e r f)) all.0.no_refusal all.0.no_fault

pub history_is : (s : Scene) (w : World) → Core s w → (p : ℤ) → accepted_history packet_form s w p ≡ w.history p
history_is s w h p = entries_are (peer_of s p) (w.history p) (h.accepted p)

pub heard_is : (s : Scene) (w : World) → Core s w → (p : ℤ) → accepted_at packet_form s w p ≡ heard_at w p
heard_is s w h p = ap (heard_in packet_form) (history_is s w h p)

pub events_are : (s : Scene) (w : World) → Core s w → (p : ℤ) → accepted_events packet_form (peer_of s p) (events_at w p) ≡ heard_at w p
events_are s w h p = accepted_is (peer_of s p) (w.history p) (h.accepted p)

-- what an accepted event is answered
pub answer_by : (s : Scene) (w : World) (p : ℤ) (e : Event) → AllAccepted (peer_of s p) (heard_at w p)
    → answer_at packet_form s w p e ≡ outcome_of packet_form (decided (peer_of s p) (heard_at w p) (heard_of packet_form e) (refusal_of (peer_of s p) (heard_at w p) (heard_of packet_form e)) (fault_of (peer_of s p) (heard_at w p) (heard_of packet_form e)))
answer_by s w p e all = ap (λ gs. outcome_of packet_form (decided (peer_of s p) gs (heard_of packet_form e) (refusal_of (peer_of s p) gs (heard_of packet_form e)) (fault_of (peer_of s p) gs (heard_of packet_form e)))) (accepted_is (peer_of s p) (w.history p) all)

pub packets_are : (s : Scene) (w : World) (p : ℤ) (e : Event) → AllAccepted (peer_of s p) (heard_at w p) → Accepts (peer_of s p) (heard_at w p) (heard_of packet_form e)
    → packets_in (answer_at packet_form s w p e) ≡ map (out_of packet_form) (sends (peer_of s p) (heard_of packet_form e) (heard_at w p))
packets_are s w p e all a =
    ap packets_in (answer_by s w p e all)
    ∙ ap₂ (λ r f. packets_in (outcome_of packet_form (decided (peer_of s p) (heard_at w p) (heard_of packet_form e) r f))) a.no_refusal a.no_fault

-- links

both_no : (t u : Bool) → (not t && not u) ≡ false → (t || u) ≡ true
both_no true u h = refl
both_no false true h = refl
both_no false false h = absurd (cc h)

-- the ends of a link differ, and one is the server
pub link_ends : (a b : ℤ) → has_no_link a b ≡ false → (int_eq a b ≡ false) × ((int_eq a server || int_eq b server) ≡ true)
link_ends a b h = let parts = or_parts (int_eq a b) (not (int_eq a server) && not (int_eq b server)) h in (parts.0, both_no (int_eq a server) (int_eq b server) parts.1)

-- An event of a peer: it is accepted and sound, and what it posts are its changes.
pub record IsEvent (s : Scene) (w : World) (p : ℤ) (c : Came) : Type 0 where
  pub accepts : Accepts (peer_of s p) (heard_at w p) (heard_of packet_form c.event)
  pub sound : is_sound_heard (heard_of packet_form c.event) ≡ true
  pub own : is_own_entry p c ≡ true
  pub posts : (b : ℤ) → is_straight (peer_of s p) b ≡ true → on_link b true (parcels_made packet_form s w p c) ≡ told_parcels p b (adds_up (peer_of s p) (heard_of packet_form c.event) (heard_at w p) b)
  pub no_loose : (b : ℤ) → on_link b false (parcels_made packet_form s w p c) ≡ []

-- an event whose parcels are its peer's own
pub event_of : (s : Scene) (w : World) (p : ℤ) (c : Came) → AllAccepted (peer_of s p) (heard_at w p) → Accepts (peer_of s p) (heard_at w p) (heard_of packet_form c.event) → is_sound_heard (heard_of packet_form c.event) ≡ true → is_own_entry p c ≡ true → OwnTags p c → IsEvent s w p c
event_of s w p c all a sound own tags = record {
  accepts = a;
  sound = sound;
  own = own;
  posts = λ b direct. link_posts s p b c (heard_at w p) (packets_in (answer_at packet_form s w p c.event)) (a, all) direct tags (packets_are s w p c.event all a);
  no_loose = λ b. loose b (is_straight (peer_of s p) b) refl;
}
  where
    loose : (b : ℤ) (t : Bool) → is_straight (peer_of s p) b ≡ t → on_link b false (parcels_made packet_form s w p c) ≡ []
    loose b true direct = link_posts_no_loose s p b c (heard_at w p) (packets_in (answer_at packet_form s w p c.event)) (a, all) direct (packets_are s w p c.event all a)
    loose b false direct = link_posts_nothing s p b false c (heard_of packet_form c.event) (heard_at w p) (packets_in (answer_at packet_form s w p c.event)) (a, all)
        (never (is_up (heard_of packet_form c.event ∷ heard_at w p) b) (λ up. sym (up_is_direct (peer_of s p) (heard_of packet_form c.event ∷ heard_at w p) (a, all) b up) ∙ direct))
        (packets_are s w p c.event all a)

-- an event that no parcel brought
pub event_by_itself : (s : Scene) (w : World) (p : ℤ) (e : Event) → AllAccepted (peer_of s p) (heard_at w p) → Accepts (peer_of s p) (heard_at w p) (heard_of packet_form e) → is_sound_heard (heard_of packet_form e) ≡ true → path_called e ≡ None → IsEvent s w p (by_itself e)
event_by_itself s w p e all a sound plain = event_of s w p (by_itself e) all a sound refl (λ x. ap (λ o. record { origin = p; target = x.to; tick = x.tick; path = o; forged = false }) plain)

-- a peer takes an event, by what becomes of each way before its own parcels are put there
pub fed_core : (s : Scene) (w : World) (p : ℤ) (c : Came) → IsValidScene s → IsEvent s w p c
    → ((q : ℤ) → AllAccepted (peer_of s q) (heard_at w q)) → ((q : ℤ) → list_all is_sound_heard (heard_at w q) ≡ true) → ((q : ℤ) → list_all (is_own_entry q) (w.history q) ≡ true) → ((a b : ℤ) → (w.way a b).loose ≡ [])
    → ((a b : ℤ) → has_no_link a b ≡ false → int_eq b p ≡ true → IsLink s a b (heard_at w a) (heard_of packet_form c.event ∷ heard_at w b) (c ∷ w.history b) (w.way a b))
    → ((a b : ℤ) → has_no_link a b ≡ false → int_eq b p ≡ false → IsLink s a b (heard_at w a) (heard_at w b) (w.history b) (w.way a b))
    → Core s (fed packet_form s w p c)
fed_core s w p c valid is all sound own loose taken kept = record {
  accepted = λ q. all_at q (int_eq q p) refl;
  sound = λ q. sound_at q (int_eq q p) refl;
  own = λ q. own_at q (int_eq q p) refl;
  loose = λ a b. loose_at a b (int_eq a p);
  links = λ a b l. link_at a b l (int_eq a p) refl (int_eq b p) refl;
}
  where
    e : Heard
    e = heard_of packet_form c.event

    ps : List Parcel
    ps = parcels_made packet_form s w p c

    all_at : (q : ℤ) (t : Bool) → int_eq q p ≡ t → AllAccepted (peer_of s q) (heard_in packet_form (if t then c ∷ w.history q else w.history q))
    all_at q true k = subst (λ x. AllAccepted (peer_of s x) (e ∷ heard_at w x)) (sym (int_is q p k)) (is.accepts, all p)
    all_at q false k = all q

    sound_at : (q : ℤ) (t : Bool) → int_eq q p ≡ t → list_all is_sound_heard (heard_in packet_form (if t then c ∷ w.history q else w.history q)) ≡ true
    sound_at q true k = and_from (is_sound_heard e) (list_all is_sound_heard (heard_at w q)) is.sound (sound q)
    sound_at q false k = sound q

    own_at : (q : ℤ) (t : Bool) → int_eq q p ≡ t → list_all (is_own_entry q) (if t then c ∷ w.history q else w.history q) ≡ true
    own_at q true k = and_from (is_own_entry q c) (list_all (is_own_entry q) (w.history q)) (ap (λ x. is_own_entry x c) (int_is q p k) ∙ is.own) (own q)
    own_at q false k = own q

    loose_at : (a b : ℤ) (t : Bool) → (if t then way_with (w.way a b) b ps else w.way a b).loose ≡ []
    loose_at a b true = ap₂ (λ (xs ys : List Parcel). xs ++ ys) (loose a b) (is.no_loose b)
    loose_at a b false = loose a b

    link_at : (a b : ℤ) → has_no_link a b ≡ false → (t : Bool) → int_eq a p ≡ t → (u : Bool) → int_eq b p ≡ u
        → IsLink s a b (heard_in packet_form (if t then c ∷ w.history a else w.history a)) (heard_in packet_form (if u then c ∷ w.history b else w.history b)) (if u then c ∷ w.history b else w.history b) (if t then way_with (w.way a b) b ps else w.way a b)
    link_at a b l true k true m = absurd (true≢false (sym (ap₂ int_eq (int_is a p k) (int_is b p m) ∙ int_same p) ∙ (link_ends a b l).0))
    link_at a b l true k false m =
        let same = int_is a p k in
        let direct : is_straight (peer_of s p) b ≡ true = ap (λ x. int_eq x server || int_eq b server) (sym same) ∙ (link_ends a b l).1 in
        subst (λ q. IsLink s q b (e ∷ heard_at w q) (heard_at w b) (w.history b) (way_with (w.way q b) b ps)) (sym same)
        (link_more s p b e (heard_at w p) (heard_at w b) (w.history b) (w.way p b) ps (is.posts b direct) (up_readable (peer_of s p) (heard_at w p) e b valid (all p) (sound p) is.accepts is.sound)
        (subst (λ q. IsLink s q b (heard_at w q) (heard_at w b) (w.history b) (w.way q b)) same (kept a b l m)))
    link_at a b l false k true m = taken a b l m
    link_at a b l false k false m = kept a b l m

-- what no parcel brought brings no packet
pub fed_itself : (s : Scene) (w : World) (p : ℤ) (e : Event) → IsValidScene s → Core s w → Accepts (peer_of s p) (heard_at w p) (heard_of packet_form e) → is_sound_heard (heard_of packet_form e) ≡ true → path_called e ≡ None
    → ((a b : ℤ) → updates_from (peer_of s b) (heard_of packet_form e ∷ heard_at w b) a ≡ updates_from (peer_of s b) (heard_at w b) a) → Core s (fed packet_form s w p (by_itself e))
fed_itself s w p e valid h a sound plain silent = fed_core s w p (by_itself e) valid (event_by_itself s w p e (h.accepted p) a sound plain) h.accepted h.sound h.own h.loose
    (λ x z l k. link_stays s x z (heard_at w x) (heard_at w z) (heard_of packet_form e ∷ heard_at w z) (w.history z) (by_itself e) (w.way x z) (silent x z) refl (h.links x z l))
    (λ x z l k. h.links x z l)

-- who is there

-- Who is there, and who knows whom: those that are up at the server are the clients that are there, in the order in which they came.
pub record Members (w : World) : Type 0 where
  pub wild : w.wild ≡ []
  pub numbers : w.come ≡ numbers_to (length w.come)
  pub went : (p : ℤ) → has_int p w.gone ≡ true → has_int p w.come ≡ true
  pub ups : peers_up (heard_at w server) ≡ reverse (clients w)
  pub knows : (p : ℤ) → has_int p w.come ≡ true → is_up (heard_at w p) server ≡ true
  pub fresh : (n : ℕ) → length w.come ≤ n → (w.history (number_of n) ≡ []) × (was_up (heard_at w server) (number_of n) ≡ false)

-- a peer that is there is a client that came, or the server
pub come_is : (w : World) (p : ℤ) → Members w → is_in w p ≡ true → int_eq p server ≡ false → has_int p w.come ≡ true
come_is w p m there other = (and_parts (has_int p w.come) (not (has_int p w.gone)) (sym (ap (λ t. t || (has_int p w.come && not (has_int p w.gone))) other) ∙ there)).0

-- those that are up at the server are the clients that are there
pub up_is_client : (w : World) (p : ℤ) → Members w → is_up (heard_at w server) p ≡ is_client w p
up_is_client w p m = sym (has_up (heard_at w server) p) ∙ ap (has_int p) m.ups ∙ has_reversed p (clients w) ∙ has_left p w.gone w.come

-- a number that didn't come is none of those that are there
pub number_outside : (w : World) (p : ℤ) (n : ℕ) → Members w → is_in w p ≡ true → length w.come ≤ n → int_eq (number_of n) p ≡ false
number_outside w p n m there far = never (int_eq (number_of n) p) (λ same.
    let is = int_is (number_of n) p same in
    sym (come_is w (number_of n) m (ap (is_in w) is ∙ there) (not_server n)) ∙ ap (has_int (number_of n)) m.numbers ∙ has_number_to n (length w.come) ∙ not_below)
  where
    not_below : nat_lt n (length w.come) ≡ false
    not_below = grind (arith, nat_tests, far)

-- an event that brings no news of links
pub record NoNews (e : Heard) : Type 0 where
  pub up : (es : List Heard) (x : ℤ) → is_up (e ∷ es) x ≡ is_up es x
  pub was : (es : List Heard) (x : ℤ) → was_up (e ∷ es) x ≡ was_up es x
  pub peers : (es : List Heard) → peers_up (e ∷ es) ≡ peers_up es

pub op_no_news : (e : Event) (op : Operation) → e ≡ event.Op op → NoNews (heard_of packet_form e)
op_no_news e op is = record {
  up = λ es x. ap (λ f. is_up (heard_of packet_form f ∷ es) x) is;
  was = λ es x. ap (λ f. was_up (heard_of packet_form f ∷ es) x) is;
  peers = λ es. ap (λ f. peers_up (heard_of packet_form f ∷ es)) is;
}

pub members_fed : (s : Scene) (w : World) (p : ℤ) (c : Came) → is_in w p ≡ true → NoNews (heard_of packet_form c.event) → Members w → Members (fed packet_form s w p c)
members_fed s w p c there news m = record {
  wild = m.wild;
  numbers = m.numbers;
  went = m.went;
  ups = ups_at (int_eq server p);
  knows = λ q h. knows_at q h (int_eq q p);
  fresh = λ n far. (
    ap (λ t. if t then c ∷ w.history (number_of n) else w.history (number_of n)) (number_outside w p n m there far) ∙ (m.fresh n far).0,
    never_at n far (int_eq server p),
  );
}
  where
    e : Heard
    e = heard_of packet_form c.event

    ups_at : (t : Bool) → peers_up (heard_in packet_form (if t then c ∷ w.history server else w.history server)) ≡ reverse (clients w)
    ups_at true = news.peers (heard_at w server) ∙ m.ups
    ups_at false = m.ups

    knows_at : (q : ℤ) → has_int q w.come ≡ true → (t : Bool) → is_up (heard_in packet_form (if t then c ∷ w.history q else w.history q)) server ≡ true
    knows_at q h true = news.up (heard_at w q) server ∙ m.knows q h
    knows_at q h false = m.knows q h

    never_at : (n : ℕ) → length w.come ≤ n → (t : Bool) → was_up (heard_in packet_form (if t then c ∷ w.history server else w.history server)) (number_of n) ≡ false
    never_at n far true = news.was (heard_at w server) (number_of n) ∙ (m.fresh n far).1
    never_at n far false = (m.fresh n far).1
