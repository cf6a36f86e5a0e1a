-- The next packet of a link is taken by its receiver.
use Rattle.std.proofs.Common.{◌≡◌, ℕ, zero, suc, ◌+◌, ℤ, Bool, true, false, cond, not, ◌&&◌, ◌||◌, List, [], ◌∷◌, ◌++◌, length, map, take, refl, sym, ap, ap₂, ◌∙◌, subst, arith, Option, Some, None, Ok}
use Rattle.std.specs.Prelude.{slice_get, is_none, filter_map, flat_map, if◌then◌else◌}
use Rattle.std.specs.List.{cons_option}
use Rattle.std.specs.Ordering.{int_eq}
use Rattle.std.proofs.lemmas.Bool.{and_parts}
use Rattle.gd_variant.specs.Words.{when}
use Rattle.gd_variant.specs.declared.message.Message.TheVariants.{Plain as plain_packet}
use Rattle.scene_model.specs.declared.scene.Scene.{Scene}
use Rattle.scene_model.specs.declared.outcome.Fault.TheVariants as fault
use Rattle.scene_model.specs.declared.world.WorldEvent.TheVariants.{Rel}
use Rattle.scene_model.specs.declared.world.WorldNo.TheVariants as refusal
use Rattle.scene_model.specs.Valid.{IsValidScene}
use Rattle.peer_model.specs.Heard.{Heard, gets, packet_from, server}
use Rattle.peer_model.specs.Peers.{is_up, was_up, peers_up}
use Rattle.peer_model.specs.Updates.{Update}
use Rattle.peer_model.specs.Changes.{changes}
use Rattle.peer_model.specs.View.{updates_in, updates_from}
use Rattle.peer_model.specs.Faults.{fault_of, link_fault}
use Rattle.peer_model.specs.Answer.{update_packet}
use Rattle.peer_laws.specs.Built.{Accepts, is_built}
use Rattle.peer_laws.proofs.Numbers.{int_is, int_same, int_comm}
use Rattle.peer_laws.proofs.Tests.{not_false, no_row}
use Rattle.peer_laws.proofs.Views.{updates_of_others}
use Rattle.peer_core.specs.Forms.{packet_form}
use Rattle.world_laws.specs.Done.{IsDone}
use Rattle.world_laws.specs.Laws.{IsNext}
use Rattle.world_laws.proofs.Law.{built_done}
use Rattle.world_laws.proofs.Taking.{next_is_done, one_more_arrived, updates_again}
use Rattle.world_model.specs.World.{Tag, Parcel, World, peer_of, is_in, is_client, next_of}
use Rattle.world_model.specs.Happens.{reads_relay, own_tag, fed, brought_by, after_next, at_way, delivered, happens}
use Rattle.world_model.specs.Answers.{has_no_link, refused_by, accepted_answer, world_answer, happened}
use Rattle.world_model.specs.Replicas.{packet_of}
use Rattle.channel_laws.proofs.Origins.{not_refused}
use Rattle.channel_laws.proofs.Ways.{next_within}
use Rattle.world_steps.proofs.Links.{AllReadable, IsReadable, IsLink, OwnTags, told_parcel, link_stays, some_same}
use Rattle.world_steps.proofs.Runs.{heard_at, Core, link_ends, IsEvent, event_of, fed_core, Members, come_is, up_is_client, NoNews, members_fed}
use Rattle.world_steps.proofs.Joins.{Run}

-- deliveries

-- an element of a mapped list
pub record Got {X Y : Type 0} (f : X → Y) (xs : List X) (d : ℕ) (y : Y) : Type 0 where
  pub from : X
  pub there : slice_get xs d ≡ Some from
  pub is : y ≡ f from

pub got_of_map : {X Y : Type 0} (f : X → Y) (xs : List X) (d : ℕ) (y : Y) → slice_get (map f xs) d ≡ Some y → Got f xs d y
got_of_map f [] d y h = absurd (cc h)
got_of_map f (x ∷ xs) zero y h = record { from = x; there = refl; is = sym (some_same (f x) y h) }
got_of_map f (x ∷ xs) (suc d) y h = let g = got_of_map f xs d y h in record { from = g.from; there = g.there; is = g.is }

readable_at : (us : List Update) (d : ℕ) (u : Update) → AllReadable us → slice_get us d ≡ Some u → IsReadable u
readable_at [] d u h e = absurd (cc e)
readable_at (v ∷ us) zero u h e = subst IsReadable (some_same v u e) h.0
readable_at (v ∷ us) (suc d) u h e = readable_at us d u h.1 e

-- a packet that is delivered, by what it reads as
abbrev pub arrival : ℤ → Parcel → Heard
arrival a q = gets a q.out.class q.out.bytes (packet_form.read_packet q.out.bytes)

-- The next parcel of a way whose receiver has its sender up: the change that it tells, and that its receiver accepts it.
pub record IsArrival (s : Scene) (w : World) (a b : ℤ) (q : Parcel) : Type 0 where
  pub update : Update
  pub next : slice_get (changes (peer_of s a) (heard_at w a) b) (w.way a b).delivered ≡ Some update
  pub is : q ≡ told_parcel a b update
  pub reads : packet_form.read_packet q.out.bytes ≡ Ok (plain_packet (update_packet update))
  pub accepts : Accepts (peer_of s b) (heard_at w b) (arrival a q)
  pub got : updates_from (peer_of s b) (arrival a q ∷ heard_at w b) a ≡ take ((w.way a b).delivered + 1) (changes (peer_of s a) (heard_at w a) b)

-- a sender that is up is at the other end of a link
linked : (s : Scene) (b : ℤ) (there : List Heard) (a : ℤ) → has_no_link a b ≡ false → is_up there a ≡ true → link_fault (peer_of s b) there a ≡ None
linked s b there a l up = step (int_eq b server) refl
  where
    one_of : (t u : Bool) → (t || u) ≡ true → u ≡ false → t ≡ true
    one_of true u h k = refl
    one_of false u h k = absurd (cc (h, k))

    no_fault : (t u : Bool) → t ≡ true → u ≡ false → when (not t || u) (fault.UnknownPeer a) ≡ None
    no_fault true false h k = refl
    no_fault true true h k = absurd (cc k)
    no_fault false u h k = absurd (cc h)

    step : (t : Bool) → int_eq b server ≡ t → link_fault (peer_of s b) there a ≡ None
    step true e = no_fault (is_up there a) (not (int_eq b server) && not (int_eq a server)) up (ap (λ t. not t && not (int_eq a server)) e)
    step false e = no_fault (is_up there a) (not (int_eq b server) && not (int_eq a server)) up (ap₂ (λ t u. not t && not u) e (one_of (int_eq a server) (int_eq b server) (link_ends a b l).1 e))

pub arrives : (s : Scene) (w : World) (a b : ℤ) (q : Parcel) → IsValidScene s → Core s w → has_no_link a b ≡ false → is_up (heard_at w b) a ≡ true → next_of (w.way a b) ≡ Some q → IsArrival s w a b q
arrives s w a b q valid h l up waits = record {
  update = g.from;
  next = g.there;
  is = g.is;
  reads = reads;
  accepts = record {
    built = ap (λ r. is_built (gets a q.out.class q.out.bytes r)) reads ∙ readable.row;
    no_refusal = refl;
    no_fault = ap (λ r. fault_of (peer_of s b) there (gets a q.out.class q.out.bytes r)) reads ∙ done.no_fault;
  };
  got = ap (λ r. updates_from (peer_of s b) (gets a q.out.class q.out.bytes r ∷ there) a) reads
      ∙ one_more_arrived s a b here there (w.way a b).delivered g.from next (gets a q.out.class q.out.bytes (Ok (plain_packet (update_packet g.from)))) refl;
}
  where
    here : List Heard
    here = heard_at w a

    there : List Heard
    there = heard_at w b

    us : List Update
    us = changes (peer_of s a) here b

    link : IsLink s a b here there (w.history b) (w.way a b)
    link = h.links a b l

    g : Got (told_parcel a b) us (w.way a b).delivered q
    g = got_of_map (told_parcel a b) us (w.way a b).delivered q (sym (ap (λ xs. slice_get xs (w.way a b).delivered) link.sent) ∙ waits)

    readable : IsReadable g.from
    readable = readable_at us (w.way a b).delivered g.from link.readable g.there

    reads : packet_form.read_packet q.out.bytes ≡ Ok (plain_packet (update_packet g.from))
    reads = ap (λ (x : Parcel). packet_form.read_packet x.out.bytes) g.is ∙ readable.back

    next : IsNext s a b here there (w.way a b).delivered g.from
    next = record { valid = valid; all_here = built_done (peer_of s a) here (h.accepted a); all_there = built_done (peer_of s b) there (h.accepted b); up = up; got = link.got; next = g.there }

    done : IsDone (peer_of s b) there (gets a q.out.class q.out.bytes (Ok (plain_packet (update_packet g.from))))
    done = next_is_done s a b here there (w.way a b).delivered g.from next q.out.class q.out.bytes (linked s b there a l up)

-- a joined sender is up

pub client_of : (w : World) (p : ℤ) → is_in w p ≡ true → int_eq p server ≡ false → is_client w p ≡ true
client_of w p there other = sym (ap (λ t. t || is_client w p) other) ∙ there

pub sender_up : (w : World) (a b : ℤ) → Members w → has_no_link a b ≡ false → is_in w a ≡ true → is_in w b ≡ true → is_up (heard_at w b) a ≡ true
sender_up w a b m l ia ib = step (int_eq b server) refl
  where
    ends : (int_eq a b ≡ false) × ((int_eq a server || int_eq b server) ≡ true)
    ends = link_ends a b l

    one_of : (t u : Bool) → (t || u) ≡ true → u ≡ false → t ≡ true
    one_of true u h k = refl
    one_of false u h k = absurd (cc (h, k))

    step : (t : Bool) → int_eq b server ≡ t → is_up (heard_at w b) a ≡ true
    step true e =
        let is = int_is b server e in
        ap (λ z. is_up (heard_at w z) a) is ∙ up_is_client w a m ∙ client_of w a ia (ap (int_eq a) (sym is) ∙ ends.0)
    step false e =
        let is = int_is a server (one_of (int_eq a server) (int_eq b server) ends.1 e) in
        ap (is_up (heard_at w b)) is ∙ m.knows b (come_is w b m ib e)

-- the packet that a parcel brings from its sender
packet_is : (s : Scene) (a b : ℤ) (q : Parcel) (u : Update) → q ≡ told_parcel a b u → packet_form.read_packet q.out.bytes ≡ Ok (plain_packet (update_packet u)) → packet_of packet_form s a b (brought_by a q) ≡ Some (update_packet u)
packet_is s a b q u is reads =
    ap (λ (z : Parcel). if (not z.tag.forged && int_eq z.tag.origin a) && int_eq z.tag.target b then packet_from (peer_of s b) a (arrival a q) else None) is
    ∙ ap₂ (λ t z. if (true && t) && z then packet_from (peer_of s b) a (arrival a q) else None) (int_same a) (int_same b)
    ∙ ap (λ r. packet_from (peer_of s b) a (gets a q.out.class q.out.bytes r)) reads
    ∙ ap (λ t. cond t (Some (update_packet u)) None) (int_same a)

packet_of_others : (s : Scene) (x a b : ℤ) (q : Parcel) (u : Update) → q ≡ told_parcel a b u → int_eq x a ≡ false → packet_of packet_form s x b (brought_by a q) ≡ None
packet_of_others s x a b q u is other =
    ap (λ (z : Parcel). if (not z.tag.forged && int_eq z.tag.origin x) && int_eq z.tag.target b then packet_from (peer_of s b) x (arrival a q) else None) is
    ∙ ap (λ t. if (true && t) && int_eq b b then packet_from (peer_of s b) x (arrival a q) else None) (int_comm a x ∙ other)

-- the way of an arrival, when it was delivered
link_arrives : (s : Scene) (w : World) (a b : ℤ) (q : Parcel) → IsArrival s w a b q → IsLink s a b (heard_at w a) (heard_at w b) (w.history b) (w.way a b)
    → IsLink s a b (heard_at w a) (arrival a q ∷ heard_at w b) (brought_by a q ∷ w.history b) (after_next (w.way a b))
link_arrives s w a b q i l = record {
  sent = l.sent;
  readable = l.readable;
  within = next_within (changes (peer_of s a) (heard_at w a) b) (w.way a b).delivered i.update i.next;
  got = i.got;
  count = ap (λ o. length (flat_map updates_in (cons_option o (filter_map (packet_of packet_form s a b) (w.history b))))) (packet_is s a b q i.update i.is i.reads)
      ∙ ap (λ us. length (us ++ flat_map updates_in (filter_map (packet_of packet_form s a b) (w.history b)))) (updates_again i.update)
      ∙ ap suc l.count ∙ omega arith;
}

-- what a receiver sends for a packet that is no relay is its own
arrival_tags : (a b : ℤ) (q : Parcel) (u : Update) → packet_form.read_packet q.out.bytes ≡ Ok (plain_packet (update_packet u)) → OwnTags b (brought_by a q)
arrival_tags a b q u reads x = ap (λ r. if int_eq b server && reads_relay r then q.tag else own) reads ∙ ap (λ t. if t then q.tag else own) (off (int_eq b server))
  where
    own : Tag
    own = own_tag b (brought_by a q).event x

    off : (t : Bool) → (t && false) ≡ false
    off true = refl
    off false = refl

brought_event : (s : Scene) (w : World) (a b : ℤ) (q : Parcel) → IsValidScene s → Core s w → has_no_link a b ≡ false → IsArrival s w a b q → IsEvent s (at_way w a b after_next) b (brought_by a q)
brought_event s w a b q valid h l i = event_of s (at_way w a b after_next) b (brought_by a q) (h.accepted b) i.accepts refl
    (ap (λ (z : Parcel). not (has_no_link z.tag.origin b) && is_none z.tag.tick) i.is ∙ ap (λ t. not t && true) l) (arrival_tags a b q i.update i.reads)

delivered_core : (s : Scene) (w : World) (a b : ℤ) (q : Parcel) → IsValidScene s → Core s w → has_no_link a b ≡ false → IsArrival s w a b q → Core s (fed packet_form s (at_way w a b after_next) b (brought_by a q))
delivered_core s w a b q valid h l i = fed_core s (at_way w a b after_next) b (brought_by a q) valid (brought_event s w a b q valid h l i) h.accepted h.sound h.own
    (λ x z. loose_at x z (int_eq x a && int_eq z b)) (λ x z k e. taken x z k (int_eq x a) refl e) (λ x z k e. kept x z k (int_eq x a) e)
  where
    loose_at : (x z : ℤ) (t : Bool) → (if t then after_next (w.way x z) else w.way x z).loose ≡ []
    loose_at x z true = h.loose x z
    loose_at x z false = h.loose x z

    taken : (x z : ℤ) → has_no_link x z ≡ false → (t : Bool) → int_eq x a ≡ t → int_eq z b ≡ true
        → IsLink s x z (heard_at w x) (arrival a q ∷ heard_at w z) (brought_by a q ∷ w.history z) (if t && int_eq z b then after_next (w.way x z) else w.way x z)
    taken x z k true e f =
        subst (λ t. IsLink s x z (heard_at w x) (arrival a q ∷ heard_at w z) (brought_by a q ∷ w.history z) (if t then after_next (w.way x z) else w.way x z)) (sym f)
        (subst (λ y. IsLink s y z (heard_at w y) (arrival a q ∷ heard_at w z) (brought_by a q ∷ w.history z) (after_next (w.way y z))) (sym (int_is x a e))
        (subst (λ y. IsLink s a y (heard_at w a) (arrival a q ∷ heard_at w y) (brought_by a q ∷ w.history y) (after_next (w.way a y))) (sym (int_is z b f))
        (link_arrives s w a b q i (h.links a b l))))
    taken x z k false e f =
        subst (λ y. IsLink s x y (heard_at w x) (arrival a q ∷ heard_at w y) (brought_by a q ∷ w.history y) (w.way x y)) (sym (int_is z b f))
        (link_stays s x b (heard_at w x) (heard_at w b) (arrival a q ∷ heard_at w b) (w.history b) (brought_by a q) (w.way x b)
        (ap (λ r. updates_from (peer_of s b) (gets a q.out.class q.out.bytes r ∷ heard_at w b) x) i.reads ∙ updates_of_others (peer_of s b) (heard_at w b) a q.out.class q.out.bytes (update_packet i.update) x (int_comm a x ∙ e))
        (packet_of_others s x a b q i.update i.is e)
        (subst (λ y. IsLink s x y (heard_at w x) (heard_at w y) (w.history y) (w.way x y)) (int_is z b f) (h.links x z k)))

    kept : (x z : ℤ) → has_no_link x z ≡ false → (t : Bool) → int_eq z b ≡ false → IsLink s x z (heard_at w x) (heard_at w z) (w.history z) (if t && int_eq z b then after_next (w.way x z) else w.way x z)
    kept x z k true f = subst (λ t. IsLink s x z (heard_at w x) (heard_at w z) (w.history z) (if t then after_next (w.way x z) else w.way x z)) (sym f) (h.links x z k)
    kept x z k false f = h.links x z k

pub arrival_no_news : (a : ℤ) (q : Parcel) (u : Update) → packet_form.read_packet q.out.bytes ≡ Ok (plain_packet (update_packet u)) → NoNews (arrival a q)
arrival_no_news a q u reads = record {
  up = λ es x. ap (λ r. is_up (gets a q.out.class q.out.bytes r ∷ es) x) reads;
  was = λ es x. ap (λ r. was_up (gets a q.out.class q.out.bytes r ∷ es) x) reads;
  peers = λ es. ap (λ r. peers_up (gets a q.out.class q.out.bytes r ∷ es)) reads;
}

-- What is known of a delivery that isn't refused.
pub record IsDelivery (w : World) (a b : ℤ) : Type 0 where
  pub sender : is_in w a ≡ true
  pub receiver : is_in w b ≡ true
  pub link : has_no_link a b ≡ false
  pub empty : is_none (next_of (w.way a b)) ≡ false

pub delivery_of : (s : Scene) (w : World) (a b : ℤ) → refused_by packet_form s w (Rel a b) ≡ None → IsDelivery w a b
delivery_of s w a b h =
    let there = no_row (not (is_in w a && is_in w b)) refusal.NoPeer (when (has_no_link a b) refusal.NotLink ∷ when (is_none (next_of (w.way a b))) refusal.NothingInFlight ∷ []) h in
    let near = no_row (has_no_link a b) refusal.NotLink (when (is_none (next_of (w.way a b))) refusal.NothingInFlight ∷ []) there.1 in
    let some = no_row (is_none (next_of (w.way a b))) refusal.NothingInFlight [] near.1 in
    let both = and_parts (is_in w a) (is_in w b) (not_false (is_in w a && is_in w b) there.0) in
    record { sender = both.0; receiver = both.1; link = near.0; empty = some.0 }

pub arrival_members : (s : Scene) (w : World) (a b : ℤ) (q : Parcel) → is_in w b ≡ true → NoNews (arrival a q) → Members w → Members (fed packet_form s (at_way w a b after_next) b (brought_by a q))
arrival_members s w a b q there news m =
    members_fed s (at_way w a b after_next) b (brought_by a q) there news
    (record { wild = m.wild; numbers = m.numbers; went = m.went; ups = m.ups; knows = m.knows; fresh = m.fresh })

pub rel_run : (s : Scene) (w : World) (a b : ℤ) → IsValidScene s → Run s w → happened (world_answer packet_form s w (Rel a b)) ≡ true → Run s (happens packet_form s w (Rel a b))
rel_run s w a b valid h done = by_next (next_of (w.way a b)) refl d.empty
  where
    d : IsDelivery w a b
    d = delivery_of s w a b (not_refused (refused_by packet_form s w (Rel a b)) (accepted_answer packet_form s w (Rel a b)) done)

    by_next : (o : Option Parcel) → next_of (w.way a b) ≡ o → is_none o ≡ false → Run s (delivered packet_form s w a b (λ p. after_next) o)
    by_next None e k = absurd (cc k)
    by_next (Some q) e k =
        let i = arrives s w a b q valid h.core d.link (sender_up w a b h.members d.link d.sender d.receiver) e in
        record {
          core = delivered_core s w a b q valid h.core d.link i;
          members = arrival_members s w a b q d.receiver (arrival_no_news a q i.update i.reads) h.members;
        }
