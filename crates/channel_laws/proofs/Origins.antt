-- Who made what comes to the server, in worlds of events that happened.
use Rattle.std.proofs.Common.{◌≡◌, ℕ, zero, suc, ℤ, Bool, true, false, not, ◌&&◌, List, [], ◌∷◌, refl, sym, ap, ◌∙◌, map, Option, Some, None}
use Rattle.std.specs.Prelude.{if◌then◌else◌}
use Rattle.std.specs.List.{list_all, AllByRecursion}
use Rattle.std.specs.Ordering.{int_eq}
use Rattle.std.proofs.lemmas.Bool.{and_from}
use Rattle.scene_model.specs.declared.scene.Scene.{Scene}
use Rattle.scene_model.specs.declared.event.Class.{Class}
use Rattle.scene_model.specs.declared.event.Event.{Event}
use Rattle.scene_model.specs.declared.event.Event.TheVariants as event
use Rattle.scene_model.specs.declared.outcome.Out.{Out}
use Rattle.scene_model.specs.declared.world.WorldEvent.{WorldEvent}
use Rattle.scene_model.specs.declared.world.WorldEvent.TheVariants.{Connect, Down, Op, Rel, Loose, Forge}
use Rattle.scene_model.specs.declared.world.WorldOutcome.{WorldOutcome}
use Rattle.scene_model.specs.declared.world.WorldNo.{WorldNo}
use Rattle.scene_model.specs.declared.world.WorldNo.TheVariants as refusal
use Rattle.peer_model.specs.Heard.{server}
use Rattle.peer_model.specs.Bytes.{PacketForm}
use Rattle.gd_variant.specs.Words.{when, first_of}
use Rattle.peer_laws.proofs.Tests.{no_row}
use Rattle.peer_laws.proofs.Each.{all-filter, all_joined}
use Rattle.peer_laws.proofs.Numbers.{int_is, int_same, int_comm}
use Rattle.world_model.specs.World.{Parcel, Way, Came, World, is_in, is_ordered, next_of, loose_at, next_client}
use Rattle.world_model.specs.Happens.{reads_relay, own_tag, parcel_of, on_link, way_with, fed, by_itself, brought_by, with_client, link_up, after_next, after_loose, at_way, delivered, forged_parcel, after_forge, happens, world, parcels_made, packets_in, answer_at}
use Rattle.world_model.specs.Answers.{has_no_link, refused_or, happened, world_answer, refused_by, accepted_answer}
use Rattle.channel_laws.specs.Channels.{AllHappened}
use Rattle.channel_laws.proofs.Ways.{next_passes}

abbrev pub origin_is : ℤ → Parcel → Bool
origin_is x p = int_eq p.tag.origin x

-- whether an event is a packet that came
abbrev pub is_received : Event → Bool
is_received (event.Received from class bytes) = true
is_received e = false

-- a parcel brought an entry as what it is, over a link, and a client's was made by that client; what no parcel brought is no packet
abbrev pub Brought : ℤ → Option Parcel → Event → Type 0
Brought z None e = is_received e ≡ false
Brought z (Some q) e = (x : ℤ) × (e ≡ event.Received x q.out.class q.out.bytes) × (has_no_link x z ≡ false) × (int_eq x server ≡ false → origin_is x q ≡ true)

abbrev pub Sound : ℤ → Came → Type 0
Sound z c = Brought z c.brought c.event

-- what is on a client's ways is the client's own
abbrev IsOwn : ℤ → Way → Type 0
IsOwn x y = (list_all (origin_is x) y.sent ≡ true) × (list_all (origin_is x) y.loose ≡ true)

pub record Origins (w : World) : Type 0 where
  pub ways : (x z : ℤ) → int_eq x server ≡ false → IsOwn x (w.way x z)
  pub entries : (z : ℤ) → AllByRecursion (Sound z) (w.history z)

own_origin : (form : PacketForm) (a : ℤ) (c : Came) (x : Out) → int_eq a server ≡ false → origin_is a (parcel_of form a c x) ≡ true
own_origin form a c x client = step c.brought
  where
    step : (o : Option Parcel) → origin_is a (parcel_of form a (record { event = c.event; brought = o }) x) ≡ true
    step None = int_same a
    step (Some q) = ap (λ u. origin_is a (record { out = x; tag = if u && reads_relay (form.read_packet q.out.bytes) then q.tag else own_tag a c.event x })) client ∙ int_same a

own_origins : (form : PacketForm) (a : ℤ) (c : Came) → int_eq a server ≡ false → (xs : List Out) → list_all (origin_is a) (map (parcel_of form a c) xs) ≡ true
own_origins form a c client [] = refl
own_origins form a c client (x ∷ xs) = and_from (origin_is a (parcel_of form a c x)) (list_all (origin_is a) (map (parcel_of form a c) xs)) (own_origin form a c x client) (own_origins form a c client xs)

own_with : (x z : ℤ) (y : Way) (ps : List Parcel) → list_all (origin_is x) ps ≡ true → IsOwn x y → IsOwn x (way_with y z ps)
own_with x z y ps h o =
    let kept : (t : Bool) → list_all (origin_is x) (on_link z t ps) ≡ true = λ t. all-filter (origin_is x) _ ps h in
    (all_joined (origin_is x) y.sent (on_link z true ps) o.0 (kept true), all_joined (origin_is x) y.loose (on_link z false ps) o.1 (kept false))

fed_origins : (form : PacketForm) (s : Scene) (w : World) (p : ℤ) (c : Came) → ((z : ℤ) → int_eq z p ≡ true → Sound z c) → Origins w → Origins (fed form s w p c)
fed_origins form s w p c sound o = record { ways = λ x z h. way x z h (int_eq x p) refl; entries = λ z. entry z (int_eq z p) refl }
  where
    way : (x z : ℤ) → int_eq x server ≡ false → (t : Bool) → int_eq x p ≡ t → IsOwn x (if t then way_with (w.way x z) z (parcels_made form s w p c) else w.way x z)
    way x z h true k =
        let same = int_is x p k in
        own_with x z (w.way x z) (parcels_made form s w p c) (ap (λ q. list_all (origin_is x) (parcels_made form s w q c)) (sym same) ∙ own_origins form x c h (packets_in (answer_at form s w x c.event))) (o.ways x z h)
    way x z h false k = o.ways x z h

    entry : (z : ℤ) (t : Bool) → int_eq z p ≡ t → AllByRecursion (Sound z) (if t then c ∷ w.history z else w.history z)
    entry z true k = (sound z k, o.entries z)
    entry z false k = o.entries z

-- a delivery, by what it does to the way
moved : (form : PacketForm) (s : Scene) (w : World) (x z : ℤ) (f : Way → Way) (q : Parcel) → has_no_link x z ≡ false → ((y : Way) → IsOwn x y → IsOwn x (f y)) → (int_eq x server ≡ false → origin_is x q ≡ true) → Origins w → Origins (fed form s (at_way w x z f) z (brought_by x q))
moved form s w x z f q apart keeps mine o = fed_origins form s (at_way w x z f) z (brought_by x q) sound (record { ways = λ u v h. way u v h (int_eq u x) refl (int_eq v z); entries = o.entries })
  where
    way : (u v : ℤ) → int_eq u server ≡ false → (t : Bool) → int_eq u x ≡ t → (r : Bool) → IsOwn u (if t && r then f (w.way u v) else w.way u v)
    way u v h true k true = keeps_at u (int_is u x k) (w.way u v) (o.ways u v h)
      where
        keeps_at : (m : ℤ) → m ≡ x → (y : Way) → IsOwn m y → IsOwn m (f y)
        keeps_at m same y own =
            let there = keeps y (ap (λ n. list_all (origin_is n) y.sent) (sym same) ∙ own.0, ap (λ n. list_all (origin_is n) y.loose) (sym same) ∙ own.1) in
            (ap (λ n. list_all (origin_is n) (f y).sent) same ∙ there.0, ap (λ n. list_all (origin_is n) (f y).loose) same ∙ there.1)
    way u v h true k false = o.ways u v h
    way u v h false k r = o.ways u v h

    sound : (m : ℤ) → int_eq m z ≡ true → Sound m (brought_by x q)
    sound m k = (x, refl, ap (has_no_link x) (int_is m z k) ∙ apart, mine)

loose_own : (x : ℤ) (i : ℕ) (p : Parcel) (y : Way) → IsOwn x y → IsOwn x (after_loose i p y)
loose_own x i p y h = step (is_ordered p.out.class)
  where
    step : (t : Bool) → IsOwn x (if t then record y { last = i } else y)
    step true = h
    step false = h

rel_origins : (form : PacketForm) (s : Scene) (w : World) (x z : ℤ) (o : Option Parcel) → next_of (w.way x z) ≡ o → has_no_link x z ≡ false → Origins w → Origins (delivered form s w x z (λ p. after_next) o)
rel_origins form s w x z None next apart all = all
rel_origins form s w x z (Some q) next apart all = moved form s w x z after_next q apart (λ y h. h) (λ far. next_passes (origin_is x) (w.way x z).sent (w.way x z).delivered q (all.ways x z far).0 next) all

loose_passes : (x : ℤ) (y : Way) (i : ℕ) (q : Parcel) → list_all (origin_is x) y.loose ≡ true → loose_at y i ≡ Some q → origin_is x q ≡ true
loose_passes x y zero q h k = absurd (cc k)
loose_passes x y (suc i) q h k = next_passes (origin_is x) y.loose i q h k

loose_origins : (form : PacketForm) (s : Scene) (w : World) (x z : ℤ) (i : ℕ) (o : Option Parcel) → loose_at (w.way x z) i ≡ o → has_no_link x z ≡ false → Origins w → Origins (delivered form s w x z (after_loose i) o)
loose_origins form s w x z i None is apart all = all
loose_origins form s w x z i (Some q) is apart all = moved form s w x z (after_loose i q) q apart (λ y h. loose_own x i q y h) (λ far. loose_passes x (w.way x z) i q (all.ways x z far).1 is) all

forge_origins : (form : PacketForm) (s : Scene) (w : World) (p : ℤ) (class : Class) (bytes : List ℕ) → Origins w → Origins (after_forge w p class bytes)
forge_origins form s w p class bytes o = record { ways = λ x z h. way x z h (int_eq x p) refl; entries = o.entries }
  where
    way : (x z : ℤ) → int_eq x server ≡ false → (t : Bool) → int_eq x p ≡ t → IsOwn x (if t then way_with (w.way x z) z (forged_parcel p class bytes ∷ []) else w.way x z)
    way x z h true k = own_with x z (w.way x z) (forged_parcel p class bytes ∷ []) (ap (λ t. t && true) (int_comm p x ∙ k)) (o.ways x z h)
    way x z h false k = o.ways x z h

-- a line that happened wasn't refused
pub not_refused : (o : Option WorldNo) (x : WorldOutcome) → happened (refused_or o x) ≡ true → o ≡ None
not_refused None x h = refl
not_refused (Some r) x h = absurd (cc h)

linked : (w : World) (x z : ℤ) (rows : List (Option WorldNo)) → first_of (when (not (is_in w x && is_in w z)) refusal.NoPeer ∷ when (has_no_link x z) refusal.NotLink ∷ rows) ≡ None → has_no_link x z ≡ false
linked w x z rows h =
    let there = no_row (not (is_in w x && is_in w z)) refusal.NoPeer (when (has_no_link x z) refusal.NotLink ∷ rows) h in
    (no_row (has_no_link x z) refusal.NotLink rows there.1).0

pub happened_origins : (form : PacketForm) (s : Scene) (w : World) (e : WorldEvent) → happened (world_answer form s w e) ≡ true → Origins w → Origins (happens form s w e)
happened_origins form s w Connect h o =
    fed_origins form s (link_up form s w) (next_client w) (by_itself (event.Up server)) (λ z k. refl)
    (fed_origins form s (with_client w) server (by_itself (event.Up (next_client w))) (λ z k. refl) (record { ways = o.ways; entries = o.entries }))
happened_origins form s w (Down p) h o = fed_origins form s (record w { gone = p ∷ w.gone }) server (by_itself (event.Down p)) (λ z k. refl) (record { ways = o.ways; entries = o.entries })
happened_origins form s w (Op p op) h o = fed_origins form s w p (by_itself (event.Op op)) (λ z k. refl) o
happened_origins form s w (Rel x z) h o = rel_origins form s w x z (next_of (w.way x z)) refl (linked w x z _ (not_refused (refused_by form s w (Rel x z)) (accepted_answer form s w (Rel x z)) h)) o
happened_origins form s w (Loose x z i) h o = loose_origins form s w x z i (loose_at (w.way x z) i) refl (linked w x z _ (not_refused (refused_by form s w (Loose x z i)) (accepted_answer form s w (Loose x z i)) h)) o
happened_origins form s w (Forge p class bytes) h o = forge_origins form s w p class bytes o

pub origins : (form : PacketForm) (s : Scene) (es : List WorldEvent) → AllHappened form s es → Origins (world form s es)
origins form s [] all = record { ways = λ x z h. (refl, refl); entries = λ z. tt }
origins form s (e ∷ es) all = happened_origins form s (world form s es) e all.0 (origins form s es all.1)
