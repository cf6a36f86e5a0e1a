-- One way of a link, one event later at either end.
use Rattle.std.proofs.Common.{◌≡◌, ℕ, zero, suc, ◌+◌, ◌≤◌, ℤ, Bool, true, false, cond, not, ◌&&◌, ◌||◌, List, [], ◌∷◌, ◌++◌, length, take, map, filter, refl, sym, ap, ap₂, ◌∙◌, subst, arith, Some, None, length-append}
use Rattle.std.specs.Prelude.{slice_get, filter_map, flat_map, if◌then◌else◌}
use Rattle.std.specs.List.{AllByRecursion, cons_option}
use Rattle.std.specs.Ordering.{int_eq}
use Rattle.std.proofs.lemmas.List.{take-append-le, map-append}
use Rattle.scene_model.specs.declared.scene.Scene.{Scene}
use Rattle.scene_model.specs.declared.outcome.Out.{Out}
use Rattle.gd_variant.specs.declared.message.Plain.{Plain}
use Rattle.gd_variant.specs.declared.message.Message.TheVariants.{Plain as plain_packet, Relay}
use Rattle.scene_model.specs.declared.event.Class.TheVariants.{Reliable}
use Rattle.peer_model.specs.Heard.{Who, Heard, is_server, server}
use Rattle.peer_model.specs.Peers.{is_up}
use Rattle.peer_model.specs.Updates.{Update}
use Rattle.peer_model.specs.Changes.{changes}
use Rattle.peer_model.specs.View.{updates_in, updates_from}
use Rattle.peer_model.specs.Answer.{reliable, packet_sent, update_packet, sends}
use Rattle.peer_model.specs.Bytes.{out_of, heard_of}
use Rattle.peer_laws.specs.Built.{AllAccepted, is_row_packet}
use Rattle.peer_laws.proofs.Each.{every_joined}
use Rattle.peer_laws.proofs.Told.{adds}
use Rattle.peer_laws.proofs.Ways.{sent_by_link, none_by_link}
use Rattle.peer_steps.specs.Steps.{sent_to, IsReadablePlain}
use Rattle.peer_core.specs.Forms.{packet_form}
use Rattle.world_model.specs.World.{Parcel, Way, Came, peer_of, is_reliable}
use Rattle.world_model.specs.Happens.{tag_of, parcel_of, on_link, way_with}
use Rattle.world_model.specs.Replicas.{packet_of}

-- The packet of an update shows or hides a row, and is read back.
pub record IsReadable (u : Update) : Type 0 where
  pub back : IsReadablePlain packet_form (update_packet u)
  pub row : is_row_packet (update_packet u) ≡ true

-- all of them are
abbrev pub AllReadable : List Update → Type 0
AllReadable us = AllByRecursion IsReadable us

-- the parcel that tells an update over a link
abbrev pub told_parcel : ℤ → ℤ → Update → Parcel
told_parcel a b u = record { out = sent_to packet_form b (update_packet u); tag = record { origin = a; target = b; tick = None; path = None; forged = false } }

-- the parcels of changes
abbrev pub told_parcels : ℤ → ℤ → List Update → List Parcel
told_parcels a b us = map (told_parcel a b) us

-- the number of updates that a history's entries brought from one peer
abbrev pub arrived_in : Scene → ℤ → ℤ → List Came → ℕ
arrived_in s a b cs = length (flat_map updates_in (filter_map (packet_of packet_form s a b) cs))

-- One way of a link, from a to b, by the events at both ends: what was sent are the changes for b, and what b took is the delivered part of them.
pub record IsLink (s : Scene) (a b : ℤ) (here there : List Heard) (came : List Came) (y : Way) : Type 0 where
  pub sent : y.sent ≡ told_parcels a b (changes (peer_of s a) here b)
  pub readable : AllReadable (changes (peer_of s a) here b)
  pub within : y.delivered ≤ length (changes (peer_of s a) here b)
  pub got : updates_from (peer_of s b) there a ≡ take y.delivered (changes (peer_of s a) here b)
  pub count : arrived_in s a b came ≡ y.delivered

pub some_same : {X : Type 0} (a b : X) → Some a ≡ Some b → a ≡ b
some_same a b h = cc

-- one element more is taken
pub take_one : {X : Type 0} (xs : List X) (d : ℕ) (x : X) → slice_get xs d ≡ Some x → take (d + 1) xs ≡ take d xs ++ x ∷ []
take_one [] d x e = absurd (cc e)
take_one (y ∷ xs) zero x e = ap (λ z. z ∷ []) (some_same y x e)
take_one (y ∷ xs) (suc d) x e = let n : suc d + 1 ≡ suc (d + 1) = omega arith in ap (λ k. take k (y ∷ xs)) n ∙ ap (λ zs. y ∷ zs) (take_one xs d x e)

pub none_taken : {X : Type 0} (n : ℕ) → take {A = X} n [] ≡ []
none_taken zero = refl
none_taken (suc n) = refl

-- parcels of packets

-- what parcels of packets are put on a link: those of the packets for it in their class
pub on_link_mapped : (f : Out → Parcel) → ((x : Out) → (f x).out ≡ x) → (b : ℤ) (xs : List Out) → on_link b true (map f xs) ≡ map f (filter (λ (x : Out). int_eq x.link b && is_reliable x.class) xs)
on_link_mapped f same b [] = refl
on_link_mapped f same b (x ∷ xs) =
    ap (λ (y : Out). cond (int_eq y.link b && is_reliable y.class) (f x ∷ on_link b true (map f xs)) (on_link b true (map f xs))) (same x)
    ∙ ap (λ ps. cond (int_eq x.link b && is_reliable x.class) (f x ∷ ps) ps) (on_link_mapped f same b xs) ∙ step (int_eq x.link b && is_reliable x.class)
  where
    rest : List Out
    rest = filter (λ (x : Out). int_eq x.link b && is_reliable x.class) xs

    step : (t : Bool) → cond t (f x ∷ map f rest) (map f rest) ≡ map f (cond t (x ∷ rest) rest)
    step true = refl
    step false = refl

off_link_mapped : (f : Out → Parcel) → ((x : Out) → (f x).out ≡ x) → (b : ℤ) (xs : List Out) → on_link b false (map f xs) ≡ map f (filter (λ (x : Out). int_eq x.link b && not (is_reliable x.class)) xs)
off_link_mapped f same b [] = refl
off_link_mapped f same b (x ∷ xs) =
    ap (λ (y : Out). cond (int_eq y.link b && not (is_reliable y.class)) (f x ∷ on_link b false (map f xs)) (on_link b false (map f xs))) (same x)
    ∙ ap (λ ps. cond (int_eq x.link b && not (is_reliable x.class)) (f x ∷ ps) ps) (off_link_mapped f same b xs) ∙ step (int_eq x.link b && not (is_reliable x.class))
  where
    rest : List Out
    rest = filter (λ (x : Out). int_eq x.link b && not (is_reliable x.class)) xs

    step : (t : Bool) → cond t (f x ∷ map f rest) (map f rest) ≡ map f (cond t (x ∷ rest) rest)
    step true = refl
    step false = refl

-- filters in the other order
swapped : {X : Type 0} (p q : X → Bool) (xs : List X) → filter (λ x. p x && q x) xs ≡ filter q (filter p xs)
swapped p q [] = refl
swapped p q (x ∷ xs) = step (p x) (q x) refl (swapped p q xs)
  where
    step : (t u : Bool) → q x ≡ u → filter (λ y. p y && q y) xs ≡ filter q (filter p xs)
        → cond (t && u) (x ∷ filter (λ y. p y && q y) xs) (filter (λ y. p y && q y) xs) ≡ filter q (cond t (x ∷ filter p xs) (filter p xs))
    step true u e more = ap (λ zs. cond u (x ∷ zs) zs) more ∙ sym (ap (λ t. cond t (x ∷ filter q (filter p xs)) (filter q (filter p xs))) e)
    step false u e more = more

-- the packets of changes are reliable
all_reliable : (b : ℤ) (us : List Update) → filter (λ (x : Out). is_reliable x.class) (map (λ u. sent_to packet_form b (update_packet u)) us) ≡ map (λ u. sent_to packet_form b (update_packet u)) us
all_reliable b [] = refl
all_reliable b (u ∷ us) = ap (λ xs. sent_to packet_form b (update_packet u) ∷ xs) (all_reliable b us)

none_loose : (b : ℤ) (us : List Update) → filter (λ (x : Out). not (is_reliable x.class)) (map (λ u. sent_to packet_form b (update_packet u)) us) ≡ []
none_loose b [] = refl
none_loose b (u ∷ us) = none_loose b us

-- whether a packet to a peer goes out on a link to it
abbrev pub is_straight : Who → ℤ → Bool
is_straight who b = is_server who || int_eq b server

-- what a peer posts at an entry is its own: it is no call, and no relay that the server passes on
abbrev pub OwnTags : ℤ → Came → Type 0
OwnTags a c = (x : Out) → tag_of packet_form a c x ≡ record { origin = a; target = x.to; tick = x.tick; path = None; forged = false }

-- a packet on its link, as a peer posts it at such an entry
posted_is : (a b : ℤ) (c : Came) → OwnTags a c → (us : List Update) → map (parcel_of packet_form a c) (map (λ u. sent_to packet_form b (update_packet u)) us) ≡ told_parcels a b us
posted_is a b c own [] = refl
posted_is a b c own (u ∷ us) = ap₂ (λ t ps. record { out = sent_to packet_form b (update_packet u); tag = t } ∷ ps) (own (sent_to packet_form b (update_packet u))) (posted_is a b c own us)

-- a packet that goes out straight
straight : (who : Who) (b : ℤ) → is_straight who b ≡ true → (us : List Update) → map (λ u. out_of packet_form (reliable who b (update_packet u))) us ≡ map (λ u. sent_to packet_form b (update_packet u)) us
straight who b direct [] = refl
straight who b direct (u ∷ us) = ap₂ (λ x xs. x ∷ xs) (one (update_packet u)) (straight who b direct us)
  where
    one : (p : Plain) → out_of packet_form (reliable who b p) ≡ sent_to packet_form b p
    one p = ap (λ c. out_of packet_form (if c then record { link = b; to = b; class = Reliable; tick = None; sent = packet_sent (plain_packet p) }
        else record { link = server; to = b; class = Reliable; tick = None; sent = packet_sent (Relay b p) })) direct

-- what an event adds to the changes for a peer: nothing where it isn't up
abbrev pub adds_up : Who → Heard → List Heard → ℤ → List Update
adds_up who e es b = if is_up (e ∷ es) b then adds who e es b else []

pub changes_more : (who : Who) (e : Heard) (es : List Heard) (b : ℤ) → changes who (e ∷ es) b ≡ changes who es b ++ adds_up who e es b
changes_more who e es b = step (is_up (e ∷ es) b)
  where
    nil_right : (us : List Update) → us ≡ us ++ []
    nil_right [] = refl
    nil_right (u ∷ us) = ap (λ vs. u ∷ vs) (nil_right us)

    step : (t : Bool) → (if t then changes who es b ++ adds who e es b else changes who es b) ≡ changes who es b ++ (if t then adds who e es b else [])
    step true = refl
    step false = nil_right (changes who es b)

-- the packets for a peer's link
by_link : (who : Who) (e : Heard) (es : List Heard) (b : ℤ) → AllAccepted who (e ∷ es) → is_straight who b ≡ true
    → filter (λ (x : Out). int_eq x.link b) (map (out_of packet_form) (sends who e es)) ≡ map (λ u. sent_to packet_form b (update_packet u)) (adds_up who e es b)
by_link who e es b all direct = step (is_up (e ∷ es) b) refl
  where
    step : (t : Bool) → is_up (e ∷ es) b ≡ t → filter (λ (x : Out). int_eq x.link b) (map (out_of packet_form) (sends who e es)) ≡ map (λ u. sent_to packet_form b (update_packet u)) (if t then adds who e es b else [])
    step true up = sent_by_link packet_form who e es all b up ∙ straight who b direct (adds who e es b)
    step false down = none_by_link packet_form who e es all b down

-- the parcels that an event of a peer puts on a link
pub link_posts : (s : Scene) (a b : ℤ) (c : Came) (es : List Heard) (xs : List Out) → AllAccepted (peer_of s a) (heard_of packet_form c.event ∷ es) → is_straight (peer_of s a) b ≡ true → OwnTags a c
    → xs ≡ map (out_of packet_form) (sends (peer_of s a) (heard_of packet_form c.event) es)
    → on_link b true (map (parcel_of packet_form a c) xs) ≡ told_parcels a b (adds_up (peer_of s a) (heard_of packet_form c.event) es b)
link_posts s a b c es xs all direct own are =
    let us = adds_up (peer_of s a) (heard_of packet_form c.event) es b in
    on_link_mapped (parcel_of packet_form a c) (λ x. refl) b xs
    ∙ ap (map (parcel_of packet_form a c))
    (swapped (λ (x : Out). int_eq x.link b) (λ (x : Out). is_reliable x.class) xs
    ∙ ap (filter (λ (x : Out). is_reliable x.class)) (ap (filter (λ (x : Out). int_eq x.link b)) are ∙ by_link (peer_of s a) (heard_of packet_form c.event) es b all direct)
    ∙ all_reliable b us)
    ∙ posted_is a b c own us

pub link_posts_no_loose : (s : Scene) (a b : ℤ) (c : Came) (es : List Heard) (xs : List Out) → AllAccepted (peer_of s a) (heard_of packet_form c.event ∷ es) → is_straight (peer_of s a) b ≡ true
    → xs ≡ map (out_of packet_form) (sends (peer_of s a) (heard_of packet_form c.event) es)
    → on_link b false (map (parcel_of packet_form a c) xs) ≡ []
link_posts_no_loose s a b c es xs all direct are =
    let us = adds_up (peer_of s a) (heard_of packet_form c.event) es b in
    off_link_mapped (parcel_of packet_form a c) (λ x. refl) b xs
    ∙ ap (map (parcel_of packet_form a c))
    (swapped (λ (x : Out). int_eq x.link b) (λ (x : Out). not (is_reliable x.class)) xs
    ∙ ap (filter (λ (x : Out). not (is_reliable x.class))) (ap (filter (λ (x : Out). int_eq x.link b)) are ∙ by_link (peer_of s a) (heard_of packet_form c.event) es b all direct)
    ∙ none_loose b us)

-- nothing goes on the link to a peer without one
pub link_posts_nothing : (s : Scene) (a b : ℤ) (t : Bool) (c : Came) (e : Heard) (es : List Heard) (xs : List Out) → AllAccepted (peer_of s a) (e ∷ es) → is_up (e ∷ es) b ≡ false
    → xs ≡ map (out_of packet_form) (sends (peer_of s a) e es) → on_link b t (map (parcel_of packet_form a c) xs) ≡ []
link_posts_nothing s a b t c e es xs all down are = step t
  where
    none : filter (λ (x : Out). int_eq x.link b) xs ≡ []
    none = ap (filter (λ (x : Out). int_eq x.link b)) are ∙ none_by_link packet_form (peer_of s a) e es all b down

    step : (u : Bool) → on_link b u (map (parcel_of packet_form a c) xs) ≡ []
    step true = on_link_mapped (parcel_of packet_form a c) (λ x. refl) b xs
        ∙ ap (map (parcel_of packet_form a c)) (swapped (λ (x : Out). int_eq x.link b) (λ (x : Out). is_reliable x.class) xs ∙ ap (filter (λ (x : Out). is_reliable x.class)) none)
    step false = off_link_mapped (parcel_of packet_form a c) (λ x. refl) b xs
        ∙ ap (map (parcel_of packet_form a c)) (swapped (λ (x : Out). int_eq x.link b) (λ (x : Out). not (is_reliable x.class)) xs ∙ ap (filter (λ (x : Out). not (is_reliable x.class))) none)

-- a link, one event later

-- nothing was told and nothing was heard
pub link_start : (s : Scene) (a b : ℤ) (here there : List Heard) (y : Way) → changes (peer_of s a) here b ≡ [] → updates_from (peer_of s b) there a ≡ [] → y ≡ record { sent = []; delivered = 0; loose = []; last = 0 } → IsLink s a b here there [] y
link_start s a b here there y told heard is = record {
  sent = ap (λ (z : Way). z.sent) is ∙ sym (ap (told_parcels a b) told);
  readable = subst AllReadable (sym told) tt;
  within = subst (λ (z : Way). z.delivered ≤ length (changes (peer_of s a) here b)) (sym is) (omega arith);
  got = heard ∙ sym (ap (λ (z : Way). take z.delivered (changes (peer_of s a) here b)) is ∙ ap (take 0) told);
  count = sym (ap (λ (z : Way). z.delivered) is);
}

-- parcels that tell more
pub link_more : (s : Scene) (a b : ℤ) (e : Heard) (here there : List Heard) (came : List Came) (y : Way) (ps : List Parcel) → on_link b true ps ≡ told_parcels a b (adds_up (peer_of s a) e here b)
    → AllReadable (adds_up (peer_of s a) e here b) → IsLink s a b here there came y → IsLink s a b (e ∷ here) there came (way_with y b ps)
link_more s a b e here there came y ps posts read l =
    let us = changes (peer_of s a) here b in
    let vs = adds_up (peer_of s a) e here b in
    let told : changes (peer_of s a) (e ∷ here) b ≡ us ++ vs = changes_more (peer_of s a) e here b in
    let long = length-append us vs in
    let inside = l.within in
    record {
      sent = ap₂ (λ xs zs. xs ++ zs) l.sent posts ∙ sym (map-append (told_parcel a b) us vs) ∙ ap (told_parcels a b) (sym told);
      readable = subst AllReadable (sym told) (every_joined IsReadable us vs l.readable read);
      within = subst (λ ws. y.delivered ≤ length ws) (sym told) (omega (arith, long, inside));
      got = l.got ∙ sym (take-append-le y.delivered us vs l.within) ∙ ap (take y.delivered) (sym told);
      count = l.count;
    }

-- an event at the receiver that brings nothing of the sender
pub link_stays : (s : Scene) (a b : ℤ) (here there later : List Heard) (came : List Came) (c : Came) (y : Way) → updates_from (peer_of s b) later a ≡ updates_from (peer_of s b) there a → packet_of packet_form s a b c ≡ None
    → IsLink s a b here there came y → IsLink s a b here later (c ∷ came) y
link_stays s a b here there later came c y same none l = record {
  sent = l.sent;
  readable = l.readable;
  within = l.within;
  got = same ∙ l.got;
  count = ap (λ o. length (flat_map updates_in (cons_option o (filter_map (packet_of packet_form s a b) came)))) none ∙ l.count;
}
