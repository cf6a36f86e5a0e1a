-- Every way of every world.
use Rattle.std.proofs.Common.{◌≡◌, ℕ, ℤ, Bool, true, false, cond, not, ◌&&◌, List, [], ◌∷◌, ◌++◌, filter, refl, sym, ap, ap₂, ◌∙◌, Option, Some, None}
use Rattle.std.specs.Prelude.{if◌then◌else◌}
use Rattle.std.specs.Ordering.{int_eq}
use Rattle.std.proofs.lemmas.List.{append-nil}
use Rattle.std.proofs.lemmas.List.Elements.{filter-append}
use Rattle.scene_model.specs.declared.scene.Scene.{Scene}
use Rattle.scene_model.specs.declared.event.Class.{Class}
use Rattle.scene_model.specs.declared.event.Event.TheVariants as event
use Rattle.scene_model.specs.declared.world.WorldEvent.{WorldEvent}
use Rattle.scene_model.specs.declared.world.WorldEvent.TheVariants.{Connect, Down, Op, Rel, Loose, Forge}
use Rattle.peer_model.specs.Heard.{server}
use Rattle.peer_model.specs.Bytes.{PacketForm}
use Rattle.peer_laws.proofs.Numbers.{int_is, int_comm}
use Rattle.world_model.specs.World.{Parcel, Way, Came, World, is_reliable, is_ordered, is_from_to, next_of, loose_at, next_client}
use Rattle.world_model.specs.Happens.{on_link, way_with, fed, by_itself, brought_by, with_client, link_up, after_next, after_loose, at_way, delivered, forged_parcel, after_forge, happens, world, parcels_made}
use Rattle.channel_laws.specs.Channels.{reliable_in, came_over, delivered_over, waiting_on, made_by, posted, is_unforged}
use Rattle.channel_laws.specs.Laws.{LinkIsOrdered, LinkIsPosted, ChannelIsPosted}
use Rattle.channel_laws.proofs.Ways.{Got, got_start, got_more, got_other, got_next, got_after_loose, loose_is}

-- what was sent on a way and not forged is what its sender's answers put there
abbrev pub Posts : PacketForm → Scene → ℤ → ℤ → List Came → List Parcel → Type 0
Posts form s a b cs sent = filter is_unforged sent ≡ filter is_unforged (posted form s a b cs)

-- a way of a world: what it got, and what was posted there
pub record Channel (form : PacketForm) (s : Scene) (a b : ℤ) (here there : List Came) (y : Way) : Type 0 where
  pub got : Got a there y
  pub posts : Posts form s a b here y.sent

abbrev pub Channels : PacketForm → Scene → World → Type 0
Channels form s w = (a b : ℤ) → Channel form s a b (w.history a) (w.history b) (w.way a b)

-- an entry that no reliable parcel brought over a link

abbrev Silent : Came → Type 0
Silent c = (a : ℤ) → came_over a c ≡ []

-- a peer takes an entry, by what becomes of each way before its own parcels are put there
fed_by : (form : PacketForm) (s : Scene) (w : World) (p : ℤ) (c : Came)
    → ((a b : ℤ) → int_eq b p ≡ true → Got a (c ∷ w.history b) (w.way a b))
    → ((a b : ℤ) → int_eq b p ≡ false → Got a (w.history b) (w.way a b))
    → ((a b : ℤ) → Posts form s a b (w.history a) (w.way a b).sent)
    → Channels form s (fed form s w p c)
fed_by form s w p c taken kept posts a b = record { got = got (int_eq b p) refl (int_eq a p); posts = post (int_eq a p) refl }
  where
    ps : List Parcel
    ps = parcels_made form s w p c

    got : (t : Bool) → int_eq b p ≡ t → (u : Bool) → Got a (if t then c ∷ w.history b else w.history b) (if u then way_with (w.way a b) b ps else w.way a b)
    got true h true = got_more a b (c ∷ w.history b) (w.way a b) ps (taken a b h)
    got true h false = taken a b h
    got false h true = got_more a b (w.history b) (w.way a b) ps (kept a b h)
    got false h false = kept a b h

    post : (t : Bool) → int_eq a p ≡ t → Posts form s a b (if t then c ∷ w.history a else w.history a) (if t then way_with (w.way a b) b ps else w.way a b).sent
    post true h =
        filter-append is_unforged (w.way a b).sent (on_link b true ps)
        ∙ ap₂ (λ xs z. xs ++ filter is_unforged (on_link b true (parcels_made form s w z c))) (posts a b) (sym (int_is a p h))
        ∙ sym (filter-append is_unforged (posted form s a b (w.history a)) (on_link b true (made_by form s a (w.history a) c)))
    post false h = posts a b

-- an entry that brought nothing
fed_silent : (form : PacketForm) (s : Scene) (w : World) (p : ℤ) (c : Came) → Silent c → Channels form s w → Channels form s (fed form s w p c)
fed_silent form s w p c quiet all = fed_by form s w p c (λ a b h. got_other a c (w.history b) (w.way a b) (quiet a) (all a b).got) (λ a b h. (all a b).got) (λ a b. (all a b).posts)

-- a delivery over the link from x to z
fed_rel : (form : PacketForm) (s : Scene) (w : World) (x z : ℤ) (o : Option Parcel) → next_of (w.way x z) ≡ o → Channels form s w → Channels form s (delivered form s w x z (λ p. after_next) o)
fed_rel form s w x z None next all = all
fed_rel form s w x z (Some q) next all = fed_by form s (at_way w x z after_next) z (brought_by x q)
    (λ a b h. taken a b (int_eq a x) refl (int_eq b z) refl h) (λ a b h. kept a b (int_eq a x) (int_eq b z) h) (λ a b. post a b (int_eq a x && int_eq b z))
  where
    taken : (a b : ℤ) (t : Bool) → int_eq a x ≡ t → (u : Bool) → int_eq b z ≡ u → u ≡ true → Got a (brought_by x q ∷ w.history b) (if t && u then after_next (w.way a b) else w.way a b)
    taken a b true k true h v =
        let here = ap₂ (λ m n. next_of (w.way m n)) (int_is a x k) (int_is b z h) ∙ next in
        got_next a (brought_by x q) (w.history b) (w.way a b) q here (λ r. ap₂ (λ m n. if m then (if n then q ∷ [] else []) else []) (int_comm x a ∙ k) r) (all a b).got
    taken a b false k true h v = got_other a (brought_by x q) (w.history b) (w.way a b) (ap (λ m. if m then reliable_in (Some q) else []) (int_comm x a ∙ k)) (all a b).got
    taken a b t k false h v = absurd (cc v)

    kept : (a b : ℤ) (t u : Bool) → u ≡ false → Got a (w.history b) (if t && u then after_next (w.way a b) else w.way a b)
    kept a b t true v = absurd (cc v)
    kept a b true false v = (all a b).got
    kept a b false false v = (all a b).got

    post : (a b : ℤ) (t : Bool) → Posts form s a b (w.history a) (if t then after_next (w.way a b) else w.way a b).sent
    post a b true = (all a b).posts
    post a b false = (all a b).posts

-- a loose delivery
fed_loose : (form : PacketForm) (s : Scene) (w : World) (x z : ℤ) (i : ℕ) (o : Option Parcel) → loose_at (w.way x z) i ≡ o → Channels form s w → Channels form s (delivered form s w x z (after_loose i) o)
fed_loose form s w x z i None is all = all
fed_loose form s w x z i (Some q) is all = fed_by form s (at_way w x z (after_loose i q)) z (brought_by x q)
    (λ a b h. got_other a (brought_by x q) (w.history b) (moved a b (int_eq a x && int_eq b z)) (none a (int_eq x a)) (got a b (int_eq a x && int_eq b z)))
    (λ a b h. got a b (int_eq a x && int_eq b z))
    (λ a b. post a b (int_eq a x && int_eq b z) (is_ordered q.out.class))
  where
    moved : (a b : ℤ) → Bool → Way
    moved a b t = if t then after_loose i q (w.way a b) else w.way a b

    unreliable : (t : Bool) → not t ≡ true → (if t then q ∷ [] else []) ≡ []
    unreliable true h = absurd (cc h)
    unreliable false h = refl

    none : (a : ℤ) (t : Bool) → (if t then reliable_in (Some q) else []) ≡ []
    none a true = unreliable (is_reliable q.out.class) (loose_is (w.way x z) i q (all x z).got.loose is)
    none a false = refl

    got : (a b : ℤ) (t : Bool) → Got a (w.history b) (if t then after_loose i q (w.way a b) else w.way a b)
    got a b true = got_after_loose a (w.history b) (w.way a b) i q (all a b).got
    got a b false = (all a b).got

    post : (a b : ℤ) (t u : Bool) → Posts form s a b (w.history a) (if t then (if u then record (w.way a b) { last = i } else w.way a b) else w.way a b).sent
    post a b true true = (all a b).posts
    post a b true false = (all a b).posts
    post a b false u = (all a b).posts

-- a forge puts nothing on a way but what was forged
forged : (form : PacketForm) (s : Scene) (w : World) (p : ℤ) (class : Class) (bytes : List ℕ) → Channels form s w → Channels form s (after_forge w p class bytes)
forged form s w p class bytes all a b = record { got = got (int_eq a p); posts = post (int_eq a p) }
  where
    ps : List Parcel
    ps = forged_parcel p class bytes ∷ []

    unforged : (t : Bool) → filter is_unforged (cond t ps []) ≡ []
    unforged true = refl
    unforged false = refl

    got : (t : Bool) → Got a (w.history b) (if t then way_with (w.way a b) b ps else w.way a b)
    got true = got_more a b (w.history b) (w.way a b) ps (all a b).got
    got false = (all a b).got

    post : (t : Bool) → Posts form s a b (w.history a) (if t then way_with (w.way a b) b ps else w.way a b).sent
    post true =
        filter-append is_unforged (w.way a b).sent (on_link b true ps)
        ∙ ap₂ (λ xs ys. xs ++ ys) (all a b).posts (unforged (int_eq server b && is_reliable class))
        ∙ append-nil (filter is_unforged (posted form s a b (w.history a)))
    post false = (all a b).posts

-- what doesn't change ways and histories
pub happened_channels : (form : PacketForm) (s : Scene) (w : World) (e : WorldEvent) → Channels form s w → Channels form s (happens form s w e)
happened_channels form s w Connect all =
    fed_silent form s (link_up form s w) (next_client w) (by_itself (event.Up server)) (λ a. refl)
    (fed_silent form s (with_client w) server (by_itself (event.Up (next_client w))) (λ a. refl) (λ a b. record { got = (all a b).got; posts = (all a b).posts }))
happened_channels form s w (Down p) all = fed_silent form s (record w { gone = p ∷ w.gone }) server (by_itself (event.Down p)) (λ a. refl) (λ a b. record { got = (all a b).got; posts = (all a b).posts })
happened_channels form s w (Op p op) all = fed_silent form s w p (by_itself (event.Op op)) (λ a. refl) all
happened_channels form s w (Rel x z) all = fed_rel form s w x z (next_of (w.way x z)) refl all
happened_channels form s w (Loose x z i) all = fed_loose form s w x z i (loose_at (w.way x z) i) refl all
happened_channels form s w (Forge p class bytes) all = forged form s w p class bytes all

-- every way of every world
pub channels : (form : PacketForm) (s : Scene) (es : List WorldEvent) → Channels form s (world form s es)
channels form s [] = λ a b. record { got = got_start a; posts = refl }
channels form s (e ∷ es) = happened_channels form s (world form s es) e (channels form s es)

pub link_is_ordered : LinkIsOrdered
link_is_ordered form s es a b = (channels form s es a b).got.joined

pub link_is_posted : LinkIsPosted
link_is_posted form s es a b =
    let w = world form s es in
    let c = channels form s es a b in
    sym (filter-append is_unforged (delivered_over a (w.history b)) (waiting_on (w.way a b))) ∙ ap (filter is_unforged) c.got.joined ∙ c.posts

-- of what isn't forged
abbrev pub own_of : ℤ → ℤ → Parcel → Bool
own_of a b p = int_eq p.tag.origin a && int_eq p.tag.target b

pub own_first : (a b : ℤ) (ps : List Parcel) → filter (is_from_to a b) ps ≡ filter (own_of a b) (filter is_unforged ps)
own_first a b [] = refl
own_first a b (p ∷ ps) = step p.tag.forged (int_eq p.tag.origin a) refl (int_eq p.tag.target b) refl (own_first a b ps)
  where
    step : (t u : Bool) → int_eq p.tag.origin a ≡ u → (v : Bool) → int_eq p.tag.target b ≡ v → filter (is_from_to a b) ps ≡ filter (own_of a b) (filter is_unforged ps)
        → cond ((not t && u) && v) (p ∷ filter (is_from_to a b) ps) (filter (is_from_to a b) ps) ≡ filter (own_of a b) (cond (not t) (p ∷ filter is_unforged ps) (filter is_unforged ps))
    step true u k v l more = more
    step false u k v l more = ap (λ xs. cond (u && v) (p ∷ xs) xs) more ∙ sym (ap₂ (λ m n. cond (m && n) (p ∷ filter (own_of a b) (filter is_unforged ps)) (filter (own_of a b) (filter is_unforged ps))) k l)

pub channel_is_posted : ChannelIsPosted
channel_is_posted form s es a b =
    let w = world form s es in
    let c = channels form s es a b in
    sym (filter-append (is_from_to a b) (delivered_over a (w.history b)) (waiting_on (w.way a b))) ∙ ap (filter (is_from_to a b)) c.got.joined
    ∙ own_first a b (w.way a b).sent ∙ ap (filter (own_of a b)) c.posts ∙ sym (own_first a b (posted form s a b (w.history a)))
