-- Each two peers that are joined are a pair; what the second sees of the first is the first one's replica, and all visible rows once nothing is in flight.
use Rattle.std.proofs.Common.{◌≡◌, ℕ, zero, suc, ℤ, Bool, true, false, cond, not, ◌&&◌, ◌||◌, List, [], ◌∷◌, ◌++◌, length, take, map, filter, drop, refl, sym, ap, ap₂, ◌∙◌, subst, arith, Option, Some, None, Ok, Contains}
use Rattle.std.specs.Prelude.{filter_map, flat_map, reverse, is_none, option_map, option_and_then, if◌then◌else◌}
use Rattle.std.specs.List.{list_all, cons_option, AllByRecursion}
use Rattle.std.specs.Ordering.{int_eq}
use Rattle.std.proofs.lemmas.Bool.{true≢false, eqb-true, and_parts, and_from, or_from, or_parts}
use Rattle.std.proofs.lemmas.List.{take_all, length-map}
use Rattle.std.proofs.lemmas.List.Elements.{filter-append}
use Rattle.gd_variant.specs.Words.{has_int}
use Rattle.gd_variant.specs.declared.message.Message.TheVariants.{AddPeer}
use Rattle.gd_variant.specs.declared.message.Plain.{Plain}
use Rattle.gd_variant.specs.declared.message.Plain.TheVariants.{Spawn as spawn_packet, Despawn as despawn_packet, Delta as delta_packet}
use Rattle.gd_variant.specs.declared.value.Variant.{Variant}
use Rattle.scene_model.specs.declared.scene.Scene.{Scene}
use Rattle.scene_model.specs.declared.event.Event.TheVariants as event
use Rattle.scene_model.specs.declared.event.Op.TheVariants.{Frame}
use Rattle.scene_model.specs.declared.world.WorldEvent.{WorldEvent}
use Rattle.scene_model.specs.Syncs.{Syncer}
use Rattle.scene_model.specs.Valid.{IsValidScene}
use Rattle.peer_model.specs.Heard.{Who, Heard, comes, does, gets, is_server, received_from, server}
use Rattle.peer_model.specs.Peers.{is_up, was_up, brings_up}
use Rattle.peer_model.specs.Updates.{Update, Live, Replica, applied, replica_syncers}
use Rattle.peer_model.specs.Changes.{changes}
use Rattle.peer_model.specs.Ticks.{widened}
use Rattle.peer_model.specs.Visible.{sees, visible_rows}
use Rattle.peer_model.specs.Rows.{own_rows}
use Rattle.peer_model.specs.View.{view, updates_in, updates_from, reach, report_of, sampled_values}
use Rattle.peer_model.specs.Answer.{decided}
use Rattle.peer_model.specs.Bytes.{outcome_of}
use Rattle.peer_laws.specs.Built.{Accepts, AllAccepted, is_row_packet}
use Rattle.peer_laws.proofs.Numbers.{int_is, int_comm}
use Rattle.peer_laws.proofs.Tests.{never, or_true}
use Rattle.peer_laws.proofs.FactsOf.{facts}
use Rattle.peer_laws.proofs.Replica.{in_view, never_seen}
use Rattle.peer_laws.proofs.Views.{only_rows}
use Rattle.peer_laws.proofs.Told.{changes_never}
use Rattle.peer_laws.proofs.Ups.{up_if_was_not, come_is_new}
use Rattle.headless_tree.proofs.Numbered.{unnot}
use Rattle.peer_steps.specs.Steps.{is_done}
use Rattle.peer_core.specs.Forms.{packet_form}
use Rattle.world_laws.specs.Marks.{live_marks, own_marks}
use Rattle.world_laws.proofs.Law.{built_done}
use Rattle.world_laws.proofs.Taking.{marks_settle}
use Rattle.world_model.specs.World.{Parcel, Came, World, peer_of, is_in, is_from_to, accepted_at, is_reliable}
use Rattle.world_model.specs.Happens.{world}
use Rattle.world_model.specs.Answers.{has_no_link}
use Rattle.world_model.specs.Replicas.{Dated, is_joined, is_direct, is_delivered, is_quiet, packet_of, dated_of, packets_delivered, packets_accepted, arrived, shows_node, has_sample, true_ticks, greatest_of, sampled_at, newest_sample, with_newest, told_replica, replica}
use Rattle.channel_laws.specs.Channels.{AllHappened, delivered_at, reliable_in, waiting_on, posted}
use Rattle.channel_laws.proofs.Arrivals.{arrivals_are_posted}
use Rattle.channel_laws.proofs.Links.{channels, own_of, own_first}
use Rattle.world_steps.specs.Pairs.{content_of, made_for, first_hop, loose_between, loose_posted, Pair}
use Rattle.world_steps.specs.Framed.{IsFramed, HasValues, ReportsValues}
use Rattle.world_steps.specs.Scripts.{Happened, PairsHold, NoneIsFault}
use Rattle.world_steps.proofs.Framed.{framed_values}
use Rattle.world_steps.proofs.Reported.{reports_values}
use Rattle.world_steps.proofs.Links.{IsLink, told_parcel, told_parcels, none_taken}
use Rattle.world_steps.proofs.Runs.{heard_at, own_if, is_own_entry, Core, answer_by, heard_is, history_is}
use Rattle.world_steps.proofs.Joins.{Run}
use Rattle.world_steps.proofs.Happenings.{runs}
use Rattle.world_steps.proofs.Arrivals.{arrival, arrives, sender_up}

-- a script that happened, as the laws of channels see it
pub all_happened : (s : Scene) (es : List WorldEvent) → Happened s es → AllHappened packet_form s es
all_happened s [] h = tt
all_happened s (e ∷ es) h = (h.2, all_happened s es h.3)

-- two peers that are joined

pub record IsJoined (w : World) (a b : ℤ) : Type 0 where
  pub apart : int_eq a b ≡ false
  pub first : is_in w a ≡ true
  pub second : is_in w b ≡ true

pub joined_parts : (w : World) (a b : ℤ) → is_joined w a b ≡ true → IsJoined w a b
joined_parts w a b h =
    let parts = and_parts (not (int_eq a b)) _ h in
    let both = and_parts (is_in w a && not (has_int a w.wild)) (is_in w b && not (has_int b w.wild)) parts.1 in
    record { apart = unnot (int_eq a b) parts.0; first = (and_parts (is_in w a) (not (has_int a w.wild)) both.0).0; second = (and_parts (is_in w b) (not (has_int b w.wild)) both.1).0 }

link_from : (a b : ℤ) → int_eq a b ≡ false → is_direct a b ≡ true → has_no_link a b ≡ false
link_from a b apart direct = or_from (int_eq a b) (not (int_eq a server) && not (int_eq b server)) apart (one_is (int_eq a server) (int_eq b server) direct)
  where
    one_is : (t u : Bool) → (t || u) ≡ true → (not t && not u) ≡ false
    one_is true u h = refl
    one_is false true h = refl
    one_is false false h = absurd (cc h)

link_back : (a b : ℤ) → has_no_link a b ≡ false → has_no_link b a ≡ false
link_back a b h =
    let parts = or_parts (int_eq a b) (not (int_eq a server) && not (int_eq b server)) h in
    or_from (int_eq b a) (not (int_eq b server) && not (int_eq a server)) (int_comm b a ∙ parts.0) (swap (not (int_eq a server)) (not (int_eq b server)) parts.1)
  where
    swap : (t u : Bool) → (t && u) ≡ false → (u && t) ≡ false
    swap true true k = absurd (cc k)
    swap true false k = refl
    swap false true k = refl
    swap false false k = refl

-- two clients

no_news : (b : ℤ) (who : Who) (es : List Heard) (e : Heard) → is_server who ≡ false → int_eq b server ≡ false → Accepts who es e → brings_up b e ≡ false
no_news b who es (comes c) client other a = never (int_eq b c) (λ e. absurd (true≢false (sym (come_is_new who es c a).2 ∙ or_from (is_server who) (int_eq c server) client (ap (λ x. int_eq x server) (sym (int_is b c e)) ∙ other))))
no_news b who es (gets from class bytes (Ok (AddPeer c))) client other a = absurd (cc a.built)
no_news b who es e client other a = refl

-- a client never knew another client
never_known : (b : ℤ) (who : Who) (es : List Heard) → is_server who ≡ false → int_eq b server ≡ false → AllAccepted who es → was_up es b ≡ false
never_known b who [] client other all = refl
never_known b who (e ∷ es) client other all = or_from (brings_up b e) (was_up es b) (no_news b who es e client other all.0) (never_known b who es client other all.1)

no_from : (a b : ℤ) (p : Parcel) → not (is_from_to a b p) ≡ true → (ps : List Parcel) → filter (is_from_to a b) (p ∷ ps) ≡ filter (is_from_to a b) ps
no_from a b p h ps = ap (λ t. cond t (p ∷ filter (is_from_to a b) ps) (filter (is_from_to a b) ps)) (unnot (is_from_to a b p) h)

none_from : (a b : ℤ) (ps : List Parcel) → list_all (λ (p : Parcel). not (is_from_to a b p)) ps ≡ true → filter (is_from_to a b) ps ≡ []
none_from a b [] h = refl
none_from a b (p ∷ ps) h = let parts = and_parts (not (is_from_to a b p)) (list_all (λ (q : Parcel). not (is_from_to a b q)) ps) h in no_from a b p parts.0 ps ∙ none_from a b ps parts.1

none_left : (f : Parcel → Bool) (n : ℕ) (ps : List Parcel) → list_all f ps ≡ true → list_all f (drop n ps) ≡ true
none_left f zero ps h = h
none_left f (suc n) [] h = refl
none_left f (suc n) (p ∷ ps) h = none_left f n ps (and_parts (f p) (list_all f ps) h).1

-- parcels of changes for one peer are none for another, or of another
told_others : (a b x z : ℤ) (us : List Update) → (int_eq x a && int_eq z b) ≡ false → list_all (λ (p : Parcel). not (is_from_to a b p)) (told_parcels x z us) ≡ true
told_others a b x z [] h = refl
told_others a b x z (u ∷ us) h = and_from (not (is_from_to a b (told_parcel x z u))) (list_all (λ (p : Parcel). not (is_from_to a b p)) (told_parcels x z us)) (ap not h) (told_others a b x z us h)

-- what came to a client isn't another client's
entries_of_others : (a b : ℤ) → has_no_link a b ≡ true → (cs : List Came) → list_all (is_own_entry b) cs ≡ true → filter (is_from_to a b) (delivered_at cs) ≡ []
entries_of_others a b apart [] h = refl
entries_of_others a b apart (c ∷ cs) h =
    let parts = and_parts (is_own_entry b c) (list_all (is_own_entry b) cs) h in
    filter-append (is_from_to a b) (delivered_at cs) (reliable_in c.brought)
    ∙ ap₂ (λ xs ys. xs ++ ys) (entries_of_others a b apart cs parts.1) (entry c.brought parts.0)
  where
    lost : (q : Parcel) (t : Bool) → is_from_to a b q ≡ false → filter (is_from_to a b) (if t then q ∷ [] else []) ≡ []
    lost q true k = ap (λ u. cond u (q ∷ []) []) k
    lost q false k = refl

    far : (q : Parcel) (t : Bool) → int_eq q.tag.origin a ≡ t → has_no_link q.tag.origin b ≡ false → is_from_to a b q ≡ false
    far q true e k = absurd (true≢false (sym apart ∙ ap (λ x. has_no_link x b) (sym (int_is q.tag.origin a e)) ∙ k))
    far q false e k = ap (λ t. (not q.tag.forged && t) && int_eq q.tag.target b) e ∙ off (not q.tag.forged) (int_eq q.tag.target b)
      where
        off : (x y : Bool) → ((x && false) && y) ≡ false
        off true y = refl
        off false y = refl

    entry : (o : Option Parcel) → own_if b o ≡ true → filter (is_from_to a b) (reliable_in o) ≡ []
    entry None k = refl
    entry (Some q) k = lost q (is_reliable q.out.class) (far q (int_eq q.tag.origin a) refl (unnot (has_no_link q.tag.origin b) (and_parts (not (has_no_link q.tag.origin b)) (is_none q.tag.tick) k).0))

-- packets without a tick

abbrev undated : Plain → Dated
undated p = record { tick = None; packet = p }

dated_are : (s : Scene) (a b : ℤ) (cs : List Came) → list_all (is_own_entry b) cs ≡ true → filter_map (dated_of packet_form s a b) cs ≡ map undated (filter_map (packet_of packet_form s a b) cs)
dated_are s a b [] h = refl
dated_are s a b (c ∷ cs) h =
    let parts = and_parts (is_own_entry b c) (list_all (is_own_entry b) cs) h in
    ap (cons_option (dated_of packet_form s a b c)) (dated_are s a b cs parts.1) ∙ entry c.brought parts.0
  where
    rest : List Plain
    rest = filter_map (packet_of packet_form s a b) cs

    by_packet : (x : Option Plain) (t : Option ℕ) → is_none t ≡ true → cons_option (option_map (λ (p : Plain). record { tick = t; packet = p }) x) (map undated rest) ≡ map undated (cons_option x rest)
    by_packet None t k = refl
    by_packet (Some p) None k = refl
    by_packet (Some p) (Some n) k = absurd (cc k)

    entry : (o : Option Parcel) → own_if b o ≡ true → cons_option (dated_of packet_form s a b (record { event = c.event; brought = o })) (map undated rest) ≡ map undated (cons_option (packet_of packet_form s a b (record { event = c.event; brought = o })) rest)
    entry None k = refl
    entry (Some q) k = by_packet (packet_of packet_form s a b (record { event = c.event; brought = Some q })) q.tag.tick (and_parts (not (has_no_link q.tag.origin b)) (is_none q.tag.tick) k).1

no_ticks : (ps : List Plain) → filter_map (λ (d : Dated). d.tick) (map undated ps) ≡ []
no_ticks [] = refl
no_ticks (p ∷ ps) = no_ticks ps

no_true_ticks : (id : ℕ) (ps : List Plain) → true_ticks id (map undated ps) ≡ []
no_true_ticks id [] = refl
no_true_ticks id (p ∷ ps) = step (shows_node id p) (has_sample id p) (no_true_ticks id ps)
  where
    step : (t u : Bool) → true_ticks id (map undated ps) ≡ [] → (if t then [] else if u then true_ticks id (map undated ps) else true_ticks id (map undated ps)) ≡ []
    step true u more = refl
    step false true more = more
    step false false more = more

rows_have_no_ticks : (ps : List Plain) → list_all is_row_packet ps ≡ true → widened ps ≡ []
rows_have_no_ticks [] h = refl
rows_have_no_ticks (spawn_packet scene spawner net syncs name arg values ∷ ps) h = rows_have_no_ticks ps h
rows_have_no_ticks (despawn_packet net ∷ ps) h = rows_have_no_ticks ps h
rows_have_no_ticks (delta_packet entries ∷ ps) h = rows_have_no_ticks ps h
rows_have_no_ticks (p ∷ ps) h = absurd (cc (and_parts (is_row_packet p) (list_all is_row_packet ps) h).0)

-- packets that were accepted
accepted_are : (s : Scene) (w : World) (a b : ℤ) → Core s w → packets_accepted packet_form s w a b ≡ map undated (packets_delivered packet_form s w a b)
accepted_are s w a b h = ap (filter_map (dated_of packet_form s a b)) (history_is s w h b) ∙ dated_are s a b (w.history b) (h.own b)

-- a replica without samples

none_newest : (best : ℕ → Option (ℕ × List Variant)) → ((id : ℕ) → best id ≡ None) → (ys : List Syncer) (n : Live) → with_newest best ys n ≡ n
none_newest best h [] n = refl
none_newest best h (y ∷ ys) n = ap (λ o. with_newest best ys (record n { values = sampled_values n.path y o n.values })) (h y.id) ∙ none_newest best h ys n

map_same : (f : Live → Live) → ((n : Live) → f n ≡ n) → (ns : List Live) → map f ns ≡ ns
map_same f h [] = refl
map_same f h (n ∷ ns) = ap₂ (λ m ms. m ∷ ms) (h n) (map_same f h ns)

replica_is_told : (s : Scene) (w : World) (a b : ℤ) → Core s w → replica packet_form s w a b ≡ told_replica packet_form s w a b
replica_is_told s w a b h = ap₂ (λ (xs ys : List Live). record { fixed = xs; rows = ys })
    (map_same (with_newest (newest_sample packet_form s w a b) (replica_syncers s a r.rows)) (none_newest (newest_sample packet_form s w a b) none (replica_syncers s a r.rows)) r.fixed)
    (map_same (with_newest (newest_sample packet_form s w a b) (replica_syncers s a r.rows)) (none_newest (newest_sample packet_form s w a b) none (replica_syncers s a r.rows)) r.rows)
  where
    r : Replica
    r = told_replica packet_form s w a b

    none : (id : ℕ) → newest_sample packet_form s w a b id ≡ None
    none id = ap (λ ts. option_and_then (sampled_at packet_form s w a b id) (greatest_of ts)) (ap (true_ticks id) (accepted_are s w a b h) ∙ no_true_ticks id (packets_delivered packet_form s w a b))

-- a pair

no_cards : (s : Scene) (w : World) (a b : ℤ) → Core s w → loose_between w a b ≡ []
no_cards s w a b h = step (is_direct a b)
  where
    step : (t : Bool) → (if t then (w.way a b).loose else (w.way server b).loose ++ (w.way a server).loose) ≡ []
    step true = h.loose a b
    step false = ap₂ (λ (xs ys : List Parcel). xs ++ ys) (h.loose server b) (h.loose a server)

pair_ticks : (s : Scene) (w : World) (a b : ℤ) → Core s w → reach (peer_of s b) (accepted_at packet_form s w b) a ≡ filter_map (λ (d : Dated). d.tick) (packets_accepted packet_form s w a b)
pair_ticks s w a b h =
    ap (λ g. reach (peer_of s b) g a) (heard_is s w h b)
    ∙ rows_have_no_ticks (received_from (peer_of s b) (heard_at w b) a) (only_rows (peer_of s b) (heard_at w b) (h.accepted b) a)
    ∙ sym (ap (filter_map (λ (d : Dated). d.tick)) (accepted_are s w a b h) ∙ no_ticks (packets_delivered packet_form s w a b))

-- over a link
direct_pair : (s : Scene) (es : List WorldEvent) (a b : ℤ) → IsValidScene s → Happened s es → Run s (world packet_form s es) → IsJoined (world packet_form s es) a b → is_direct a b ≡ true → Pair packet_form s (world packet_form s es) a b
direct_pair s es a b valid happened h j direct = record {
  channel = ap (λ t. made_for packet_form a b (delivered_at (w.history b) ++ (if t then waiting_on (w.way a b) else waiting_on (w.way server b) ++ waiting_on (w.way a server)))) direct
      ∙ ap (map (content_of packet_form)) (filter-append (is_from_to a b) (delivered_at (w.history b)) (waiting_on (w.way a b)) ∙ arrivals_are_posted packet_form s es a b (all_happened s es happened) j.apart direct)
      ∙ ap (λ t. made_for packet_form a b (posted packet_form s a (if t then b else server) (w.history a))) (sym direct);
  taken = ap (λ g. updates_from (peer_of s b) g a) (heard_is s w h.core b) ∙ link.got
      ∙ ap₂ (λ n g. take n (changes (peer_of s a) g b)) (sym link.count) (sym (heard_is s w h.core a));
  cards = subst (AllByRecursion (Contains (made_for packet_form a b (loose_posted packet_form s a (first_hop a b) (w.history a))))) (sym (ap (made_for packet_form a b) (no_cards s w a b h.core))) tt;
  ticks = pair_ticks s w a b h.core;
  news = ap (λ g. is_up g a) (heard_is s w h.core b) ∙ sender_up w a b h.members l j.first j.second ∙ sym direct;
}
  where
    w : World
    w = world packet_form s es

    l : has_no_link a b ≡ false
    l = link_from a b j.apart direct

    link : IsLink s a b (heard_at w a) (heard_at w b) (w.history b) (w.way a b)
    link = h.core.links a b l

-- between two clients, which don't know each other
apart_pair : (s : Scene) (es : List WorldEvent) (a b : ℤ) → IsValidScene s → Run s (world packet_form s es) → IsJoined (world packet_form s es) a b → is_direct a b ≡ false → Pair packet_form s (world packet_form s es) a b
apart_pair s es a b valid h j clients = record {
  channel = ap (λ t. made_for packet_form a b (delivered_at (w.history b) ++ (if t then waiting_on (w.way a b) else waiting_on (w.way server b) ++ waiting_on (w.way a server)))) clients
      ∙ ap (map (content_of packet_form)) nothing_comes
      ∙ sym (ap (λ t. made_for packet_form a b (posted packet_form s a (if t then b else server) (w.history a))) clients ∙ ap (map (content_of packet_form)) nothing_posted);
  taken = ap (λ g. updates_from (peer_of s b) g a) (heard_is s w h.core b) ∙ ap (λ ps. flat_map updates_in (reverse ps)) silent
      ∙ sym (ap (λ g. take (arrived packet_form s w a b) (changes (peer_of s a) g b)) (heard_is s w h.core a) ∙ ap (take (arrived packet_form s w a b)) (changes_never (peer_of s a) (heard_at w a) b unknown) ∙ none_taken {X = Update} (arrived packet_form s w a b));
  cards = subst (AllByRecursion (Contains (made_for packet_form a b (loose_posted packet_form s a (first_hop a b) (w.history a))))) (sym (ap (made_for packet_form a b) (no_cards s w a b h.core))) tt;
  ticks = pair_ticks s w a b h.core;
  news = ap (λ g. is_up g a) (heard_is s w h.core b) ∙ up_if_was_not (heard_at w b) a unseen ∙ sym clients;
}
  where
    w : World
    w = world packet_form s es

    ends : (int_eq a server ≡ false) × (int_eq b server ≡ false)
    ends = or_parts (int_eq a server) (int_eq b server) clients

    unknown : was_up (heard_at w a) b ≡ false
    unknown = never_known b (peer_of s a) (heard_at w a) ends.0 ends.1 (h.core.accepted a)

    unseen : was_up (heard_at w b) a ≡ false
    unseen = never_known a (peer_of s b) (heard_at w b) ends.1 ends.0 (h.core.accepted b)

    silent : received_from (peer_of s b) (heard_at w b) a ≡ []
    silent = (facts (peer_of s b) (heard_at w b) valid (h.core.accepted b)).silent a unseen

    no_link : has_no_link a b ≡ true
    no_link = ap₂ (λ t u. int_eq a b || (not t && not u)) ends.0 ends.1 ∙ or_true (int_eq a b)

    link_of : (p : ℤ) → int_eq p server ≡ false → has_no_link p server ≡ false
    link_of p e = ap (λ t. t || (not t && false)) e

    link_to : (p : ℤ) → int_eq p server ≡ false → has_no_link server p ≡ false
    link_to p e = link_back p server (link_of p e)

    up_others : list_all (λ (p : Parcel). not (is_from_to a b p)) (w.way a server).sent ≡ true
    up_others = ap (list_all (λ (p : Parcel). not (is_from_to a b p))) (h.core.links a server (link_of a ends.0)).sent
        ∙ told_others a b a server (changes (peer_of s a) (heard_at w a) server) (ap (λ t. int_eq a a && t) (int_comm server b ∙ ends.1) ∙ and_false (int_eq a a))
      where
        and_false : (t : Bool) → (t && false) ≡ false
        and_false true = refl
        and_false false = refl

    down_others : list_all (λ (p : Parcel). not (is_from_to a b p)) (w.way server b).sent ≡ true
    down_others = ap (list_all (λ (p : Parcel). not (is_from_to a b p))) (h.core.links server b (link_to b ends.1)).sent
        ∙ told_others a b server b (changes (peer_of s server) (heard_at w server) b) (ap (λ t. t && int_eq b b) (int_comm server a ∙ ends.0))

    nothing_comes : filter (is_from_to a b) (delivered_at (w.history b) ++ (waiting_on (w.way server b) ++ waiting_on (w.way a server))) ≡ []
    nothing_comes =
        filter-append (is_from_to a b) (delivered_at (w.history b)) (waiting_on (w.way server b) ++ waiting_on (w.way a server))
        ∙ ap₂ (λ xs ys. xs ++ ys) (entries_of_others a b no_link (w.history b) (h.core.own b))
        (filter-append (is_from_to a b) (waiting_on (w.way server b)) (waiting_on (w.way a server))
        ∙ ap₂ (λ xs ys. xs ++ ys)
        (none_from a b (waiting_on (w.way server b)) (none_left _ (w.way server b).delivered (w.way server b).sent down_others))
        (none_from a b (waiting_on (w.way a server)) (none_left _ (w.way a server).delivered (w.way a server).sent up_others)))

    nothing_posted : filter (is_from_to a b) (posted packet_form s a server (w.history a)) ≡ []
    nothing_posted =
        own_first a b (posted packet_form s a server (w.history a)) ∙ ap (filter (own_of a b)) (sym (channels packet_form s es a server).posts)
        ∙ sym (own_first a b (w.way a server).sent) ∙ none_from a b (w.way a server).sent up_others

pub pair_of : (s : Scene) (es : List WorldEvent) (a b : ℤ) → IsValidScene s → Happened s es → Run s (world packet_form s es) → is_joined (world packet_form s es) a b ≡ true → Pair packet_form s (world packet_form s es) a b
pair_of s es a b valid happened h joined = step (is_direct a b) refl
  where
    j : IsJoined (world packet_form s es) a b
    j = joined_parts (world packet_form s es) a b joined

    step : (t : Bool) → is_direct a b ≡ t → Pair packet_form s (world packet_form s es) a b
    step true direct = direct_pair s es a b valid happened h j direct
    step false clients = apart_pair s es a b valid h j clients

pub pairs_hold : PairsHold
pairs_hold s valid es h a b joined = pair_of s es a b valid h (runs s valid es h) joined

-- the next packet from a joined peer is answered Done
pub none_is_fault : NoneIsFault
none_is_fault s valid es h a b joined direct p next =
    let w = world packet_form s es in
    let r = runs s valid es h in
    let j = joined_parts w a b joined in
    let l = link_from a b j.apart direct in
    let i = arrives s w a b p valid r.core l (sender_up w a b r.members l j.first j.second) next in
    ap is_done (answer_by s w b (event.Received a p.out.class p.out.bytes) (r.core.accepted b))
    ∙ ap₂ (λ r f. is_done (outcome_of packet_form (decided (peer_of s b) (heard_at w b) (arrival a p) r f))) i.accepts.no_refusal i.accepts.no_fault

-- what is seen

abbrev SeesWhole : Scene → World → ℤ → ℤ → List Heard → List Heard → Type 0
SeesWhole s w a b here there = live_marks (view (peer_of s b) there a).rows ≡ own_marks (visible_rows (peer_of s a) here b)

-- over a link on which nothing waits all arrived
all_got : (s : Scene) (w : World) (a b : ℤ) → IsLink s a b (heard_at w a) (heard_at w b) (w.history b) (w.way a b) → is_delivered (w.way a b) ≡ true → updates_from (peer_of s b) (heard_at w b) a ≡ changes (peer_of s a) (heard_at w a) b
all_got s w a b link quiet = link.got ∙ (let n : (w.way a b).delivered ≡ length us = eqb-true (w.way a b).delivered (length (w.way a b).sent) quiet ∙ ap length link.sent ∙ length-map us (told_parcel a b) in take_all (w.way a b).delivered us (omega (arith, n)))
  where
    us : List Update
    us = changes (peer_of s a) (heard_at w a) b

whole_directly : (s : Scene) (w : World) (a b : ℤ) → IsValidScene s → Run s w → IsJoined w a b → is_direct a b ≡ true → is_delivered (w.way a b) ≡ true → SeesWhole s w a b (heard_at w a) (heard_at w b)
whole_directly s w a b valid h j direct quiet =
    let l = link_from a b j.apart direct in
    marks_settle s a b valid (heard_at w a) (heard_at w b) (built_done (peer_of s a) (heard_at w a) (h.core.accepted a)) (sender_up w b a h.members (link_back a b l) j.second j.first) (sender_up w a b h.members l j.first j.second) (all_got s w a b (h.core.links a b l) quiet)

pub whole_seen : (s : Scene) (w : World) (a b : ℤ) → IsValidScene s → Run s w → IsJoined w a b → is_quiet w a b ≡ true → SeesWhole s w a b (accepted_at packet_form s w a) (accepted_at packet_form s w b)
whole_seen s w a b valid h j quiet =
    subst (λ g. SeesWhole s w a b g (accepted_at packet_form s w b)) (sym (heard_is s w h.core a)) (subst (SeesWhole s w a b (heard_at w a)) (sym (heard_is s w h.core b)) (step (is_direct a b) refl))
  where
    step : (t : Bool) → is_direct a b ≡ t → SeesWhole s w a b (heard_at w a) (heard_at w b)
    step true direct = whole_directly s w a b valid h j direct (sym (ap (λ t. if t then is_delivered (w.way a b) else is_delivered (w.way a server) && is_delivered (w.way server b)) direct) ∙ quiet)
    step false clients =
        let ends = or_parts (int_eq a server) (int_eq b server) clients in
        let unseen = never_known a (peer_of s b) (heard_at w b) ends.1 ends.0 (h.core.accepted b) in
        ap (λ (r : Replica). live_marks r.rows) (never_seen (peer_of s b) (heard_at w b) (h.core.accepted b) (facts (peer_of s b) (heard_at w b) valid (h.core.accepted b)) a unseen)
        ∙ sym (ap (λ t. own_marks (if t then filter (sees (peer_of s a) (heard_at w a) b) (own_rows (peer_of s a) (heard_at w a)) else [])) (up_if_was_not (heard_at w a) b (never_known b (peer_of s a) (heard_at w a) ends.0 ends.1 (h.core.accepted a))))

-- the values that are seen

-- A peer has each value of another that it may see: it sees it, and reports it.
pub record KnowsValues (s : Scene) (a b : ℤ) (here there : List Heard) : Type 0 where
  pub seen : HasValues (peer_of s a) here b (view (peer_of s b) there a)
  pub reported : ReportsValues (peer_of s a) here b (report_of (peer_of s b) there)

-- so it is after a frame since which nothing changed
abbrev IfFramed : Scene → ℤ → ℤ → List Heard → List Heard → Type 0
IfFramed s a b here there = IsFramed (peer_of s a) here b → KnowsValues s a b here there

values_directly : (s : Scene) (w : World) (a b : ℤ) → IsValidScene s → Run s w → IsJoined w a b → is_direct a b ≡ true → is_delivered (w.way a b) ≡ true → IfFramed s a b (heard_at w a) (heard_at w b)
values_directly s w a b valid h j direct quiet framed =
    let l = link_from a b j.apart direct in
    let up = sender_up w a b h.members l j.first j.second in
    let seen = framed_values s a b valid (heard_at w a) (heard_at w b) (built_done (peer_of s a) (heard_at w a) (h.core.accepted a)) up (all_got s w a b (h.core.links a b l) quiet) framed in
    record { seen = seen; reported = reports_values (peer_of s a) (heard_at w a) (peer_of s b) (heard_at w b) valid (h.core.accepted b) a j.apart up seen }

-- a peer that never was up wasn't up at a frame
never_framed : (s : Scene) (a b : ℤ) (here : List Heard) → int_eq a server ≡ false → int_eq b server ≡ false → AllAccepted (peer_of s a) here → IsFramed (peer_of s a) here b → ⊥
never_framed s a b here first second all f =
    true≢false (sym f.up ∙ up_if_was_not f.before b (never_known b (peer_of s a) f.before first second (accepted_before f.later (subst (AllAccepted (peer_of s a)) f.are all)).1))
  where
    accepted_before : (later : List Heard) → AllAccepted (peer_of s a) (later ++ does Frame ∷ f.before) → AllAccepted (peer_of s a) (does Frame ∷ f.before)
    accepted_before [] k = k
    accepted_before (e ∷ later) k = accepted_before later k.1

pub values_known : (s : Scene) (w : World) (a b : ℤ) → IsValidScene s → Run s w → IsJoined w a b → is_quiet w a b ≡ true → IfFramed s a b (accepted_at packet_form s w a) (accepted_at packet_form s w b)
values_known s w a b valid h j quiet =
    subst (λ g. IfFramed s a b g (accepted_at packet_form s w b)) (sym (heard_is s w h.core a)) (subst (IfFramed s a b (heard_at w a)) (sym (heard_is s w h.core b)) (step (is_direct a b) refl))
  where
    step : (t : Bool) → is_direct a b ≡ t → IfFramed s a b (heard_at w a) (heard_at w b)
    step true direct = values_directly s w a b valid h j direct (sym (ap (λ t. if t then is_delivered (w.way a b) else is_delivered (w.way a server) && is_delivered (w.way server b)) direct) ∙ quiet)
    step false clients = λ framed. let ends = or_parts (int_eq a server) (int_eq b server) clients in absurd (never_framed s a b (heard_at w a) ends.0 ends.1 (h.core.accepted a) framed)

-- what is seen of a joined peer is what the delivered prefix of its changes makes
pub prefix_seen : (s : Scene) (w : World) (a b : ℤ) → IsValidScene s → Run s w → Pair packet_form s w a b → view (peer_of s b) (accepted_at packet_form s w b) a ≡ told_replica packet_form s w a b
prefix_seen s w a b valid h pair = step (is_direct a b) refl
  where
    there : List Heard
    there = accepted_at packet_form s w b

    all : AllAccepted (peer_of s b) there
    all = subst (AllAccepted (peer_of s b)) (sym (heard_is s w h.core b)) (h.core.accepted b)

    step : (t : Bool) → is_direct a b ≡ t → view (peer_of s b) there a ≡ told_replica packet_form s w a b
    step true direct = in_view (peer_of s b) there all a (pair.news ∙ direct) ∙ ap (applied s a) pair.taken
    step false clients =
        let ends = or_parts (int_eq a server) (int_eq b server) clients in
        let unseen = never_known a (peer_of s b) there ends.1 ends.0 all in
        let known = facts (peer_of s b) there valid all in
        never_seen (peer_of s b) there all known a unseen
        ∙ sym (ap (applied s a) (sym pair.taken ∙ ap (λ ps. flat_map updates_in (reverse ps)) (known.silent a unseen)))

pub replica_seen : (s : Scene) (w : World) (a b : ℤ) → IsValidScene s → Run s w → Pair packet_form s w a b → view (peer_of s b) (accepted_at packet_form s w b) a ≡ replica packet_form s w a b
replica_seen s w a b valid h pair = prefix_seen s w a b valid h pair ∙ sym (replica_is_told s w a b h.core)
