-- What is seen of each peer, where only spawns, despawns and values are received: its updates applied, and its rows among the nodes of the tree.
use Rattle.std.proofs.Common.{◌≡◌, ℕ, ℤ, Bool, true, false, cond, not, ◌&&◌, ◌||◌, List, [], ◌∷◌, ◌++◌, refl, sym, ap, ap₂, ◌∙◌, length, map, filter, reverse, is_some, nat_eq, nat_le, Option, Some, None, Ok, Err}
use Rattle.std.specs.Prelude.{flat_map, find, is_none, int_lt, if◌then◌else◌}
use Rattle.std.specs.List.{list_all, cons_option}
use Rattle.std.specs.Ordering.{int_eq}
use Rattle.std.proofs.lemmas.Bool.{true≢false, or_right, and_parts, and_from, or_parts}
use Rattle.std.proofs.lemmas.Grind.{flat_map-append, reverse_onto}
use Rattle.std.proofs.lemmas.List.Elements.{filter-append}
use Rattle.std.proofs.lemmas.List.Folds.{map_fixed, list_all-map}
use Rattle.std.proofs.lemmas.List.{append-nil}
use Rattle.gd_variant.specs.Words.{has_int, has_nat, put_by}
use Rattle.gd_variant.specs.declared.message.DeltaEntry.{DeltaEntry}
use Rattle.gd_variant.specs.declared.message.Plain.{Plain}
use Rattle.gd_variant.specs.declared.message.Plain.TheVariants as packet
use Rattle.gd_variant.specs.declared.message.Message.TheVariants.{Plain as plain_packet, AddPeer, DelPeer, Auth, Relay}
use Rattle.scene_model.specs.declared.scene.Scene.{Scene}
use Rattle.scene_model.specs.declared.scene.Node.{Node}
use Rattle.scene_model.specs.declared.event.Class.{Class}
use Rattle.scene_model.specs.declared.spawn.SpawnMsg.{SpawnMsg}
use Rattle.scene_model.specs.Paths.{is_name}
use Rattle.scene_model.specs.Lookup.{fixed_node_at}
use Rattle.scene_model.specs.Syncs.{Syncer, syncer_with}
use Rattle.scene_model.specs.Valid.{IsValidScene}
use Rattle.peer_model.specs.Heard.{Who, Heard, does, comes, goes, gets, is_server, server, received_from}
use Rattle.peer_model.specs.Peers.{is_up, peers_up}
use Rattle.peer_model.specs.Rows.{OwnRow, own_rows, syncs_at}
use Rattle.peer_model.specs.Updates.{Update, Hide, Show, Tell, Live, Replica, applied, apply_update, apply_updates, tell_node, shown_node, shown_path, shown_place, by_number, replica_syncers, fixed_of, spawner_with}
use Rattle.peer_model.specs.View.{view, updates_in, updates_from, samples_of, best_sample, with_sample, with_samples, sampled_values, rows_while, own_live, rows_of, authorities, fixed_now, tree_of, node_at}
use Rattle.peer_model.specs.Refusals.{most_rows}
use Rattle.peer_model.specs.Faults.{link_fault, packet_fault, spawn_fault, auth_is, bad_id, first_known, known_ids, wrong_spawn}
use Rattle.scene_model.proofs.ListLaws.{any-put_by}
use Rattle.peer_model.proofs.Shown.{joined_updates}
use Rattle.headless_tree.specs.Nodes.{is_row_of}
use Rattle.peer_laws.specs.Built.{Accepts, AllAccepted, is_row_packet}
use Rattle.peer_laws.specs.Facts.{Facts, rows_under}
use Rattle.peer_laws.proofs.Tests.{first_none, none_mapped, no_first, not_false, no_row, no_answer}
use Rattle.peer_laws.proofs.Numbers.{int_same, int_is}
use Rattle.peer_laws.proofs.Each.{all-put_by, all-filter}
use Rattle.peer_laws.proofs.Sorted.{put_rising, is_rising}
use Rattle.peer_laws.proofs.Authorities.{under_flat}
use Rattle.peer_laws.proofs.Scenes.{shown_name, shown_is_placed}
use Rattle.peer_laws.proofs.Ups.{has_up, ups_apart, this_not_up}

-- the packet of a Show, and the event that it comes by
abbrev pub show_plain : SpawnMsg → Plain
show_plain m = packet.Spawn m.scene m.spawner m.net m.syncs m.name m.arg m.values

abbrev pub shown_by : ℤ → Class → List ℕ → SpawnMsg → Heard
shown_by from class bytes m = gets from class bytes (Ok (plain_packet (show_plain m)))

-- a packet of a peer's own, and the event that a Hide comes by
abbrev pub got : ℤ → Class → List ℕ → Plain → Heard
got from class bytes p = gets from class bytes (Ok (plain_packet p))

abbrev pub hidden_by : ℤ → Class → List ℕ → ℕ → Heard
hidden_by from class bytes net = got from class bytes (packet.Despawn net)

-- only packets of rows and of their values are received

pub only_rows : (who : Who) (es : List Heard) → AllAccepted who es → (c : ℤ) → list_all is_row_packet (received_from who es c) ≡ true
only_rows who [] h c = refl
only_rows who (does op ∷ es) h c = only_rows who es h.1 c
only_rows who (comes b ∷ es) h c = only_rows who es h.1 c
only_rows who (goes b ∷ es) h c = only_rows who es h.1 c
only_rows who (gets from class bytes (Ok (plain_packet p)) ∷ es) h c = elim (int_eq from c) as (λ b. list_all is_row_packet (cons_option (cond b (Some p) None) (received_from who es c)) ≡ true) [
  | true ↦ and_from (is_row_packet p) (list_all is_row_packet (received_from who es c)) h.0.built (only_rows who es h.1 c)
  | false ↦ only_rows who es h.1 c
]
only_rows who (gets from class bytes (Ok (AddPeer b)) ∷ es) h c = absurd (true≢false (sym h.0.built))
only_rows who (gets from class bytes (Ok (DelPeer b)) ∷ es) h c = absurd (true≢false (sym h.0.built))
only_rows who (gets from class bytes (Ok (Auth b bs)) ∷ es) h c = absurd (true≢false (sym h.0.built))
only_rows who (gets from class bytes (Ok (Relay b p)) ∷ es) h c = absurd (true≢false (sym h.0.built))
only_rows who (gets from class bytes (Err bad) ∷ es) h c = only_rows who es h.1 c

no_samples : (id : ℕ) (ps : List Plain) → list_all is_row_packet ps ≡ true → samples_of id ps ≡ []
no_samples id [] h = refl
no_samples id (packet.Spawn scene spawner net syncs name arg values ∷ ps) h = elim (has_nat id syncs) as (λ b. (if b then [] else samples_of id ps) ≡ []) [ true ↦ refl | false ↦ no_samples id ps h ]
no_samples id (packet.Despawn net ∷ ps) h = no_samples id ps h
no_samples id (packet.Delta entries ∷ ps) h = no_samples id ps h
no_samples id (p ∷ ps) h = absurd (true≢false (sym (and_parts (is_row_packet p) (list_all is_row_packet ps) h).0))

same_node : (ps : List Plain) → list_all is_row_packet ps ≡ true → (n : Live) (y : Syncer) → with_sample ps n y ≡ n
same_node ps h n y = ap (λ ss. record n { values = sampled_values n.path y (best_sample ss) n.values }) (no_samples y.id ps h)

same_nodes : (ps : List Plain) → list_all is_row_packet ps ≡ true → (ys : List Syncer) (n : Live) → with_samples ps ys n ≡ n
same_nodes ps h [] n = refl
same_nodes ps h (y ∷ ys) n = ap (with_samples ps ys) (same_node ps h n y) ∙ same_nodes ps h ys n

-- what a peer's updates make here, while it is up or not
abbrev pub kept_while : Bool → Replica → Replica
kept_while up r = record { fixed = r.fixed; rows = rows_while up r.rows }

-- a peer's view is what its updates make
pub view_is : (who : Who) (es : List Heard) → AllAccepted who es → (c : ℤ) → view who es c ≡ kept_while (is_up es c) (applied who.scene c (updates_from who es c))
view_is who es h c =
    let ps = received_from who es c in
    let r = applied who.scene c (updates_from who es c) in
    let same : (ns : List Live) → map (with_samples ps (replica_syncers who.scene c r.rows)) ns ≡ ns = λ ns. map_fixed (with_samples ps (replica_syncers who.scene c r.rows)) ns (λ k d l. same_nodes ps (only_rows who es h c) (replica_syncers who.scene c r.rows) _) in
    ap₂ {C = Replica} (λ f ls. record { fixed = f; rows = rows_while (is_up es c) ls }) (same r.fixed) (same r.rows)

-- updates, one packet later

updates_onto : (ps : List Plain) (p : Plain) → flat_map updates_in (reverse (p ∷ ps)) ≡ flat_map updates_in (reverse ps) ++ updates_in p
updates_onto ps p =
    ap (flat_map updates_in) (reverse_onto ps p [])
    ∙ flat_map-append updates_in (reverse ps) (p ∷ [])
    ∙ ap (λ us. flat_map updates_in (reverse ps) ++ us) (append-nil (updates_in p))

pub updates_got : (who : Who) (es : List Heard) (from : ℤ) (class : Class) (bytes : List ℕ) (p : Plain) → updates_from who (got from class bytes p ∷ es) from ≡ updates_from who es from ++ updates_in p
updates_got who es from class bytes p =
    ap (λ b. flat_map updates_in (reverse (cons_option (cond b (Some p) None) (received_from who es from)))) (int_same from)
    ∙ updates_onto (received_from who es from) p

pub updates_of_others : (who : Who) (es : List Heard) (from : ℤ) (class : Class) (bytes : List ℕ) (p : Plain) (c : ℤ) → int_eq from c ≡ false → updates_from who (got from class bytes p ∷ es) c ≡ updates_from who es c
updates_of_others who es from class bytes p c other = ap (λ b. flat_map updates_in (reverse (cons_option (cond b (Some p) None) (received_from who es c)))) other

-- a Show more puts its node among the rows
pub applied_show : (s : Scene) (c : ℤ) (us : List Update) (m : SpawnMsg) → applied s c (us ++ Show m ∷ []) ≡ record { fixed = (applied s c us).fixed; rows = put_by by_number (shown_node s c m) (applied s c us).rows }
applied_show s c us m = joined_updates s c (record { fixed = fixed_of s c; rows = [] }) us (Show m ∷ [])

-- a Hide more takes the row of its number away
pub applied_hide : (s : Scene) (c : ℤ) (us : List Update) (net : ℕ) → applied s c (us ++ Hide net ∷ []) ≡ record { fixed = (applied s c us).fixed; rows = filter (λ (n : Live). not (nat_eq n.num net)) (applied s c us).rows }
applied_hide s c us net = joined_updates s c (record { fixed = fixed_of s c; rows = [] }) us (Hide net ∷ [])

-- what is known of an accepted spawn

-- no row of the table of spawn faults holds
pub record IsWelcome (who : Who) (es : List Heard) (from : ℤ) (m : SpawnMsg) : Type 0 where
  pub link : link_fault who es from ≡ None
  pub known : is_none (fixed_node_at who.scene m.spawner) ≡ false
  pub spawner : is_none (spawner_with who.scene m.spawner) ≡ false
  pub authority : not (auth_is from (fixed_node_at who.scene m.spawner)) ≡ false
  pub scene : is_none (shown_name who.scene m) ≡ false
  pub range : find bad_id (m.net ∷ m.syncs) ≡ None
  pub fresh : first_known (known_ids (view who es from).rows) (m.net ∷ m.syncs) ≡ None
  pub name : not (is_name m.name) ≡ false
  pub free : is_some (node_at who es (shown_path who.scene m)) ≡ false
  pub room : nat_le most_rows (length (view who es from).rows) ≡ false
  pub right : wrong_spawn (syncs_at who.scene (shown_place who.scene m)) m ≡ false

pub spawn_is_welcome : (who : Who) (es : List Heard) (from : ℤ) (class : Class) (bytes : List ℕ) (m : SpawnMsg) → Accepts who es (shown_by from class bytes m) → IsWelcome who es from m
spawn_is_welcome who es from class bytes m h =
    let both_none = first_none (link_fault who es from) (spawn_fault who es from m (view who es from).rows) h.no_fault in
    let a = no_row _ _ _ both_none.1 in
    let b = no_row _ _ _ a.1 in
    let c = no_row _ _ _ b.1 in
    let d = no_row _ _ _ c.1 in
    let e = no_first _ _ d.1 in
    let f = no_first _ _ e.1 in
    let g = no_row _ _ _ f.1 in
    let i = no_row _ _ _ g.1 in
    let j = no_row _ _ _ i.1 in
    let k = no_row _ _ _ j.1 in
    record { link = both_none.0; known = a.0; spawner = b.0; authority = c.0; scene = d.0; range = none_mapped _ _ e.0; fresh = none_mapped _ _ f.0; name = g.0; free = i.0; room = j.0; right = k.0 }

-- a link from which a packet is taken is up
pub linked_up : (who : Who) (es : List Heard) (from : ℤ) → link_fault who es from ≡ None → is_up es from ≡ true
linked_up who es from h = not_false (is_up es from) (or_parts (not (is_up es from)) (not (is_server who) && not (int_eq from server)) (no_answer _ _ h)).0

-- a packet of a link that is up
pub welcome_is_up : (who : Who) (es : List Heard) (from : ℤ) (m : SpawnMsg) → IsWelcome who es from m → is_up es from ≡ true
welcome_is_up who es from m w = linked_up who es from w.link

pub got_is_up : (who : Who) (es : List Heard) (from : ℤ) (class : Class) (bytes : List ℕ) (p : Plain) → Accepts who es (got from class bytes p) → is_up es from ≡ true
got_is_up who es from class bytes p h = linked_up who es from (first_none (link_fault who es from) (packet_fault who es from p) h.no_fault).0

pub welcome_is_placed : (who : Who) (es : List Heard) (from : ℤ) (m : SpawnMsg) → IsValidScene who.scene → IsWelcome who es from m → is_some (shown_place who.scene m) ≡ true
welcome_is_placed who es from m v w = shown_is_placed who.scene v m w.scene

pub welcome_is_row : (who : Who) (es : List Heard) (from : ℤ) (m : SpawnMsg) → IsValidScene who.scene → IsWelcome who es from m → is_row_of from (shown_node who.scene from m) ≡ true
welcome_is_row who es from m v w = and_from (is_some (shown_place who.scene m)) (int_eq from from) (welcome_is_placed who es from m v w) (int_same from)

-- rows of a view

-- Tells leave whose rows they are
row_told : (c : ℤ) (o : Option Syncer) (t : DeltaEntry) (n : Live) → is_row_of c (tell_node o t n) ≡ is_row_of c n
row_told c None t n = refl
row_told c (Some y) t n = refl

all_told : (s : Scene) (c : ℤ) (ts : List DeltaEntry) (r : Replica) → list_all (is_row_of c) r.rows ≡ true → list_all (is_row_of c) (apply_updates s c r (map Tell ts)).rows ≡ true
all_told s c [] r h = h
all_told s c (t ∷ ts) r h =
    let o = syncer_with t.id (replica_syncers s c r.rows) in
    all_told s c ts (apply_update s c r (Tell t)) (list_all-map (is_row_of c) (tell_node o t) r.rows ∙ all_same (λ n. is_row_of c (tell_node o t n)) (is_row_of c) (row_told c o t) r.rows ∙ h)
  where
    all_same : (p q : Live → Bool) → ((n : Live) → p n ≡ q n) → (ns : List Live) → list_all p ns ≡ list_all q ns
    all_same p q k [] = refl
    all_same p q k (n ∷ ns) = ap₂ (λ a b. a && b) (k n) (all_same p q k ns)

-- whether all that a peer's updates make with one packet more are its rows
abbrev rows_with : Who → List Heard → ℤ → Option Plain → Bool
rows_with who es c o = list_all (is_row_of c) (applied who.scene c (flat_map updates_in (reverse (cons_option o (received_from who es c))))).rows

pub applied_rows_are_of : (who : Who) (es : List Heard) → IsValidScene who.scene → AllAccepted who es → (c : ℤ) → list_all (is_row_of c) (applied who.scene c (updates_from who es c)).rows ≡ true
applied_rows_are_of who [] v h c = refl
applied_rows_are_of who (does op ∷ es) v h c = applied_rows_are_of who es v h.1 c
applied_rows_are_of who (comes b ∷ es) v h c = applied_rows_are_of who es v h.1 c
applied_rows_are_of who (goes b ∷ es) v h c = applied_rows_are_of who es v h.1 c
applied_rows_are_of who (gets from class bytes (Ok (plain_packet (packet.Spawn scene spawner net syncs name arg values))) ∷ es) v h c =
    step (int_eq from c) refl (applied_rows_are_of who es v h.1 c)
  where
    m : SpawnMsg
    m = record { scene = scene; spawner = spawner; net = net; syncs = syncs; name = name; arg = arg; values = values }

    is_new : from ≡ c → is_row_of c (shown_node who.scene c m) ≡ true
    is_new e = ap (λ z. is_row_of z (shown_node who.scene z m)) (sym e) ∙ welcome_is_row who es from m v (spawn_is_welcome who es from class bytes m h.0)

    step : (b : Bool) → int_eq from c ≡ b → list_all (is_row_of c) (applied who.scene c (updates_from who es c)).rows ≡ true → rows_with who es c (cond b (Some (show_plain m)) None) ≡ true
    step false e more = more
    step true e more =
        ap (λ us. list_all (is_row_of c) (applied who.scene c us).rows) (updates_onto (received_from who es c) (show_plain m))
        ∙ ap (λ (r : Replica). list_all (is_row_of c) r.rows) (applied_show who.scene c (updates_from who es c) m)
        ∙ all-put_by (is_row_of c) by_number (shown_node who.scene c m) (applied who.scene c (updates_from who es c)).rows (is_new (int_is from c e)) more
applied_rows_are_of who (gets from class bytes (Ok (plain_packet (packet.Despawn net))) ∷ es) v h c = step (int_eq from c) (applied_rows_are_of who es v h.1 c)
  where
    step : (b : Bool) → list_all (is_row_of c) (applied who.scene c (updates_from who es c)).rows ≡ true → rows_with who es c (cond b (Some (packet.Despawn net)) None) ≡ true
    step false more = more
    step true more =
        ap (λ us. list_all (is_row_of c) (applied who.scene c us).rows) (updates_onto (received_from who es c) (packet.Despawn net))
        ∙ ap (λ (r : Replica). list_all (is_row_of c) r.rows) (applied_hide who.scene c (updates_from who es c) net)
        ∙ all-filter (is_row_of c) (λ (n : Live). not (nat_eq n.num net)) (applied who.scene c (updates_from who es c)).rows more
applied_rows_are_of who (gets from class bytes (Ok (plain_packet (packet.Delta entries))) ∷ es) v h c = step (int_eq from c) (applied_rows_are_of who es v h.1 c)
  where
    step : (b : Bool) → list_all (is_row_of c) (applied who.scene c (updates_from who es c)).rows ≡ true → rows_with who es c (cond b (Some (packet.Delta entries)) None) ≡ true
    step false more = more
    step true more =
        ap (λ us. list_all (is_row_of c) (applied who.scene c us).rows) (updates_onto (received_from who es c) (packet.Delta entries))
        ∙ ap (λ (r : Replica). list_all (is_row_of c) r.rows) (joined_updates who.scene c (record { fixed = fixed_of who.scene c; rows = [] }) (updates_from who es c) (map Tell entries))
        ∙ all_told who.scene c entries (applied who.scene c (updates_from who es c)) more
applied_rows_are_of who (gets from class bytes (Ok m) ∷ es) v h c = absurd (true≢false (sym h.0.built))
applied_rows_are_of who (gets from class bytes (Err bad) ∷ es) v h c = applied_rows_are_of who es v h.1 c

all_while : (p : Live → Bool) (up : Bool) (rows : List Live) → list_all p rows ≡ true → list_all p (rows_while up rows) ≡ true
all_while p true rows h = h
all_while p false rows h = refl

-- each row of a peer's view has that peer as its authority
pub view_rows_are_of : (who : Who) (es : List Heard) → IsValidScene who.scene → AllAccepted who es → (c : ℤ) → list_all (is_row_of c) (view who es c).rows ≡ true
view_rows_are_of who es v h c =
    ap (λ (r : Replica). list_all (is_row_of c) r.rows) (view_is who es h c)
    ∙ all_while (is_row_of c) (is_up es c) (applied who.scene c (updates_from who es c)).rows (applied_rows_are_of who es v h c)

-- each own row has this peer
pub own_rows_are_of : (who : Who) (es : List Heard) (rows : List OwnRow) → list_all (is_row_of who.id) (map (own_live who es) rows) ≡ true
own_rows_are_of who es [] = refl
own_rows_are_of who es (r ∷ rows) = and_from (int_eq who.id who.id) (list_all (is_row_of who.id) (map (own_live who es) rows)) (int_same who.id) (own_rows_are_of who es rows)

pub rows_are_of : (who : Who) (es : List Heard) → IsValidScene who.scene → AllAccepted who es → (c : ℤ) → list_all (is_row_of c) (rows_of who es c) ≡ true
rows_are_of who es v h c = step (int_eq c who.id) refl
  where
    step : (b : Bool) → int_eq c who.id ≡ b → list_all (is_row_of c) (if b then map (own_live who es) (own_rows who es) else (view who es c).rows) ≡ true
    step true e = ap (λ z. list_all (is_row_of z) (map (own_live who es) (own_rows who es))) (int_is c who.id e) ∙ own_rows_are_of who es (own_rows who es)
    step false e = view_rows_are_of who es v h c

-- the peers that may have rows rise
pub authorities_rise : (who : Who) (es : List Heard) → AllAccepted who es → Facts who es → is_rising (authorities who es) ≡ true
authorities_rise who es h f = put_rising who.id (peers_up es) (has_up es who.id ∙ this_not_up who es f) (ups_apart who es h)

pub this_among : (who : Who) (es : List Heard) → has_int who.id (authorities who es) ≡ true
this_among who es = any-put_by (int_eq who.id) int_lt who.id (peers_up es) ∙ ap (λ b. b || has_int who.id (peers_up es)) (int_same who.id)

pub up_among : (who : Who) (es : List Heard) (c : ℤ) → is_up es c ≡ true → has_int c (authorities who es) ≡ true
up_among who es c up = any-put_by (int_eq c) int_lt who.id (peers_up es) ∙ or_right (int_eq c who.id) (has_int c (peers_up es)) (has_up es c ∙ up)

-- rows of the tree

no_fixed : (who : Who) (es : List Heard) (c : ℤ) (nodes : List Node) → rows_under c (map (fixed_now who es) nodes) ≡ []
no_fixed who es c [] = refl
no_fixed who es c (n ∷ nodes) = no_fixed who es c nodes

-- the rows of an authority in the tree are those that it has here
pub tree_rows_under : (who : Who) (es : List Heard) → IsValidScene who.scene → AllAccepted who es → Facts who es → (c : ℤ) → has_int c (authorities who es) ≡ true → rows_under c (tree_of who es) ≡ rows_of who es c
tree_rows_under who es v h f c among =
    filter-append (is_row_of c) (map (fixed_now who es) who.scene.nodes) (flat_map (rows_of who es) (authorities who es))
    ∙ ap₂ (λ xs ys. xs ++ ys) (no_fixed who es c who.scene.nodes) (under_flat (rows_of who es) (rows_are_of who es v h) c (authorities who es) (authorities_rise who es h f) among)

pub view_rows_under : (who : Who) (es : List Heard) → IsValidScene who.scene → AllAccepted who es → Facts who es → (c : ℤ) → is_up es c ≡ true → int_eq c who.id ≡ false → rows_under c (tree_of who es) ≡ (view who es c).rows
view_rows_under who es v h f c up other =
    tree_rows_under who es v h f c (up_among who es c up)
    ∙ ap (λ b. if b then map (own_live who es) (own_rows who es) else (view who es c).rows) other
