-- What is kept judges an event as the definitions do.
use Rattle.std.proofs.Common.{◌≡◌, ℕ, suc, ℤ, pos, Bool, true, false, cond, not, ◌&&◌, ◌||◌, List, [], ◌∷◌, refl, sym, ap, ap₂, ◌∙◌, subst, arith, length, map, filter, reverse, is_some, Option, Some, None}
use Rattle.std.specs.Prelude.{slice_get, option_and_then, is_none, nat_le, nat_lt, int_lt, if◌then◌else◌}
use Rattle.std.specs.List.{list_any, Contains}
use Rattle.std.specs.Ordering.{int_eq}
use Rattle.std.proofs.lemmas.Grind.{reverse_onto}
use Rattle.std.proofs.lemmas.List.Folds.{list_any-append}
use Rattle.std.proofs.lemmas.List.{length-map}
use Rattle.gd_variant.specs.Words.{text_eq, has_int, some_is, when, first_of}
use Rattle.gd_variant.specs.declared.value.Variant.{Variant}
use Rattle.scene_model.specs.declared.scene.SpawnerDef.{SpawnerDef}
use Rattle.scene_model.specs.declared.spawn.SpawnMsg.{SpawnMsg}
use Rattle.scene_model.specs.declared.event.SpawnOp.{SpawnOp}
use Rattle.scene_model.specs.declared.outcome.Refusal.{Refusal}
use Rattle.scene_model.specs.declared.outcome.Refusal.TheVariants.{NoNode, NotAuthority, BadPeer, PeersFull, NoPeer, NoSync, VisFull}
use Rattle.scene_model.specs.declared.outcome.Fault.TheVariants as fault
use Rattle.scene_model.specs.Lookup.{spawner_at}
use Rattle.scene_model.specs.Valid.{IsValidScene}
use Rattle.peer_model.specs.Heard.{Who, Heard, is_server, server}
use Rattle.peer_model.specs.Peers.{is_up, was_up, peers_come, peers_up}
use Rattle.peer_model.specs.Rows.{OwnRow, own_rows, syncs_at}
use Rattle.peer_model.specs.Updates.{Live, live_at}
use Rattle.peer_model.specs.View.{tree_of, node_at, view}
use Rattle.peer_model.specs.Refusals.{most_clients, owns, limit_reached, last_number, spawn_refused, spawn_refusal, set_refusal, despawn_refusal, sight_refusal, named_syncs, up_refusal, down_refusal}
use Rattle.peer_model.specs.Faults.{link_fault, spawn_fault, despawn_fault}
use Rattle.peer_model.proofs.Links.{was_up_come}
use Rattle.headless_tree.specs.Nodes.{is_row_of}
use Rattle.peer_laws.specs.Built.{AllAccepted}
use Rattle.peer_laws.specs.Facts.{rows_under}
use Rattle.peer_laws.proofs.Numbers.{int_is}
use Rattle.peer_laws.proofs.Ups.{has_up}
use Rattle.peer_laws.proofs.FactsOf.{facts}
use Rattle.sight_laws.specs.Sights.{Sight, RowSight, Sights, row_sight}
use Rattle.sight_laws.proofs.Kept.{row_sight_found}
use Rattle.sight_laws.specs.Seen.{all_sights}
use Rattle.peer_steps.specs.Track.{SightChange, sight_at, row_sight_at, fixed_sight_at}
use Rattle.peer_steps.proofs.OwnRows.{IsFixedAt, own_at, fixed_at, fixed_stands}
use Rattle.peer_steps.specs.Rows.{kept_row}
use Rattle.peer_steps.specs.Kept.{Kept}
use Rattle.peer_steps.specs.Spawns.{rows_of_spawner, is_at_limit, spawn_judged, shown_judged}
use Rattle.peer_steps.specs.Peers.{comes_judged}
use Rattle.peer_steps.specs.Judged.{lacks_server, set_judged, despawn_judged, sight_judged, hidden_judged, link_judged}
use Rattle.peer_steps.specs.Stands.{HasParts}

-- the table of a setting, by its tests
abbrev sight_why : Bool → Bool → Bool → Bool → Option Refusal
sight_why gone named own full = first_of (when gone NoNode ∷ when (not named) NoSync ∷ when (not own) NotAuthority ∷ when full VisFull ∷ [])

-- links

or_comm : (a b : Bool) → (a || b) ≡ (b || a)
or_comm true true = refl
or_comm true false = refl
or_comm false true = refl
or_comm false false = refl

or_none : (a : Bool) → (a || false) ≡ a
or_none true = refl
or_none false = refl

-- a list and its reverse have the same elements
any-reverse : {X : Type 0} (p : X → Bool) (xs : List X) → list_any p (reverse xs) ≡ list_any p xs
any-reverse p [] = refl
any-reverse p (x ∷ xs) =
    ap (list_any p) (reverse_onto xs x [])
    ∙ list_any-append p (reverse xs) (x ∷ [])
    ∙ ap₂ (λ a b. a || b) (any-reverse p xs) (or_none (p x))
    ∙ or_comm (list_any p xs) (p x)

-- a peer came up before where it is among those that came
came_is : (k : Kept) (es : List Heard) → HasParts k es → (b : ℤ) → has_int b k.peers.come ≡ was_up es b
came_is k es h b = ap (has_int b) h.come ∙ any-reverse (int_eq b) (peers_come es) ∙ sym (was_up_come es b)

up_is : (k : Kept) (es : List Heard) → HasParts k es → (b : ℤ) → has_int b k.peers.up ≡ is_up es b
up_is k es h b = ap (has_int b) h.up ∙ has_up es b

-- why a link isn't taken up, by whether this peer is the server, the other is, and whether there is no room
abbrev up_why : Bool → Bool → Bool → Bool → Option Refusal
up_why here there bad full = if not here && not there then Some BadPeer else first_of (when bad BadPeer ∷ when (here && full) PeersFull ∷ [])

-- the same, where a bad link is told for the server and for clients apart
by_side : (here there low own was below full : Bool) → (here ≡ true → below ≡ (low || own)) → (there ≡ true → low ≡ false)
    → up_why here there (low || own || was) full ≡ first_of (when (own || was || (if here then below else not there)) BadPeer ∷ when (here && full) PeersFull ∷ [])
by_side true there low own was below full two one = ap (λ t. first_of (when t BadPeer ∷ when full PeersFull ∷ [])) (shuffled low own was ∙ ap (λ t. own || was || t) (sym (two refl)))
  where
    shuffled : (low own was : Bool) → (low || own || was) ≡ (own || was || (low || own))
    shuffled true true was = refl
    shuffled true false true = refl
    shuffled true false false = refl
    shuffled false true was = refl
    shuffled false false true = refl
    shuffled false false false = refl
by_side false true low own was below full two one = ap (λ t. first_of (when t BadPeer ∷ None ∷ [])) (ap (λ t. t || own || was) (one refl) ∙ sym (or_none (own || was)))
by_side false false low own was below full two one = sym (ap (λ t. first_of (when t BadPeer ∷ None ∷ [])) (ends_true own was))
  where
    ends_true : (own was : Bool) → (own || was || true) ≡ true
    ends_true true was = refl
    ends_true false true = refl
    ends_true false false = refl

-- a number below 2 is one below 1 or the server's
below_two : (me b : ℤ) → int_eq me server ≡ true → int_lt b (pos 2) ≡ (int_lt b (pos 1) || int_eq b me)
below_two me b e = subst (λ m. int_lt b (pos 2) ≡ (int_lt b (pos 1) || int_eq b m)) (sym (int_is me server e)) (grind arith)

-- the server's number isn't below 1
server_above : (b : ℤ) → int_eq b server ≡ true → int_lt b (pos 1) ≡ false
server_above b e = ap (λ c. int_lt c (pos 1)) (int_is b server e)

-- a link that comes up is judged as the definitions do
pub up_judged_is : (k : Kept) (es : List Heard) → HasParts k es → (b : ℤ) → (if lacks_server k.peers.me b then Some BadPeer else comes_judged k.peers b) ≡ up_refusal k.who es b
up_judged_is k es h b =
    ap (λ (m : ℤ). up_why (int_eq m server) (int_eq b server) (int_lt b (pos 1) || int_eq b m || has_int b k.peers.come) (nat_le most_clients (length k.peers.up))) h.me
    ∙ ap₂ (λ (c : Bool) (us : List ℤ). up_why (is_server k.who) (int_eq b server) (int_lt b (pos 1) || int_eq b k.who.id || c) (nat_le most_clients (length us))) (came_is k es h b) h.up
    ∙ by_side (is_server k.who) (int_eq b server) (int_lt b (pos 1)) (int_eq b k.who.id) (was_up es b) (int_lt b (pos 2)) (nat_le most_clients (length (peers_up es)))
    (below_two_of k.who b) (server_above b)
  where
    below_two_of : (who : Who) (b : ℤ) → is_server who ≡ true → int_lt b (pos 2) ≡ (int_lt b (pos 1) || int_eq b who.id)
    below_two_of who b e = below_two who.id b e

-- a link goes down as the definitions say
pub down_judged_is : (k : Kept) (es : List Heard) → HasParts k es → (b : ℤ) → when (not (has_int b k.peers.up)) NoPeer ≡ down_refusal es b
down_judged_is k es h b = ap (λ c. when (not c) NoPeer) (up_is k es h b)

pub link_judged_is : (k : Kept) (es : List Heard) → HasParts k es → (from : ℤ) → link_judged k.peers from ≡ link_fault k.who es from
link_judged_is k es h from = ap₂ (λ c m. when (not c || (not (int_eq m server) && not (int_eq from server))) (fault.UnknownPeer from)) (up_is k es h from) h.me

-- spawns

-- as many rows of a spawner are kept as there are
spawner_rows : (who : Who) (spawner : List ℕ) (rows : List OwnRow) → length (rows_of_spawner spawner (map (kept_row who) rows)) ≡ length (filter (λ (r : OwnRow). text_eq r.made_by.spawner spawner) rows)
spawner_rows who spawner [] = refl
spawner_rows who spawner (r ∷ rows) = elim (text_eq r.made_by.spawner spawner) as (λ b. length (cond b (kept_row who r ∷ rows_of_spawner spawner (map (kept_row who) rows)) (rows_of_spawner spawner (map (kept_row who) rows))) ≡ length (cond b (r ∷ filter (λ (q : OwnRow). text_eq q.made_by.spawner spawner) rows) (filter (λ (q : OwnRow). text_eq q.made_by.spawner spawner) rows))) [
  | true ↦ ap suc (spawner_rows who spawner rows)
  | false ↦ spawner_rows who spawner rows
]

limit_is : (who : Who) (es : List Heard) (spawner : List ℕ) (d : Option SpawnerDef) → some_is (is_at_limit (map (kept_row who) (own_rows who es)) spawner) d ≡ some_is (limit_reached who es spawner) d
limit_is who es spawner None = refl
limit_is who es spawner (Some d) = ap (λ n. nat_lt 0 d.limit && nat_le d.limit n) (spawner_rows who spawner (own_rows who es))

pub spawn_judged_is : (k : Kept) (es : List Heard) → HasParts k es → (o : SpawnOp) → spawn_judged k.who k.nodes k.track.rows k.track.next o ≡ spawn_refusal k.who es o
spawn_judged_is k es h o =
    ap₂ (λ ns rs. spawn_judged k.who ns rs k.track.next o) h.nodes h.rows
    ∙ ap (λ n. spawn_judged k.who (tree_of k.who es) (map (kept_row k.who) (own_rows k.who es)) n o) h.next
    ∙ ap₂ (λ full count. spawn_refused k.who (live_at (tree_of k.who es)) full count (last_number k.who es o) o) (limit_is k.who es o.spawner (spawner_at k.who.scene o.spawner)) (length-map (own_rows k.who es) (kept_row k.who))

-- assignments

pub set_judged_is : (k : Kept) (es : List Heard) → HasParts k es → (path prop : List ℕ) (value : Variant) → set_judged k.who k.nodes path prop value ≡ set_refusal k.who es path prop value
set_judged_is k es h path prop value = ap (λ ns. set_judged k.who ns path prop value) h.nodes

-- received spawns

-- a received spawn is judged beside the rows that its sender has in the tree
pub shown_judged_is : (k : Kept) (es : List Heard) → HasParts k es → (c : ℤ) (m : SpawnMsg) → rows_under c (tree_of k.who es) ≡ (view k.who es c).rows
    → shown_judged k.who.scene k.nodes c m ≡ spawn_fault k.who es c m (view k.who es c).rows
shown_judged_is k es h c m under = ap (λ ns. shown_judged k.who.scene ns c m) h.nodes ∙ ap (spawn_fault k.who es c m) under

-- despawns

pub despawn_judged_is : (k : Kept) (es : List Heard) → HasParts k es → (path : List ℕ) → despawn_judged k.who k.nodes path ≡ despawn_refusal k.who es path
despawn_judged_is k es h path = ap (λ ns. despawn_judged k.who ns path) h.nodes

-- a received despawn is judged beside the rows that its sender has in the tree
pub hidden_judged_is : (k : Kept) (es : List Heard) → HasParts k es → (c : ℤ) (net : ℕ) → rows_under c (tree_of k.who es) ≡ (view k.who es c).rows → hidden_judged k.nodes c net ≡ despawn_fault net (view k.who es c).rows
hidden_judged_is k es h c net under = ap (λ ns. hidden_judged ns c net) h.nodes ∙ ap (despawn_fault net) under

-- settings of visibility

-- who sees the own rows and the fixed synchronizers is what the definitions give
pub sights_are : (k : Kept) (es : List Heard) → HasParts k es → k.track.sights ≡ all_sights k.who es
sights_are k es h = ap₂ {C = Sights} (λ rs fs. record { rows = rs; fixed = fs }) h.seen h.fixed

-- whether there is no room matters only where a synchronizer of this peer is named
sight_judged_by : (who : Who) (o : Option Live) (k : ℕ) (a b : Bool) → ((n : Live) → o ≡ Some n → nat_lt k (named_syncs who n) ≡ true → int_eq n.auth who.id ≡ true → a ≡ b)
    → sight_why (is_none o) (some_is (λ n. nat_lt k (named_syncs who n)) o) (owns who o) a ≡ sight_why (is_none o) (some_is (λ n. nat_lt k (named_syncs who n)) o) (owns who o) b
sight_judged_by who None k a b h = refl
sight_judged_by who (Some n) k a b h = by (nat_lt k (named_syncs who n)) (int_eq n.auth who.id) (h n refl)
  where
    by : (named own : Bool) → (named ≡ true → own ≡ true → a ≡ b) → sight_why false named own a ≡ sight_why false named own b
    by true true same = ap (sight_why false true true) (same refl refl)
    by true false same = refl
    by false own same = refl

-- a synchronizer of this peer at a path and a place is as full as this, by what is kept of it
pub record IsFull (who : Who) (es : List Heard) (path : List ℕ) (k : ℕ) (test : Sight → Bool) (full : Bool) : Type 0 where
  pub row : (r : OwnRow) → Contains (own_rows who es) r → r.path ≡ path → nat_lt k (length (syncs_at who.scene (Some r.place))) ≡ true → some_is test (slice_get (row_sight who es r).syncs k) ≡ full
  pub fixed : (at : IsFixedAt who path k) → int_eq at.node.auth who.id ≡ true → some_is test (fixed_sight_at path (all_sights who es).fixed) ≡ full

module _ (who : Who) (es : List Heard) (path : List ℕ) (k : ℕ) (test : Sight → Bool) (full : Bool) (v : IsValidScene who.scene) (all : AllAccepted who es) (is : IsFull who es path k test full) where
  full_row : (n : Live) → node_at who es path ≡ Some n → nat_lt k (named_syncs who n) ≡ true → is_row_of who.id n ≡ true → some_is test (sight_at (all_sights who es) (node_at who es path) path k) ≡ full
  full_row n there low row =
      let own = own_at who es v all (facts who es v all) path n there row in
      ap (λ o. some_is test (sight_at (all_sights who es) o path k)) own.there
      ∙ ap (λ o. some_is test (option_and_then (λ (x : RowSight). slice_get x.syncs k) o)) (row_sight_found who es own.row own.has)
      ∙ is.row own.row own.has own.path_is (ap (some_is (λ m. nat_lt k (named_syncs who m))) (sym own.there ∙ there) ∙ low)

  full_fixed : (n : Live) → node_at who es path ≡ Some n → nat_lt k (named_syncs who n) ≡ true → int_eq n.auth who.id ≡ true → n.place ≡ None → some_is test (sight_at (all_sights who es) (node_at who es path) path k) ≡ full
  full_fixed n there low own unplaced =
      let at = fixed_at who es path k n unplaced there low in
      ap (λ o. some_is test (sight_at (all_sights who es) o path k)) there
      ∙ ap (λ q. some_is test (if some_is (λ (p : ℕ). true) q then row_sight_at n.num k (all_sights who es).rows else fixed_sight_at path (all_sights who es).fixed)) unplaced
      ∙ is.fixed at (ap (λ a. int_eq a who.id) (sym (fixed_stands who es path k n at there)) ∙ own)

  -- so it is where a setting names it
  full_at : (n : Live) → node_at who es path ≡ Some n → nat_lt k (named_syncs who n) ≡ true → int_eq n.auth who.id ≡ true → some_is test (sight_at (all_sights who es) (node_at who es path) path k) ≡ full
  full_at n there low own = by n.place refl
    where
      by : (p : Option ℕ) → n.place ≡ p → some_is test (sight_at (all_sights who es) (node_at who es path) path k) ≡ full
      by None e = full_fixed n there low own e
      by (Some p) e = full_row n there low (ap₂ (λ a b. a && b) (ap is_some e) own)

-- a setting is judged as the definitions do, where the synchronizer that it names is as full as they say
pub sight_judged_is : (k : Kept) (es : List Heard) → HasParts k es → (path : List ℕ) (n : ℕ) (c : SightChange) (full : Bool) → IsFull k.who es path n c.is_full full
    → sight_judged k.who k.nodes path n (some_is c.is_full (sight_at k.track.sights (live_at k.nodes path) path n)) ≡ sight_refusal k.who es path n full
sight_judged_is k es h path n c full is =
    ap₂ (λ ns v. sight_judged k.who ns path n (some_is c.is_full (sight_at v (live_at ns path) path n))) h.nodes (sights_are k es h)
    ∙ sight_judged_by k.who (node_at k.who es path) n (some_is c.is_full (sight_at (all_sights k.who es) (node_at k.who es path) path n)) full (full_at k.who es path n c.is_full full h.valid h.accepted is)
