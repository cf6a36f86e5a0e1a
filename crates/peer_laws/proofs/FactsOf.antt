-- What holds of every list of built and accepted events, event by event.
use Rattle.std.proofs.Common.{◌≡◌, ℕ, ℤ, Bool, true, false, cond, not, ◌&&◌, List, [], ◌∷◌, ◌++◌, refl, sym, ap, ◌∙◌, map, is_some, nat_eq, Some, None, Ok, Err}
use Rattle.std.specs.Prelude.{flat_map, if◌then◌else◌}
use Rattle.std.specs.List.{cons_option}
use Rattle.std.specs.Ordering.{int_eq}
use Rattle.std.proofs.lemmas.Bool.{true≢false, or_parts, or_from}
use Rattle.std.proofs.lemmas.List.{append-nil}
use Rattle.gd_variant.specs.Words.{has_int, has_text, text_eq}
use Rattle.gd_variant.specs.declared.value.Variant.{Variant}
use Rattle.gd_variant.specs.declared.message.DeltaEntry.{DeltaEntry}
use Rattle.gd_variant.specs.declared.message.Plain.{Plain}
use Rattle.gd_variant.specs.declared.message.Plain.TheVariants as packet
use Rattle.gd_variant.specs.declared.message.Message.TheVariants.{Plain as plain_packet}
use Rattle.scene_model.specs.declared.scene.Prop.{Prop}
use Rattle.scene_model.specs.declared.spawn.SpawnMsg.{SpawnMsg}
use Rattle.scene_model.specs.declared.event.Class.{Class}
use Rattle.scene_model.specs.declared.event.SpawnOp.{SpawnOp}
use Rattle.scene_model.specs.declared.event.Op.{Op}
use Rattle.scene_model.specs.declared.event.Op.TheVariants.{Spawn, Custom, Despawn, Set, Public, For, Filter, Frame}
use Rattle.scene_model.specs.Valid.{IsValidScene, has_twice}
use Rattle.peer_model.specs.Heard.{Who, Heard, does, comes, goes, gets, received_from}
use Rattle.peer_model.specs.Peers.{was_up, peers_come}
use Rattle.peer_model.specs.Rows.{row_made, own_rows, spawned_path}
use Rattle.peer_model.specs.Updates.{Live, shown_node, shown_path}
use Rattle.peer_model.specs.View.{tree_of, rows_of, node_at, fixed_now, own_live, view}
use Rattle.headless_tree.specs.Nodes.{is_at, is_row_of, row_before, with_value, has_spawned}
use Rattle.headless_tree.specs.Lists.{change_first, without_first}
use Rattle.peer_laws.specs.Built.{Accepts, AllAccepted}
use Rattle.peer_laws.specs.Facts.{Facts, paths_of}
use Rattle.peer_laws.specs.Shown.{spawned_live}
use Rattle.peer_laws.proofs.Tests.{never}
use Rattle.peer_laws.proofs.Numbers.{int_is, int_comm}
use Rattle.peer_laws.proofs.Joined.{map-map}
use Rattle.peer_laws.proofs.Once.{found_is_has, filter_once, put_once, change_keeps, without_once}
use Rattle.peer_laws.proofs.Scenes.{fixed_apart}
use Rattle.peer_laws.proofs.Ups.{come_is_new, was_up_if_up}
use Rattle.peer_laws.proofs.Views.{show_plain, shown_by, hidden_by, got, got_is_up, spawn_is_welcome}
use Rattle.peer_laws.proofs.Rows.{below_of}
use Rattle.peer_laws.proofs.TreeLinks.{tree_come, tree_go}
use Rattle.peer_laws.proofs.TreeReceives.{tree_receive, tree_hide}
use Rattle.peer_laws.proofs.TreeTells.{tree_tell, paths_stay}
use Rattle.peer_laws.proofs.TreeRows.{tree_despawn, tree_public, tree_for, tree_filter, tree_frame}
use Rattle.peer_laws.proofs.TreeSpawns.{Spawns, by_scene, by_custom, tree_made}
use Rattle.peer_laws.proofs.TreeSets.{tree_set}

-- a path at which no node stands is none of the nodes'
pub free_path : (who : Who) (es : List Heard) (path : List ℕ) → is_some (node_at who es path) ≡ false → has_text path (paths_of (tree_of who es)) ≡ false
free_path who es path h = sym (found_is_has (λ (n : Live). n.path) path (tree_of who es)) ∙ h

-- no event yet: the tree is the fixed nodes
no_facts : (who : Who) → IsValidScene who.scene → Facts who []
no_facts who v = record {
  silent = λ c h. refl;
  other = refl;
  apart = ap has_twice (ap paths_of (ap (λ rows. map (fixed_now who []) who.scene.nodes ++ rows) none) ∙ ap paths_of (append-nil (map (fixed_now who []) who.scene.nodes)) ∙ map-map (λ (n : Live). n.path) (fixed_now who []) who.scene.nodes) ∙ fixed_apart who.scene v;
  below = below_of who [];
}
  where
    none : flat_map (rows_of who []) (who.id ∷ []) ≡ []
    none = elim (int_eq who.id who.id) as (λ b. (if b then map (own_live who []) (own_rows who []) else (view who [] who.id).rows) ++ [] ≡ []) [ true ↦ refl | false ↦ refl ]

-- a peer that comes
facts_come : (who : Who) (es : List Heard) → Facts who es → (b : ℤ) → Accepts who es (comes b) → Facts who (comes b ∷ es)
facts_come who es f b h =
    let new = come_is_new who es b h in
    record {
      silent = λ c never_up. f.silent c (or_parts (int_eq c b) (was_up es c) never_up).1;
      other = or_from (int_eq who.id b) (has_int who.id (peers_come es)) (int_comm who.id b ∙ new.0) f.other;
      apart = ap (λ ns. has_twice (paths_of ns)) (tree_come who es f b h) ∙ f.apart;
      below = below_of who (comes b ∷ es);
    }

-- a peer that goes
facts_go : (who : Who) (es : List Heard) → IsValidScene who.scene → AllAccepted who es → Facts who es → (b : ℤ) → Accepts who es (goes b) → Facts who (goes b ∷ es)
facts_go who es v all f b h = record {
  silent = f.silent;
  other = f.other;
  apart = ap (λ ns. has_twice (paths_of ns)) (tree_go who es v all f b h) ∙ filter_once (λ (n : Live). n.path) (λ n. not (is_row_of b n)) (tree_of who es) f.apart;
  below = below_of who (goes b ∷ es);
}

-- an operation that leaves the paths apart
facts_op : (who : Who) (es : List Heard) → Facts who es → (op : Op) → has_twice (paths_of (tree_of who (does op ∷ es))) ≡ false → Facts who (does op ∷ es)
facts_op who es f op apart = record { silent = f.silent; other = f.other; apart = apart; below = below_of who (does op ∷ es) }

-- an assignment
set_apart : (who : Who) (es : List Heard) → IsValidScene who.scene → AllAccepted who es → Facts who es → (p q : List ℕ) (x : Variant) → Accepts who es (does (Set p q x)) → has_twice (paths_of (tree_of who (does (Set p q x) ∷ es))) ≡ false
set_apart who es v all f p q x h =
    ap (λ ns. has_twice (paths_of ns)) (tree_set who es v all f p q x h)
    ∙ ap has_twice (change_keeps (λ (n : Live). n.path) (is_at p) (λ (n : Live). record n { values = change_first (λ (y : Prop). text_eq y.name q) (with_value x) n.values }) (λ n. refl) (tree_of who es))
    ∙ f.apart

-- a spawn, by scene or custom
made_apart : (who : Who) (es : List Heard) → IsValidScene who.scene → AllAccepted who es → Facts who es → (e : Heard) (o : SpawnOp) → Spawns who es e o → has_twice (paths_of (tree_of who (e ∷ es))) ≡ false
made_apart who es v all f e o now =
    ap (λ ns. has_twice (paths_of ns)) (tree_made who es e o now v all f)
    ∙ put_once (λ (n : Live). n.path) row_before (spawned_live who (row_made who es o)) (tree_of who es) (free_path who es (spawned_path who o) now.may.free) f.apart

-- a despawn
despawn_apart : (who : Who) (es : List Heard) → IsValidScene who.scene → AllAccepted who es → Facts who es → (path : List ℕ) → Accepts who es (does (Despawn path)) → has_twice (paths_of (tree_of who (does (Despawn path) ∷ es))) ≡ false
despawn_apart who es v all f path h =
    ap (λ ns. has_twice (paths_of ns)) (tree_despawn who es v all f path h)
    ∙ step (has_spawned (tree_of who es) path)
  where
    step : (b : Bool) → has_twice (paths_of (cond b (without_first (is_at path) (tree_of who es)) (tree_of who es))) ≡ false
    step true = ap (λ ns. has_twice (paths_of ns)) (without_once (λ (n : Live). n.path) path (tree_of who es) f.apart) ∙ filter_once (λ (n : Live). n.path) (λ n. not (is_at path n)) (tree_of who es) f.apart
    step false = f.apart

-- a packet of a peer's own that leaves the paths apart
facts_got : (who : Who) (es : List Heard) → Facts who es → (from : ℤ) (class : Class) (bytes : List ℕ) (p : Plain) → Accepts who es (got from class bytes p) → has_twice (paths_of (tree_of who (got from class bytes p ∷ es))) ≡ false → Facts who (got from class bytes p ∷ es)
facts_got who es f from class bytes p h apart =
    let was = was_up_if_up es from (got_is_up who es from class bytes p h) in
    record {
      silent = λ c never_up.
          ap (λ b. cons_option (cond b (Some p) None) (received_from who es c)) (never (int_eq from c) (λ same. sym was ∙ ap (was_up es) (int_is from c same) ∙ never_up))
          ∙ f.silent c never_up;
      other = f.other;
      apart = apart;
      below = below_of who (got from class bytes p ∷ es);
    }

-- a received spawn
shown_apart : (who : Who) (es : List Heard) → IsValidScene who.scene → AllAccepted who es → Facts who es → (from : ℤ) (class : Class) (bytes : List ℕ) (m : SpawnMsg)
    → Accepts who es (shown_by from class bytes m) → has_twice (paths_of (tree_of who (shown_by from class bytes m ∷ es))) ≡ false
shown_apart who es v all f from class bytes m h =
    ap (λ ns. has_twice (paths_of ns)) (tree_receive who es v all f from class bytes m h)
    ∙ put_once (λ (n : Live). n.path) row_before (shown_node who.scene from m) (tree_of who es) (free_path who es (shown_path who.scene m) (spawn_is_welcome who es from class bytes m h).free) f.apart

-- a received despawn
hidden_apart : (who : Who) (es : List Heard) → IsValidScene who.scene → AllAccepted who es → Facts who es → (from : ℤ) (class : Class) (bytes : List ℕ) (net : ℕ)
    → Accepts who es (hidden_by from class bytes net) → has_twice (paths_of (tree_of who (hidden_by from class bytes net ∷ es))) ≡ false
hidden_apart who es v all f from class bytes net h =
    ap (λ ns. has_twice (paths_of ns)) (tree_hide who es v all f from class bytes net h)
    ∙ filter_once (λ (n : Live). n.path) (λ n. not (is_row_of from n && nat_eq n.num net)) (tree_of who es) f.apart

-- received values
told_apart : (who : Who) (es : List Heard) → IsValidScene who.scene → AllAccepted who es → Facts who es → (from : ℤ) (class : Class) (bytes : List ℕ) (ts : List DeltaEntry)
    → Accepts who es (got from class bytes (packet.Delta ts)) → has_twice (paths_of (tree_of who (got from class bytes (packet.Delta ts) ∷ es))) ≡ false
told_apart who es v all f from class bytes ts h =
    ap (λ ns. has_twice (paths_of ns)) (tree_tell who es v all f from class bytes ts h)
    ∙ ap has_twice (paths_stay who.scene from ts (view who es from).rows (tree_of who es))
    ∙ f.apart

-- what holds of every list of built and accepted events
pub facts : (who : Who) (es : List Heard) → IsValidScene who.scene → AllAccepted who es → Facts who es
facts who [] v h = no_facts who v
facts who (comes b ∷ es) v h = facts_come who es (facts who es v h.1) b h.0
facts who (goes b ∷ es) v h = facts_go who es v h.1 (facts who es v h.1) b h.0
facts who (does (Set p q x) ∷ es) v h = let f = facts who es v h.1 in facts_op who es f (Set p q x) (set_apart who es v h.1 f p q x h.0)
facts who (does (Spawn o) ∷ es) v h = let f = facts who es v h.1 in facts_op who es f (Spawn o) (made_apart who es v h.1 f (does (Spawn o)) o (by_scene who es o h.0))
facts who (does (Custom o) ∷ es) v h = let f = facts who es v h.1 in facts_op who es f (Custom o) (made_apart who es v h.1 f (does (Custom o)) o (by_custom who es o h.0))
facts who (does (Despawn path) ∷ es) v h = let f = facts who es v h.1 in facts_op who es f (Despawn path) (despawn_apart who es v h.1 f path h.0)
facts who (does (Public p k on) ∷ es) v h = let f = facts who es v h.1 in facts_op who es f (Public p k on) (ap (λ ns. has_twice (paths_of ns)) (tree_public who es p k on) ∙ f.apart)
facts who (does (For p k b on) ∷ es) v h = let f = facts who es v h.1 in facts_op who es f (For p k b on) (ap (λ ns. has_twice (paths_of ns)) (tree_for who es p k b on) ∙ f.apart)
facts who (does (Filter p k bs) ∷ es) v h = let f = facts who es v h.1 in facts_op who es f (Filter p k bs) (ap (λ ns. has_twice (paths_of ns)) (tree_filter who es p k bs) ∙ f.apart)
facts who (does Frame ∷ es) v h = let f = facts who es v h.1 in facts_op who es f Frame (ap (λ ns. has_twice (paths_of ns)) (tree_frame who es) ∙ f.apart)
facts who (does op ∷ es) v h = absurd (true≢false (sym h.0.built))
facts who (gets from class bytes (Ok (plain_packet (packet.Spawn scene spawner net syncs name arg values))) ∷ es) v h =
    let f = facts who es v h.1 in
    let m : SpawnMsg = record { scene = scene; spawner = spawner; net = net; syncs = syncs; name = name; arg = arg; values = values } in
    facts_got who es f from class bytes (show_plain m) h.0 (shown_apart who es v h.1 f from class bytes m h.0)
facts who (gets from class bytes (Ok (plain_packet (packet.Despawn net))) ∷ es) v h =
    let f = facts who es v h.1 in
    facts_got who es f from class bytes (packet.Despawn net) h.0 (hidden_apart who es v h.1 f from class bytes net h.0)
facts who (gets from class bytes (Ok (plain_packet (packet.Delta ts))) ∷ es) v h =
    let f = facts who es v h.1 in
    facts_got who es f from class bytes (packet.Delta ts) h.0 (told_apart who es v h.1 f from class bytes ts h.0)
facts who (gets from class bytes (Ok m) ∷ es) v h = absurd (true≢false (sym h.0.built))
facts who (gets from class bytes (Err bad) ∷ es) v h = absurd (cc h.0.no_fault)
