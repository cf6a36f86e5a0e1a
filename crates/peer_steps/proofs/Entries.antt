-- Received entries: why one is a fault, and the nodes with their values, by what is kept and by the definitions.
use Rattle.std.proofs.Common.{◌≡◌, ℕ, zero, suc, ℤ, Bool, true, false, cond, List, [], ◌∷◌, ◌++◌, refl, sym, ap, ◌∙◌, subst, map, filter, Option, Some, None}
use Rattle.std.specs.Prelude.{flat_map, if◌then◌else◌, option_map, slice_get}
use Rattle.std.specs.List.{list_all, AllByRecursion}
use Rattle.std.specs.Ordering.{int_eq}
use Rattle.std.proofs.lemmas.Bool.{and_parts, true≢false}
use Rattle.gd_variant.specs.Words.{first_of, or_else, text_eq}
use Rattle.gd_variant.specs.declared.message.DeltaEntry.{DeltaEntry}
use Rattle.gd_variant.specs.declared.message.Plain.TheVariants as packet
use Rattle.scene_model.specs.declared.scene.Scene.{Scene}
use Rattle.scene_model.specs.declared.scene.Node.{Node}
use Rattle.scene_model.specs.declared.scene.Prop.{Prop}
use Rattle.scene_model.specs.Lookup.{prop_names}
use Rattle.scene_model.specs.Syncs.{Syncer, syncer_with}
use Rattle.scene_model.specs.Valid.{IsValidScene, has_twice}
use Rattle.peer_model.specs.Heard.{Who, Heard}
use Rattle.peer_model.specs.Peers.{is_up}
use Rattle.peer_model.specs.Rows.{own_rows}
use Rattle.peer_model.specs.Updates.{Update, Hide, Show, Tell, Live, Replica, apply_update, apply_updates, fixed_live, fixed_of, live_at, replica_syncers, tell_node}
use Rattle.peer_model.specs.View.{authorities, fixed_now, own_live, own_values, rows_of, tree_of, updates_from, values_seen, view}
use Rattle.peer_model.specs.Faults.{delta_fault, link_fault, packet_fault}
use Rattle.headless_tree.specs.Nodes.{is_row_of, is_spawned}
use Rattle.headless_tree.proofs.Numbered.{unnot}
use Rattle.peer_laws.specs.Built.{AllAccepted}
use Rattle.peer_laws.specs.Facts.{rows_under}
use Rattle.peer_laws.proofs.Each.{every_joined}
use Rattle.peer_laws.proofs.Numbers.{int_is}
use Rattle.peer_laws.proofs.Replica.{in_view}
use Rattle.peer_laws.proofs.Scenes.{node_apart, nodes_apart, place_props_apart}
use Rattle.peer_laws.proofs.FactsOf.{facts}
use Rattle.peer_laws.proofs.TreeTells.{nodes_told}
use Rattle.peer_laws.proofs.Ups.{not_this}
use Rattle.peer_laws.proofs.Views.{linked_up, rows_are_of, view_rows_under}
use Rattle.world_laws.proofs.Frames.{begins_whole}
use Rattle.world_laws.proofs.Properties.{IsMade, stays_whole, told_names}
use Rattle.delta_props.specs.Taking.{delta_judged}
use Rattle.peer_steps.specs.Kept.{Kept, kept_tree}
use Rattle.peer_steps.specs.Stands.{HasParts}
use Rattle.peer_steps.specs.Steps.{entries_judged, entries_put}
use Rattle.peer_steps.proofs.EntriesJudged.{all_judged_is}
use Rattle.peer_steps.proofs.EntriesStage.{Stage, all_entries}
use Rattle.peer_steps.proofs.ViewIds.{Unshared, view_unshared}

-- the rows of a sender whose link is up
sender_is : (k : Kept) (es : List Heard) → HasParts k es → (from : ℤ) → link_fault k.who es from ≡ None → (rows_under from (tree_of k.who es) ≡ (view k.who es from).rows) × Unshared (view k.who es from).rows
sender_is k es h from linked =
    let known = facts k.who es h.valid h.accepted in
    let up = linked_up k.who es from linked in
    (view_rows_under k.who es h.valid h.accepted known from up (not_this k.who es known from up), view_unshared k.who es h.accepted from up)

pub entries_judged_is : (k : Kept) (es : List Heard) → HasParts k es → (from : ℤ) (ts : List DeltaEntry) → link_fault k.who es from ≡ None → entries_judged (kept_tree k) from ts ≡ packet_fault k.who es from (packet.Delta ts)
entries_judged_is k es h from ts linked =
    let sender = sender_is k es h from linked in
    ap (λ ns. first_of (map (delta_judged k.who.scene ns from) ts)) h.nodes
    ∙ ap first_of (all_judged_is k.who from (tree_of k.who es) ts (subst Unshared (sym sender.0) sender.1))
    ∙ ap (λ rs. first_of (map (delta_fault k.who from rs) ts)) sender.0

-- the tree before the first entry

stands_in : (f : Node → Live) (ns : List Node) (rest : List Live) (i : ℕ) (m : Node) → slice_get ns i ≡ Some m → slice_get (map f ns ++ rest) i ≡ Some (f m)
stands_in f [] rest i m h = absurd (cc h)
stands_in f (n ∷ ns) rest zero m h = let same : n ≡ m = cc in ap (λ z. Some (f z)) same
stands_in f (n ∷ ns) rest (suc i) m h = stands_in f ns rest i m h

-- whether a node of an authority has its properties apart
abbrev IsApart : ℤ → Live → Type 0
IsApart c n = int_eq n.auth c ≡ true → has_twice (prop_names n.values) ≡ false

-- fixed nodes keep their properties, whatever is told of them
fixed_apart_in : (s : Scene) (c : ℤ) (us : List Update) (r : Replica) → AllByRecursion (λ (n : Live). has_twice (prop_names n.values) ≡ false) r.fixed → AllByRecursion (λ (n : Live). has_twice (prop_names n.values) ≡ false) (apply_updates s c r us).fixed
fixed_apart_in s c [] r h = h
fixed_apart_in s c (Hide num ∷ us) r h = fixed_apart_in s c us (apply_update s c r (Hide num)) h
fixed_apart_in s c (Show m ∷ us) r h = fixed_apart_in s c us (apply_update s c r (Show m)) h
fixed_apart_in s c (Tell t ∷ us) r h =
    let o = syncer_with t.id (replica_syncers s c r.rows) in
    fixed_apart_in s c us (apply_update s c r (Tell t)) (each o r.fixed h)
  where
    each : (o : Option Syncer) (ns : List Live) → AllByRecursion (λ (n : Live). has_twice (prop_names n.values) ≡ false) ns → AllByRecursion (λ (n : Live). has_twice (prop_names n.values) ≡ false) (map (tell_node o t) ns)
    each o [] k = tt
    each o (n ∷ ns) k = (ap has_twice (told_names o t n) ∙ k.0, each o ns k.1)

fixed_first : (c : ℤ) (ns : List Node) → list_all node_apart ns ≡ true → AllByRecursion (λ (n : Live). has_twice (prop_names n.values) ≡ false) (map fixed_live (filter (λ (n : Node). int_eq n.auth c) ns))
fixed_first c [] h = tt
fixed_first c (n ∷ ns) h = step (int_eq n.auth c) (fixed_first c ns parts.1)
  where
    parts : (node_apart n ≡ true) × (list_all node_apart ns ≡ true)
    parts = and_parts (node_apart n) (list_all node_apart ns) h

    step : (b : Bool) → AllByRecursion (λ (m : Live). has_twice (prop_names m.values) ≡ false) (map fixed_live (filter (λ (m : Node). int_eq m.auth c) ns)) → AllByRecursion (λ (m : Live). has_twice (prop_names m.values) ≡ false) (map fixed_live (cond b (n ∷ filter (λ (m : Node). int_eq m.auth c) ns) (filter (λ (m : Node). int_eq m.auth c) ns)))
    step true more = (unnot (has_twice (prop_names n.props)) parts.0, more)
    step false more = more

module _ (who : Who) (es : List Heard) (v : IsValidScene who.scene) (all : AllAccepted who es) (c : ℤ) (linked : link_fault who es c ≡ None) where
  up : is_up es c ≡ true
  up = linked_up who es c linked

  foreign : int_eq c who.id ≡ false
  foreign = not_this who es (facts who es v all) c up

  fixed_seen : AllByRecursion (λ (n : Live). has_twice (prop_names n.values) ≡ false) (view who es c).fixed
  fixed_seen = subst (λ (r : Replica). AllByRecursion (λ (n : Live). has_twice (prop_names n.values) ≡ false) r.fixed) (sym (in_view who es all c up))
      (fixed_apart_in who.scene c (updates_from who es c) (record { fixed = fixed_of who.scene c; rows = [] }) (fixed_first c who.scene.nodes (nodes_apart who.scene v)))

  found_apart : (ns : List Live) (q : List ℕ) → AllByRecursion (λ (n : Live). has_twice (prop_names n.values) ≡ false) ns → (props : List Prop) → has_twice (prop_names props) ≡ false → has_twice (prop_names (or_else (option_map (λ (m : Live). m.values) (live_at ns q)) props)) ≡ false
  found_apart [] q h props k = k
  found_apart (n ∷ ns) q h props k = step (text_eq n.path q) (found_apart ns q h.1 props k)
    where
      step : (b : Bool) → has_twice (prop_names (or_else (option_map (λ (m : Live). m.values) (live_at ns q)) props)) ≡ false → has_twice (prop_names (or_else (option_map (λ (m : Live). m.values) (cond b (Some n) (live_at ns q))) props)) ≡ false
      step true more = h.0
      step false more = more

  fixed_names : (ns : List Node) → list_all node_apart ns ≡ true → AllByRecursion (IsApart c) (map (fixed_now who es) ns)
  fixed_names [] h = tt
  fixed_names (n ∷ ns) h =
      let parts = and_parts (node_apart n) (list_all node_apart ns) h in (
        (λ own.
            let same = int_is n.auth c own in
            ap (λ b. has_twice (prop_names (if b then own_values who es n.path n.props else values_seen who es n))) (ap (λ a. int_eq a who.id) same ∙ foreign)
            ∙ ap (λ a. has_twice (prop_names (or_else (option_map (λ (m : Live). m.values) (live_at (view who es a).fixed n.path)) n.props))) same
            ∙ found_apart (view who es c).fixed n.path fixed_seen n.props (unnot (has_twice (prop_names n.props)) parts.0)),
        fixed_names ns parts.1,
      )

  made_apart : (ns : List Live) → AllByRecursion (IsMade who.scene) ns → AllByRecursion (IsApart c) ns
  made_apart [] h = tt
  made_apart (n ∷ ns) h = ((λ own. ap has_twice h.0 ∙ place_props_apart who.scene v n.place), made_apart ns h.1)

  view_names : AllByRecursion (IsApart c) (view who es c).rows
  view_names = made_apart (view who es c).rows (subst (λ (r : Replica). AllByRecursion (IsMade who.scene) r.rows) (sym (in_view who es all c up))
      (stays_whole who.scene c (updates_from who es c) (record { fixed = fixed_of who.scene c; rows = [] }) (begins_whole (record { id = c; scene = who.scene }))).rows)

  others_names : (d : ℤ) → int_eq d c ≡ false → (ns : List Live) → list_all (is_row_of d) ns ≡ true → AllByRecursion (IsApart c) ns
  others_names d other [] h = tt
  others_names d other (n ∷ ns) h =
      let parts = and_parts (is_row_of d n) (list_all (is_row_of d) ns) h in
      let auth = int_is n.auth d (and_parts (is_spawned n) (int_eq n.auth d) parts.0).1 in
      ((λ own. absurd (true≢false (sym own ∙ ap (λ a. int_eq a c) auth ∙ other))), others_names d other ns parts.1)

  rows_names : (ds : List ℤ) → AllByRecursion (IsApart c) (flat_map (rows_of who es) ds)
  rows_names [] = tt
  rows_names (d ∷ ds) = every_joined (IsApart c) (rows_of who es d) (flat_map (rows_of who es) ds) (step (int_eq d c) refl) (rows_names ds)
    where
      step : (b : Bool) → int_eq d c ≡ b → AllByRecursion (IsApart c) (rows_of who es d)
      step true e = subst (λ z. AllByRecursion (IsApart c) (rows_of who es z)) (sym (int_is d c e)) (subst (AllByRecursion (IsApart c)) (sym (ap (λ b. if b then map (own_live who es) (own_rows who es) else (view who es c).rows) foreign)) view_names)
      step false e = others_names d e (rows_of who es d) (rows_are_of who es v all d)

  first_stage : Unshared (rows_under c (tree_of who es)) → Stage who.scene c (tree_of who es)
  first_stage unshared = record {
    apart = (facts who es v all).apart;
    unshared = unshared;
    stands = λ i m there. (fixed_now who es m, stands_in (fixed_now who es) who.scene.nodes (flat_map (rows_of who es) (authorities who es)) i m there, refl, refl);
    names = every_joined (IsApart c) (map (fixed_now who es) who.scene.nodes) (flat_map (rows_of who es) (authorities who es)) (fixed_names who.scene.nodes (nodes_apart who.scene v)) (rows_names (authorities who es));
  }

-- the nodes with received values

pub entries_put_are : (k : Kept) (es : List Heard) → HasParts k es → (from : ℤ) (ts : List DeltaEntry) → link_fault k.who es from ≡ None → packet_fault k.who es from (packet.Delta ts) ≡ None
    → (entries_put from ts (kept_tree k)).nodes ≡ nodes_told k.who.scene from ts (view k.who es from).rows (tree_of k.who es)
entries_put_are k es h from ts linked free =
    let sender = sender_is k es h from linked in
    let stage = first_stage k.who es h.valid h.accepted from linked (subst Unshared (sym sender.0) sender.1) in
    ap (λ ns. (entries_put from ts (record { scene = k.who.scene; nodes = ns })).nodes) h.nodes
    ∙ all_entries k.who h.valid from ts (tree_of k.who es) stage (ap (λ rs. first_of (map (delta_fault k.who from rs) ts)) sender.0 ∙ free)
    ∙ ap (λ rs. nodes_told k.who.scene from ts rs (tree_of k.who es)) sender.0
