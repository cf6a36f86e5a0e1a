-- The tree after values that another peer sent: the nodes of its synchronizers have them.
use Rattle.std.proofs.Common.{◌≡◌, ℕ, ℤ, Bool, true, false, cond, ◌&&◌, ◌||◌, List, [], ◌∷◌, ◌++◌, refl, sym, ap, ap₂, ◌∙◌, subst, map, filter, is_some, Option, Some, None, Ok}
use Rattle.std.specs.Prelude.{flat_map, zip, find, option_map, if◌then◌else◌}
use Rattle.std.specs.List.{list_all, AllByRecursion}
use Rattle.std.specs.Ordering.{int_eq}
use Rattle.std.proofs.lemmas.Bool.{and_parts, true≢false}
use Rattle.std.proofs.lemmas.List.{map-append}
use Rattle.gd_variant.specs.Words.{text_eq, has_text, or_else}
use Rattle.gd_variant.specs.declared.message.DeltaEntry.{DeltaEntry}
use Rattle.gd_variant.specs.declared.message.Plain.TheVariants as packet
use Rattle.gd_variant.specs.declared.message.Message.TheVariants.{Plain as plain_packet}
use Rattle.scene_model.specs.declared.scene.Scene.{Scene}
use Rattle.scene_model.specs.declared.scene.Node.{Node}
use Rattle.scene_model.specs.declared.event.Class.{Class}
use Rattle.scene_model.specs.Syncs.{Syncer, syncer_with, change_props}
use Rattle.scene_model.specs.Valid.{IsValidScene}
use Rattle.scene_model.proofs.TextLaws.{text_eq-same, text_eq-true}
use Rattle.peer_model.specs.Heard.{Who, Heard}
use Rattle.peer_model.specs.Peers.{is_up}
use Rattle.peer_model.specs.Rows.{own_rows}
use Rattle.peer_model.specs.Updates.{Update, Hide, Show, Tell, Live, Replica, applied, apply_update, apply_updates, assign_all, fixed_live, fixed_of, live_at, masked, replica_syncers, tell_node}
use Rattle.peer_model.specs.View.{view, updates_from, own_live, own_values, values_seen, rows_of, authorities, fixed_now, tree_of}
use Rattle.peer_model.proofs.Shown.{joined_updates}
use Rattle.headless_tree.specs.Nodes.{is_row_of, is_spawned}
use Rattle.peer_laws.specs.Built.{Accepts, AllAccepted}
use Rattle.peer_laws.specs.Facts.{Facts, paths_of}
use Rattle.peer_laws.proofs.Tests.{or_true}
use Rattle.peer_laws.proofs.Numbers.{int_is, int_comm}
use Rattle.peer_laws.proofs.Joined.{flat_each, map_each, map-map, map-flat}
use Rattle.peer_laws.proofs.Once.{found_is_has}
use Rattle.peer_laws.proofs.Replica.{in_view}
use Rattle.peer_laws.proofs.Rows.{rows_receive}
use Rattle.peer_laws.proofs.TreeReceives.{view_of_others, view_got}
use Rattle.peer_laws.proofs.Ups.{not_this}
use Rattle.peer_laws.proofs.Views.{got, got_is_up, kept_while, rows_are_of, view_rows_are_of}

-- the synchronizer that an entry means, beside its authority's rows
abbrev pub meant_by : Scene → ℤ → DeltaEntry → List Live → Option Syncer
meant_by s c t rows = syncer_with t.id (replica_syncers s c rows)

-- a node of an authority after a Tell of a synchronizer
abbrev pub told_node : ℤ → Option Syncer → DeltaEntry → Live → Live
told_node c o t n = cond (int_eq n.auth c) (tell_node o t n) n

-- nodes after Tells in order, beside the authority's rows
abbrev pub nodes_told : Scene → ℤ → List DeltaEntry → List Live → List Live → List Live
nodes_told s c [] rows nodes = nodes
nodes_told s c (t ∷ ts) rows nodes = nodes_told s c ts (map (tell_node (meant_by s c t rows) t) rows) (map (told_node c (meant_by s c t rows) t) nodes)

-- paths stay

told_path : (o : Option Syncer) (t : DeltaEntry) (n : Live) → (tell_node o t n).path ≡ n.path
told_path None t n = refl
told_path (Some y) t n = refl

pub node_path : (c : ℤ) (o : Option Syncer) (t : DeltaEntry) (n : Live) → (told_node c o t n).path ≡ n.path
node_path c o t n = step (int_eq n.auth c)
  where
    step : (b : Bool) → (cond b (tell_node o t n) n).path ≡ n.path
    step true = told_path o t n
    step false = refl

paths_told : (f : Live → Live) → ((n : Live) → (f n).path ≡ n.path) → (nodes : List Live) → paths_of (map f nodes) ≡ paths_of nodes
paths_told f same nodes = map-map (λ (n : Live). n.path) f nodes ∙ map_each (λ (n : Live). (f n).path) (λ (n : Live). n.path) nodes same

pub paths_stay : (s : Scene) (c : ℤ) (ts : List DeltaEntry) (rows nodes : List Live) → paths_of (nodes_told s c ts rows nodes) ≡ paths_of nodes
paths_stay s c [] rows nodes = refl
paths_stay s c (t ∷ ts) rows nodes =
    let o = meant_by s c t rows in
    paths_stay s c ts (map (tell_node o t) rows) (map (told_node c o t) nodes) ∙ paths_told (told_node c o t) (node_path c o t) nodes

fixed_paths_stay : (s : Scene) (c : ℤ) (us : List Update) (r : Replica) → paths_of (apply_updates s c r us).fixed ≡ paths_of r.fixed
fixed_paths_stay s c [] r = refl
fixed_paths_stay s c (Hide num ∷ us) r = fixed_paths_stay s c us (apply_update s c r (Hide num))
fixed_paths_stay s c (Show m ∷ us) r = fixed_paths_stay s c us (apply_update s c r (Show m))
fixed_paths_stay s c (Tell t ∷ us) r =
    let o = meant_by s c t r.rows in
    fixed_paths_stay s c us (apply_update s c r (Tell t)) ∙ paths_told (tell_node o t) (told_path o t) r.fixed

-- each fixed node of an authority is in its replica

kept_have : (p : Node → Bool) (ns : List Node) → AllByRecursion (λ (n : Node). p n ≡ true → has_text n.path (paths_of (map fixed_live (filter p ns))) ≡ true) ns
kept_have p [] = tt
kept_have p (n ∷ ns) = (first, more ns (kept_have p ns))
  where
    first : p n ≡ true → has_text n.path (paths_of (map fixed_live (cond (p n) (n ∷ filter p ns) (filter p ns)))) ≡ true
    first e = ap (λ b. has_text n.path (paths_of (map fixed_live (cond b (n ∷ filter p ns) (filter p ns))))) e ∙ ap (λ b. b || has_text n.path (paths_of (map fixed_live (filter p ns)))) (text_eq-same n.path)

    later : (q : List ℕ) → has_text q (paths_of (map fixed_live (filter p ns))) ≡ true → has_text q (paths_of (map fixed_live (cond (p n) (n ∷ filter p ns) (filter p ns)))) ≡ true
    later q h = step (p n)
      where
        step : (b : Bool) → has_text q (paths_of (map fixed_live (cond b (n ∷ filter p ns) (filter p ns)))) ≡ true
        step true = ap (λ b. text_eq q n.path || b) h ∙ or_true (text_eq q n.path)
        step false = h

    more : (ms : List Node) → AllByRecursion (λ (m : Node). p m ≡ true → has_text m.path (paths_of (map fixed_live (filter p ns))) ≡ true) ms
        → AllByRecursion (λ (m : Node). p m ≡ true → has_text m.path (paths_of (map fixed_live (cond (p n) (n ∷ filter p ns) (filter p ns)))) ≡ true) ms
    more [] h = tt
    more (m ∷ ms) h = (λ e. later m.path (h.0 e), more ms h.1)

-- a node that is found after a Tell, and one that is found at a path
found_told : (o : Option Syncer) (t : DeltaEntry) (nodes : List Live) (q : List ℕ) → live_at (map (tell_node o t) nodes) q ≡ option_map (tell_node o t) (live_at nodes q)
found_told o t [] q = refl
found_told o t (n ∷ ns) q = ap (λ p. cond (text_eq p q) (Some (tell_node o t n)) (live_at (map (tell_node o t) ns) q)) (told_path o t n) ∙ step (text_eq n.path q) (found_told o t ns q)
  where
    step : (b : Bool) → live_at (map (tell_node o t) ns) q ≡ option_map (tell_node o t) (live_at ns q) → cond b (Some (tell_node o t n)) (live_at (map (tell_node o t) ns) q) ≡ option_map (tell_node o t) (cond b (Some n) (live_at ns q))
    step true more = refl
    step false more = more

found_path : (nodes : List Live) (q : List ℕ) (n : Live) → live_at nodes q ≡ Some n → text_eq n.path q ≡ true
found_path [] q n h = absurd (cc h)
found_path (m ∷ ms) q n h = step (text_eq m.path q) refl h (found_path ms q n)
  where
    step : (b : Bool) → text_eq m.path q ≡ b → cond b (Some m) (find (λ (x : Live). text_eq x.path q) ms) ≡ Some n → (live_at ms q ≡ Some n → text_eq n.path q ≡ true) → text_eq n.path q ≡ true
    step true e f more = let same : m ≡ n = cc in ap (λ (x : Live). text_eq x.path q) (sym same) ∙ e
    step false e f more = more f

-- the tree by what is seen of one other peer

module _ (who : Who) (es : List Heard) (from : ℤ) (foreign : int_eq from who.id ≡ false) where
  -- the values that a fixed node has in a replica
  abbrev seen_in : Replica → Node → Live
  seen_in r n = record (fixed_live n) { values = or_else (option_map (λ (m : Live). m.values) (live_at r.fixed n.path)) n.props }

  -- a fixed node as it stands, where the peer's replica is this one
  abbrev fixed_by : Replica → Node → Live
  fixed_by r n = cond (int_eq n.auth from) (seen_in r n) (fixed_now who es n)

  -- and the rows of a peer
  abbrev rows_by : Replica → ℤ → List Live
  rows_by r c = cond (int_eq c from) r.rows (rows_of who es c)

  abbrev tree_by : Replica → List Live
  tree_by r = map (fixed_by r) who.scene.nodes ++ flat_map (rows_by r) (authorities who es)

  -- each fixed node of the peer is in a replica
  abbrev Has : Replica → Type 0
  Has r = AllByRecursion (λ (n : Node). int_eq n.auth from ≡ true → has_text n.path (paths_of r.fixed) ≡ true) who.scene.nodes

  module _ (t : DeltaEntry) (r : Replica) where
    abbrev o : Option Syncer
    o = meant_by who.scene from t r.rows

    seen_told : (n : Node) → has_text n.path (paths_of r.fixed) ≡ true → seen_in (apply_update who.scene from r (Tell t)) n ≡ tell_node o t (seen_in r n)
    seen_told n has = ap (λ l. record (fixed_live n) { values = or_else (option_map (λ (m : Live). m.values) l) n.props }) (found_told o t r.fixed n.path) ∙ step (live_at r.fixed n.path) refl
      where
        here : (p : Option Syncer) (m : Live) → m.path ≡ n.path → ◌≡◌ {A = Live} (record (fixed_live n) { values = (tell_node p t m).values }) (tell_node p t (record (fixed_live n) { values = m.values }))
        here None m e = refl
        here (Some y) m e = ap (λ q. record (fixed_live n) { values = if text_eq q y.node then assign_all (zip (masked t.mask (change_props y.def)) t.values) m.values else m.values }) e

        step : (l : Option Live) → live_at r.fixed n.path ≡ l → ◌≡◌ {A = Live} (record (fixed_live n) { values = or_else (option_map (λ (m : Live). m.values) (option_map (tell_node o t) l)) n.props }) (tell_node o t (record (fixed_live n) { values = or_else (option_map (λ (m : Live). m.values) l) n.props }))
        step None e = absurd (true≢false (sym has ∙ sym (found_is_has (λ (m : Live). m.path) n.path r.fixed) ∙ ap is_some e))
        step (Some m) e = here o m (text_eq-true m.path n.path (found_path r.fixed n.path m e))

    fixed_told : (n : Node) → (int_eq n.auth from ≡ true → has_text n.path (paths_of r.fixed) ≡ true) → fixed_by (apply_update who.scene from r (Tell t)) n ≡ told_node from o t (fixed_by r n)
    fixed_told n has = step (int_eq n.auth from) refl
      where
        step : (b : Bool) → int_eq n.auth from ≡ b → cond b (seen_in (apply_update who.scene from r (Tell t)) n) (fixed_now who es n) ≡ told_node from o t (cond b (seen_in r n) (fixed_now who es n))
        step true e = seen_told n (has e) ∙ sym (ap (λ b. cond b (tell_node o t (seen_in r n)) (seen_in r n)) e)
        step false e = sym (ap (λ b. cond b (tell_node o t (fixed_now who es n)) (fixed_now who es n)) e)

    all_fixed : (ns : List Node) → AllByRecursion (λ (n : Node). int_eq n.auth from ≡ true → has_text n.path (paths_of r.fixed) ≡ true) ns → map (fixed_by (apply_update who.scene from r (Tell t))) ns ≡ map (told_node from o t) (map (fixed_by r) ns)
    all_fixed [] h = refl
    all_fixed (n ∷ ns) h = ap₂ (λ x xs. x ∷ xs) (fixed_told n h.0) (all_fixed ns h.1)

    own_told : (ns : List Live) → list_all (is_row_of from) ns ≡ true → map (tell_node o t) ns ≡ map (told_node from o t) ns
    own_told [] h = refl
    own_told (n ∷ ns) h =
        let parts = and_parts (is_row_of from n) (list_all (is_row_of from) ns) h in
        ap₂ (λ x xs. x ∷ xs) (sym (ap (λ b. cond b (tell_node o t n) n) (and_parts (is_spawned n) (int_eq n.auth from) parts.0).1)) (own_told ns parts.1)

    others_kept : (c : ℤ) → int_eq c from ≡ false → (ns : List Live) → list_all (is_row_of c) ns ≡ true → ns ≡ map (told_node from o t) ns
    others_kept c other [] h = refl
    others_kept c other (n ∷ ns) h =
        let parts = and_parts (is_row_of c n) (list_all (is_row_of c) ns) h in
        let not_from : int_eq n.auth from ≡ false = ap (λ a. int_eq a from) (int_is n.auth c (and_parts (is_spawned n) (int_eq n.auth c) parts.0).1) ∙ other in
        ap₂ (λ x xs. x ∷ xs) (sym (ap (λ b. cond b (tell_node o t n) n) not_from)) (others_kept c other ns parts.1)

    rows_told : IsValidScene who.scene → AllAccepted who es → list_all (is_row_of from) r.rows ≡ true → (c : ℤ) → rows_by (apply_update who.scene from r (Tell t)) c ≡ map (told_node from o t) (rows_by r c)
    rows_told v all rows c = step (int_eq c from) refl
      where
        step : (b : Bool) → int_eq c from ≡ b → cond b (map (tell_node o t) r.rows) (rows_of who es c) ≡ map (told_node from o t) (cond b r.rows (rows_of who es c))
        step true e = own_told r.rows rows
        step false e = others_kept c e (rows_of who es c) (rows_are_of who es v all c)

    one_told : IsValidScene who.scene → AllAccepted who es → Has r → list_all (is_row_of from) r.rows ≡ true → tree_by (apply_update who.scene from r (Tell t)) ≡ map (told_node from o t) (tree_by r)
    one_told v all has rows =
        ap₂ (λ xs ys. xs ++ ys) (all_fixed who.scene.nodes has) (flat_each (rows_by (apply_update who.scene from r (Tell t))) (λ c. map (told_node from o t) (rows_by r c)) (rows_told v all rows) (authorities who es) ∙ sym (map-flat (told_node from o t) (rows_by r) (authorities who es)))
        ∙ sym (map-append (told_node from o t) (map (fixed_by r) who.scene.nodes) (flat_map (rows_by r) (authorities who es)))

    still_rows : list_all (is_row_of from) r.rows ≡ true → list_all (is_row_of from) (map (tell_node o t) r.rows) ≡ true
    still_rows h = each r.rows h
      where
        same : (p : Option Syncer) (n : Live) → is_row_of from (tell_node p t n) ≡ is_row_of from n
        same None n = refl
        same (Some y) n = refl

        each : (ns : List Live) → list_all (is_row_of from) ns ≡ true → list_all (is_row_of from) (map (tell_node o t) ns) ≡ true
        each [] k = refl
        each (n ∷ ns) k = let parts = and_parts (is_row_of from n) (list_all (is_row_of from) ns) k in ap₂ (λ a b. a && b) (same o n ∙ parts.0) (each ns parts.1)

  all_told : IsValidScene who.scene → AllAccepted who es → (ts : List DeltaEntry) (r : Replica) → Has r → list_all (is_row_of from) r.rows ≡ true → tree_by (apply_updates who.scene from r (map Tell ts)) ≡ nodes_told who.scene from ts r.rows (tree_by r)
  all_told v all [] r has rows = refl
  all_told v all (t ∷ ts) r has rows =
      let later = apply_update who.scene from r (Tell t) in
      all_told v all ts later (subst (λ ps. AllByRecursion (λ (n : Node). int_eq n.auth from ≡ true → has_text n.path ps ≡ true) who.scene.nodes) (sym (paths_told (tell_node (o t r) t) (told_path (o t r) t) r.fixed)) has) (still_rows t r rows)
      ∙ ap (nodes_told who.scene from ts later.rows) (one_told t r v all has rows)

  -- the tree is that by what is seen of the peer
  tree_is : tree_of who es ≡ tree_by (view who es from)
  tree_is = ap₂ (λ xs ys. xs ++ ys) (map_each (fixed_now who es) (fixed_by (view who es from)) who.scene.nodes fixed) (flat_each (rows_of who es) (rows_by (view who es from)) rows (authorities who es))
    where
      fixed : (n : Node) → fixed_now who es n ≡ fixed_by (view who es from) n
      fixed n = step (int_eq n.auth from) refl
        where
          step : (b : Bool) → int_eq n.auth from ≡ b → fixed_now who es n ≡ cond b (seen_in (view who es from) n) (fixed_now who es n)
          step true e =
              let same = int_is n.auth from e in
              ap (λ b. record (fixed_live n) { values = if b then own_values who es n.path n.props else values_seen who es n }) (ap (λ a. int_eq a who.id) same ∙ foreign)
              ∙ ap (λ a. seen_in (view who es a) n) same
          step false e = refl

      rows : (c : ℤ) → rows_of who es c ≡ rows_by (view who es from) c
      rows c = step (int_eq c from) refl
        where
          step : (b : Bool) → int_eq c from ≡ b → rows_of who es c ≡ cond b (view who es from).rows (rows_of who es c)
          step true e =
              let same = int_is c from e in
              ap (λ b. if b then map (own_live who es) (own_rows who es) else (view who es c).rows) (ap (λ a. int_eq a who.id) same ∙ foreign)
              ∙ ap (λ a. (view who es a).rows) same
          step false e = refl

-- what is seen of a peer has each of its fixed nodes
view_has : (who : Who) (es : List Heard) → AllAccepted who es → (from : ℤ) (foreign : int_eq from who.id ≡ false) → is_up es from ≡ true → Has who es from foreign (view who es from)
view_has who es all from foreign up = subst (λ ps. AllByRecursion (λ (n : Node). int_eq n.auth from ≡ true → has_text n.path ps ≡ true) who.scene.nodes)
    (sym (ap (λ (r : Replica). paths_of r.fixed) (in_view who es all from up) ∙ fixed_paths_stay who.scene from (updates_from who es from) (record { fixed = fixed_of who.scene from; rows = [] })))
    (kept_have (λ (n : Node). int_eq n.auth from) who.scene.nodes)

-- the tree after received values
pub tree_tell : (who : Who) (es : List Heard) → IsValidScene who.scene → AllAccepted who es → Facts who es → (from : ℤ) (class : Class) (bytes : List ℕ) (ts : List DeltaEntry) → Accepts who es (got from class bytes (packet.Delta ts))
    → tree_of who (got from class bytes (packet.Delta ts) ∷ es) ≡ nodes_told who.scene from ts (view who es from).rows (tree_of who es)
tree_tell who es v all f from class bytes ts h =
    tree_is who now from foreign
    ∙ ap₂ (λ xs ys. xs ++ ys) (map_each (fixed_by who now from foreign (view who now from)) (fixed_by who es from foreign (view who now from)) who.scene.nodes fixed)
    (flat_each (rows_by who now from foreign (view who now from)) (rows_by who es from foreign (view who now from)) rows (authorities who es))
    ∙ ap (tree_by who es from foreign) seen
    ∙ all_told who es from foreign v all ts (view who es from) (view_has who es all from foreign up) (view_rows_are_of who es v all from)
    ∙ ap (nodes_told who.scene from ts (view who es from).rows) (sym (tree_is who es from foreign))
  where
    now : List Heard
    now = got from class bytes (packet.Delta ts) ∷ es

    up : is_up es from ≡ true
    up = got_is_up who es from class bytes (packet.Delta ts) h

    foreign : int_eq from who.id ≡ false
    foreign = not_this who es f from up

    seen : view who now from ≡ apply_updates who.scene from (view who es from) (map Tell ts)
    seen =
        view_got who es from class bytes (packet.Delta ts) (h, all)
        ∙ ap (kept_while (is_up es from)) (joined_updates who.scene from (record { fixed = fixed_of who.scene from; rows = [] }) (updates_from who es from) (map Tell ts))
        ∙ ap (λ b. kept_while b (apply_updates who.scene from (applied who.scene from (updates_from who es from)) (map Tell ts))) up
        ∙ ap (λ r. apply_updates who.scene from r (map Tell ts)) (sym (in_view who es all from up))

    fixed : (n : Node) → fixed_by who now from foreign (view who now from) n ≡ fixed_by who es from foreign (view who now from) n
    fixed n = step (int_eq n.auth from) refl
      where
        step : (b : Bool) → int_eq n.auth from ≡ b → cond b (seen_in who now from foreign (view who now from) n) (fixed_now who now n) ≡ cond b (seen_in who es from foreign (view who now from) n) (fixed_now who es n)
        step true e = refl
        step false e = ap (λ (r : Replica). record (fixed_live n) { values = if int_eq n.auth who.id then own_values who es n.path n.props else or_else (option_map (λ (l : Live). l.values) (live_at r.fixed n.path)) n.props })
            (view_of_others who es from class bytes (packet.Delta ts) n.auth (int_comm from n.auth ∙ e))

    rows : (c : ℤ) → rows_by who now from foreign (view who now from) c ≡ rows_by who es from foreign (view who now from) c
    rows c = step (int_eq c from) refl
      where
        step : (b : Bool) → int_eq c from ≡ b → cond b (view who now from).rows (rows_of who now c) ≡ cond b (view who now from).rows (rows_of who es c)
        step true e = refl
        step false e = ap₂ (λ rs ls. if int_eq c who.id then map (own_live who es) rs else ls) (rows_receive who es from class bytes (Ok (plain_packet (packet.Delta ts)))) (ap (λ (r : Replica). r.rows) (view_of_others who es from class bytes (packet.Delta ts) c (int_comm from c ∙ e)))
