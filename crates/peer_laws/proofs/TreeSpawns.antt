-- The tree after a spawn of this peer, by scene or custom: its node stands among the own rows.
use Rattle.std.proofs.Common.{◌≡◌, ℕ, ℤ, Bool, true, false, not, ◌||◌, List, [], ◌∷◌, ◌++◌, refl, sym, ap, ap₂, ◌∙◌, length, map, is_some, nat_le, nat_lt, Option, Some, None}
use Rattle.std.specs.Prelude.{flat_map, is_none, int_lt, option_map, option_and_then, if◌then◌else◌}
use Rattle.std.specs.List.{list_any, list_all}
use Rattle.std.specs.Ordering.{int_eq}
use Rattle.std.proofs.lemmas.List.{map-append, append-nil}
use Rattle.std.proofs.lemmas.List.Folds.{list_any-append}
use Rattle.std.proofs.lemmas.Bool.{and_parts, and_from, or_parts}
use Rattle.gd_variant.specs.Words.{text_eq, has_int, some_is, or_else, put_by, first_of, when}
use Rattle.scene_model.specs.declared.scene.Node.{Node}
use Rattle.scene_model.specs.declared.scene.Prop.{Prop}
use Rattle.scene_model.specs.declared.scene.SceneDef.{SceneDef}
use Rattle.scene_model.specs.declared.scene.SpawnerDef.{SpawnerDef}
use Rattle.scene_model.specs.declared.scene.CustomDef.{CustomDef}
use Rattle.scene_model.specs.declared.event.SpawnOp.{SpawnOp}
use Rattle.scene_model.specs.declared.event.Op.TheVariants.{Spawn, Custom}
use Rattle.scene_model.specs.declared.outcome.Refusal.TheVariants.{ValueTooLong}
use Rattle.scene_model.specs.Paths.{is_name}
use Rattle.scene_model.specs.Lookup.{spawner_at, scene_at, scene_place}
use Rattle.scene_model.specs.Valid.{IsValidScene}
use Rattle.scene_model.proofs.ListLaws.{any-map, any-flat_map, found_is_any}
use Rattle.scene_model.proofs.TextLaws.{text_eq-sym, text_eq-same}
use Rattle.peer_model.specs.Heard.{Who, Heard, does}
use Rattle.peer_model.specs.Rows.{OwnRow, own_rows, next_number, row_made, spawned_path, spawned_scene, spawned_scene_name}
use Rattle.peer_model.specs.Peers.{peers_up}
use Rattle.peer_model.specs.Values.{own_value, start_value, spawn_assigns, scene_made, props_in}
use Rattle.peer_model.specs.Updates.{Live, Replica, fixed_live, live_at}
use Rattle.peer_model.specs.View.{view, own_live, own_values, rows_of, authorities, fixed_now, tree_of, node_at}
use Rattle.peer_model.specs.Refusals.{owns, may_make, limit_reached, most_rows, most_net_id, last_number, setting_refusals, argument_fits, spawn_refusal}
use Rattle.headless_tree.specs.Nodes.{row_before, is_at, is_row_of}
use Rattle.peer_laws.specs.Built.{Accepts, AllAccepted}
use Rattle.peer_laws.specs.Facts.{Facts, is_below}
use Rattle.peer_laws.specs.Shown.{spawned_live}
use Rattle.peer_laws.proofs.Tests.{no_row, not_false, some_of, some_from}
use Rattle.peer_laws.proofs.Numbers.{int_same, int_is}
use Rattle.peer_laws.proofs.Joined.{map_outside, map_each}
use Rattle.peer_laws.proofs.Sorted.{put_past}
use Rattle.peer_laws.proofs.Authorities.{put_flat, row_by_number}
use Rattle.peer_laws.proofs.Scenes.{named_at_is_placed, custom_is_placed, spawner_scenes, place_props_apart}
use Rattle.peer_laws.proofs.Rows.{rows_spawn, rows_custom}
use Rattle.peer_laws.proofs.SpawnValues.{started, starts_are}
use Rattle.peer_laws.proofs.Views.{rows_are_of, authorities_rise, this_among}
use Rattle.peer_laws.proofs.TreeReceives.{put_after_fixed}

-- what is known of an accepted spawn

-- no row of the table of spawn refusals holds
pub record IsAllowed (who : Who) (es : List Heard) (o : SpawnOp) : Type 0 where
  pub there : is_none (node_at who es o.spawner) ≡ false
  pub spawner : is_none (spawner_at who.scene o.spawner) ≡ false
  pub owned : not (owns who (node_at who es o.spawner)) ≡ false
  pub scene : not (some_is (may_make o) (spawner_at who.scene o.spawner)) ≡ false
  pub name : not (is_name o.name) ≡ false
  pub free : is_some (node_at who es (spawned_path who o)) ≡ false
  pub limit : some_is (limit_reached who es o.spawner) (spawner_at who.scene o.spawner) ≡ false
  pub room : nat_le most_rows (length (own_rows who es)) ≡ false
  pub numbers : nat_lt most_net_id (last_number who es o) ≡ false
  pub sets : first_of (flat_map (setting_refusals (props_in (scene_made who o))) o.sets ++ when (not (argument_fits o.arg)) ValueTooLong ∷ []) ≡ None

pub allowed : (who : Who) (es : List Heard) (o : SpawnOp) → spawn_refusal who es o ≡ None → IsAllowed who es o
allowed who es o h =
    let a = no_row _ _ _ h in
    let b = no_row _ _ _ a.1 in
    let c = no_row _ _ _ b.1 in
    let d = no_row _ _ _ c.1 in
    let e = no_row _ _ _ d.1 in
    let f = no_row _ _ _ e.1 in
    let g = no_row _ _ _ f.1 in
    let i = no_row _ _ _ g.1 in
    let j = no_row _ _ _ i.1 in
    record { there = a.0; spawner = b.0; owned = c.0; scene = d.0; name = e.0; free = f.0; limit = g.0; room = i.0; numbers = j.0; sets = j.1 }

-- the scene that a spawner makes has a place
pub made_is_placed : (who : Who) → IsValidScene who.scene → (o : SpawnOp) (d : SpawnerDef) → spawner_at who.scene o.spawner ≡ Some d → may_make o d ≡ true → is_some (spawned_scene who o) ≡ true
made_is_placed who v o d there makes = step o.scene refl
  where
    custom : (c : Option CustomDef) → d.custom ≡ c → o.scene ≡ None → is_some c ≡ true → is_some (spawned_scene who o) ≡ true
    custom None e f k = absurd (cc k)
    custom (Some c) e f k = rw (f, there) (rw e (custom_is_placed who.scene d c (spawner_scenes who.scene v o.spawner d there) e))

    step : (n : Option (List ℕ)) → o.scene ≡ n → is_some (spawned_scene who o) ≡ true
    step None e = custom d.custom refl e (rw e at makes)
    step (Some name) e =
        ap (λ n. is_some (option_and_then (scene_place who.scene) (spawned_scene_name who (record o { scene = n })))) e
        ∙ named_at_is_placed who.scene v o.spawner d name there (sym (ap (λ n. may_make (record o { scene = n }) d) e) ∙ makes)

-- the scene that an accepted spawn makes has a place
pub spawn_is_placed : (who : Who) (es : List Heard) (o : SpawnOp) → IsValidScene who.scene → IsAllowed who es o → is_some (spawned_scene who o) ≡ true
spawn_is_placed who es o v may =
    let def = some_of (spawner_at who.scene o.spawner) (some_from (spawner_at who.scene o.spawner) may.spawner) in
    made_is_placed who v o def.0 def.1 (ap (some_is (may_make o)) (sym def.1) ∙ not_false (some_is (may_make o) (spawner_at who.scene o.spawner)) may.scene)

-- an event that spawns by this operation: the row that it makes and the values that it assigns; it leaves what is seen of others, and who is up
pub record Spawns (who : Who) (es : List Heard) (e : Heard) (o : SpawnOp) : Type 0 where
  pub may : IsAllowed who es o
  pub rows : own_rows who (e ∷ es) ≡ own_rows who es ++ row_made who es o ∷ []
  pub values : (path prop : List ℕ) → own_value who (e ∷ es) path prop ≡ or_else (spawn_assigns who o path prop) (own_value who es path prop)
  pub seen : (c : ℤ) → view who (e ∷ es) c ≡ view who es c
  pub ups : peers_up (e ∷ es) ≡ peers_up es

pub by_scene : (who : Who) (es : List Heard) (o : SpawnOp) → Accepts who es (does (Spawn o)) → Spawns who es (does (Spawn o)) o
by_scene who es o h = record { may = allowed who es o h.no_refusal; rows = rows_spawn who es o; values = λ path prop. refl; seen = λ c. refl; ups = refl }

pub by_custom : (who : Who) (es : List Heard) (o : SpawnOp) → Accepts who es (does (Custom o)) → Spawns who es (does (Custom o)) o
by_custom who es o h = record { may = allowed who es o h.no_refusal; rows = rows_custom who es o; values = λ path prop. refl; seen = λ c. refl; ups = refl }

-- the node that is made

at_place : (o : Option ℕ) (scenes : ℕ → Option SceneDef) → is_some o ≡ true → scenes (or_else o 0) ≡ option_and_then scenes o
at_place None scenes h = absurd (cc h)
at_place (Some i) scenes h = refl

-- the nodes that stood before

none_there : (p : ℤ → Bool) (a : ℤ) (cs : List ℤ) → list_any p cs ≡ false → has_int a cs ≡ true → p a ≡ false
none_there p a [] h k = absurd (cc k)
none_there p a (c ∷ cs) h k = step (int_eq a c) refl (λ l. none_there p a cs (or_parts (p c) (list_any p cs) h).1 l) k
  where
    step : (b : Bool) → int_eq a c ≡ b → (has_int a cs ≡ true → p a ≡ false) → (b || has_int a cs) ≡ true → p a ≡ false
    step true e more l = ap p (int_is a c e) ∙ (or_parts (p c) (list_any p cs) h).0
    step false e more l = more l

-- no node stands at a path that is free
pub free_of_nodes : (who : Who) (es : List Heard) (path : List ℕ) → is_some (node_at who es path) ≡ false → (list_any (λ (n : Node). text_eq n.path path) who.scene.nodes ≡ false) × (list_any (λ (r : OwnRow). text_eq r.path path) (own_rows who es) ≡ false)
free_of_nodes who es path h =
    let q : Live → Bool = is_at path in
    let parts = or_parts (list_any q (map (fixed_now who es) who.scene.nodes)) (list_any q (flat_map (rows_of who es) (authorities who es)))
    (sym (list_any-append q (map (fixed_now who es) who.scene.nodes) (flat_map (rows_of who es) (authorities who es))) ∙ sym (found_is_any q (tree_of who es)) ∙ h) in
    let own = none_there (λ c. list_any q (rows_of who es c)) who.id (authorities who es) (sym (any-flat_map q (rows_of who es) (authorities who es)) ∙ parts.1) (this_among who es) in (
      sym (any-map q (fixed_now who es) who.scene.nodes) ∙ parts.0,
      sym (any-map q (own_live who es) (own_rows who es)) ∙ sym (ap (λ b. list_any q (if b then map (own_live who es) (own_rows who es) else (view who es who.id).rows)) (int_same who.id)) ∙ own,
    )

module _ (who : Who) (es : List Heard) (e : Heard) (o : SpawnOp) (now : Spawns who es e o) where
  free : (list_any (λ (n : Node). text_eq n.path (spawned_path who o)) who.scene.nodes ≡ false) × (list_any (λ (r : OwnRow). text_eq r.path (spawned_path who o)) (own_rows who es) ≡ false)
  free = free_of_nodes who es (spawned_path who o) now.may.free

  -- properties of a node, by whether it is the new one
  abbrev values_if : List ℕ → List Prop → Bool → List Prop
  values_if path props b = map {B = Prop} (λ (p : Prop). record { name = p.name; value = or_else (if b then Some (start_value who o p.name) else None) (own_value who es path p.name) }) props

  values_now : (path : List ℕ) (props : List Prop) → own_values who (e ∷ es) path props ≡ values_if path props (text_eq (spawned_path who o) path)
  values_now path props = map_each (λ (p : Prop). record { name = p.name; value = own_value who (e ∷ es) path p.name })
      (λ (p : Prop). record { name = p.name; value = or_else (spawn_assigns who o path p.name) (own_value who es path p.name) }) props
      (λ p. ap {B = Prop} (λ x. record { name = p.name; value = x }) (now.values path p.name))

  -- the new row as it stands is the node that a spawn makes
  pub made_live : IsValidScene who.scene → own_live who (e ∷ es) (row_made who es o) ≡ spawned_live who (row_made who es o)
  made_live v =
      let r = row_made who es o in
      let made : List Prop → Live = λ vs. record { auth = who.id; num = r.num; ids = r.ids; path = r.path; place = Some r.place; values = vs } in
      let path = spawned_path who o in
      ap made (values_now path (props_in (scene_at who.scene r.place)))
      ∙ ap (λ b. made (values_if path (props_in (scene_at who.scene r.place)) b)) (text_eq-same path)
      ∙ ap (λ d. made (map (started who o) (props_in d))) (at_place (spawned_scene who o) (scene_at who.scene) (spawn_is_placed who es o v now.may))
      ∙ ap made (starts_are who o (place_props_apart who.scene v (spawned_scene who o)))

  -- a node at another path keeps its values
  values_kept : (path : List ℕ) (props : List Prop) → text_eq path (spawned_path who o) ≡ false → own_values who (e ∷ es) path props ≡ own_values who es path props
  values_kept path props other = values_now path props ∙ ap (values_if path props) (text_eq-sym (spawned_path who o) path ∙ other)

  fixed_kept : (n : Node) → text_eq n.path (spawned_path who o) ≡ false → fixed_now who (e ∷ es) n ≡ fixed_now who es n
  fixed_kept n other = ap₂ {C = Live} (λ vs (q : Replica). record (fixed_live n) { values = if int_eq n.auth who.id then vs else or_else (option_map (λ (l : Live). l.values) (live_at q.fixed n.path)) n.props }) (values_kept n.path n.props other) (now.seen n.auth)

  row_kept : (r : OwnRow) → text_eq r.path (spawned_path who o) ≡ false → own_live who (e ∷ es) r ≡ own_live who es r
  row_kept r other = ap (λ vs. record { auth = who.id; num = r.num; ids = r.ids; path = r.path; place = Some r.place; values = vs }) (values_kept r.path (props_in (scene_at who.scene r.place)) other)

  rows_same : (c : ℤ) → int_eq c who.id ≡ false → rows_of who (e ∷ es) c ≡ rows_of who es c
  rows_same c other =
      ap (λ b. if b then map (own_live who (e ∷ es)) (own_rows who (e ∷ es)) else (view who (e ∷ es) c).rows) other
      ∙ ap (λ (q : Replica). q.rows) (now.seen c)
      ∙ sym (ap (λ b. if b then map (own_live who es) (own_rows who es) else (view who es c).rows) other)

  -- own rows, the new one last
  own_rows_made : IsValidScene who.scene → map (own_live who (e ∷ es)) (own_rows who (e ∷ es)) ≡ map (own_live who es) (own_rows who es) ++ spawned_live who (row_made who es o) ∷ []
  own_rows_made v =
      ap (map (own_live who (e ∷ es))) now.rows
      ∙ map-append (own_live who (e ∷ es)) (own_rows who es) (row_made who es o ∷ [])
      ∙ ap₂ (λ rs x. rs ++ x ∷ []) (map_outside (λ (r : OwnRow). text_eq r.path (spawned_path who o)) (own_live who (e ∷ es)) (own_live who es) (own_rows who es) free.1 row_kept) (made_live v)

  new_is_row : is_row_of who.id (spawned_live who (row_made who es o)) ≡ true
  new_is_row = int_same who.id

  rows_before : (rows : List OwnRow) → list_all (is_below (next_number who es)) rows ≡ true → list_all (λ y. row_before y (spawned_live who (row_made who es o))) (map (own_live who es) rows) ≡ true
  rows_before [] h = refl
  rows_before (r ∷ rows) h =
      let x = spawned_live who (row_made who es o) in
      let parts = and_parts (is_below (next_number who es) r) (list_all (is_below (next_number who es)) rows) h in
      and_from (row_before (own_live who es r) x) (list_all (λ y. row_before y x) (map (own_live who es) rows))
      (row_by_number who.id (own_live who es r) x (int_same who.id) new_is_row ∙ parts.0) (rows_before rows parts.1)

  rows_new : IsValidScene who.scene → Facts who es → rows_of who (e ∷ es) who.id ≡ put_by row_before (spawned_live who (row_made who es o)) (rows_of who es who.id)
  rows_new v facts =
      let x = spawned_live who (row_made who es o) in
      let rows = map (own_live who es) (own_rows who es) in
      ap (λ b. if b then map (own_live who (e ∷ es)) (own_rows who (e ∷ es)) else (view who (e ∷ es) who.id).rows) (int_same who.id)
      ∙ own_rows_made v
      ∙ sym (ap (put_by row_before x) (sym (append-nil rows)) ∙ put_past row_before x rows [] (rows_before (own_rows who es) facts.below))
      ∙ sym (ap (λ b. put_by row_before x (if b then rows else (view who es who.id).rows)) (int_same who.id))

  -- the tree after a spawn
  pub tree_made : IsValidScene who.scene → AllAccepted who es → Facts who es → tree_of who (e ∷ es) ≡ put_by row_before (spawned_live who (row_made who es o)) (tree_of who es)
  tree_made v before facts =
      let x = spawned_live who (row_made who es o) in
      ap₂ (λ xs us. xs ++ flat_map (rows_of who (e ∷ es)) (put_by int_lt who.id us)) (map_outside (λ (n : Node). text_eq n.path (spawned_path who o)) (fixed_now who (e ∷ es)) (fixed_now who es) who.scene.nodes free.0 fixed_kept) now.ups
      ∙ ap (λ ys. map (fixed_now who es) who.scene.nodes ++ ys)
      (put_flat (rows_of who es) (rows_are_of who es v before) who.id (rows_of who (e ∷ es)) x new_is_row rows_same (rows_new v facts) (authorities who es) (authorities_rise who es before facts) (this_among who es))
      ∙ sym (put_after_fixed who es x who.scene.nodes (flat_map (rows_of who es) (authorities who es)))
