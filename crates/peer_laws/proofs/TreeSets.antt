-- The tree, one assignment later: the one node at the path has the one property changed.
use Rattle.std.proofs.Common.{◌≡◌, ℕ, ℤ, Bool, true, false, cond, not, ◌&&◌, ◌||◌, List, [], ◌∷◌, ◌++◌, refl, sym, ap, ap₂, ◌∙◌, map, Some, None}
use Rattle.std.specs.Prelude.{flat_map, is_none, if◌then◌else◌}
use Rattle.std.specs.List.{list_all}
use Rattle.std.specs.Ordering.{int_eq}
use Rattle.std.proofs.lemmas.Bool.{and_parts}
use Rattle.std.proofs.lemmas.List.Elements.{All-weaker}
use Rattle.std.proofs.lemmas.List.Sums.{AllPass-from_list_all}
use Rattle.std.proofs.lemmas.List.{append-nil, map-append}
use Rattle.std.proofs.lemmas.List.Folds.{list_all-map}
use Rattle.gd_variant.specs.Words.{text_eq, or_else}
use Rattle.gd_variant.specs.declared.value.Variant.{Variant}
use Rattle.scene_model.specs.declared.scene.Node.{Node}
use Rattle.scene_model.specs.declared.scene.Prop.{Prop}
use Rattle.scene_model.specs.declared.event.Op.TheVariants.{Set}
use Rattle.scene_model.specs.declared.outcome.Refusal.TheVariants.{NoNode, NotAuthority}
use Rattle.scene_model.specs.Lookup.{prop_names, scene_at}
use Rattle.scene_model.specs.Valid.{IsValidScene, has_twice}
use Rattle.peer_model.specs.Heard.{Who, Heard, does}
use Rattle.peer_model.specs.Rows.{OwnRow, own_rows}
use Rattle.peer_model.specs.Values.{own_value, props_in}
use Rattle.peer_model.specs.Updates.{Live, fixed_live}
use Rattle.peer_model.specs.View.{view, own_values, own_live, rows_of, fixed_now, values_seen, authorities, tree_of, node_at}
use Rattle.peer_model.specs.Refusals.{owns}
use Rattle.peer_model.proofs.Rows.{rows_after}
use Rattle.scene_model.proofs.TextLaws.{text_eq-sym}
use Rattle.headless_tree.specs.Lists.{change_first}
use Rattle.headless_tree.specs.Nodes.{with_value, is_at, is_row_of, is_spawned, assigned}
use Rattle.headless_tree.proofs.Numbered.{unnot}
use Rattle.peer_laws.specs.Built.{Accepts, AllAccepted}
use Rattle.peer_laws.specs.Facts.{Facts}
use Rattle.peer_laws.proofs.Tests.{no_row, not_false}
use Rattle.peer_laws.proofs.Numbers.{int_is}
use Rattle.peer_laws.proofs.Joined.{flat_agree, map_each, map_agree, map-map, map-flat}
use Rattle.peer_laws.proofs.Each.{all_split, all_of_flat, all_both}
use Rattle.peer_laws.proofs.Once.{change_if, change_once, only_there}
use Rattle.peer_laws.proofs.Scenes.{node_apart, nodes_apart, scene_props_apart}
use Rattle.peer_laws.proofs.Views.{rows_are_of}

module _ (who : Who) (es : List Heard) (path prop : List ℕ) (value : Variant) where
  -- the events with the assignment
  abbrev then_set : List Heard
  then_set = does (Set path prop value) ∷ es

  -- properties with the assignment
  abbrev set_prop : List Prop → List Prop
  set_prop props = change_first (λ (p : Prop). text_eq p.name prop) (with_value value) props

  abbrev set_props : Live → Live
  set_props n = record n { values = set_prop n.values }

  -- a node with the assignment, where it stands at the path
  abbrev set_node : Live → Live
  set_node n = change_if (λ (m : Live). m.path) path set_props n

  -- whether a node that stands at the path is this peer's
  abbrev is_own_there : Live → Bool
  is_own_there n = not (is_at path n) || int_eq n.auth who.id

  -- values

  value_step : (b c : Bool) (name : List ℕ) (old : Variant)
      → ◌≡◌ {A = Prop} (record { name = name; value = or_else (if b && c then Some value else None) old }) (cond (b && c) (record { name = name; value = value }) (record { name = name; value = old }))
  value_step true true name old = refl
  value_step true false name old = refl
  value_step false c name old = refl

  -- a property of a node at this path, as it stands
  abbrev prop_now : List ℕ → Prop → Prop
  prop_now at p = record { name = p.name; value = own_value who es at p.name }

  prop_set : (at : List ℕ) (p : Prop) → text_eq path at ≡ true
      → ◌≡◌ {A = Prop} (record { name = p.name; value = own_value who then_set at p.name }) (change_if (λ (x : Prop). x.name) prop (with_value value) (prop_now at p))
  prop_set at p e =
      value_step (text_eq path at) (text_eq prop p.name) p.name (own_value who es at p.name)
      ∙ ap (λ b. cond b (with_value value (prop_now at p)) (prop_now at p)) (ap (λ b. b && text_eq prop p.name) e ∙ text_eq-sym prop p.name)

  prop_kept : (at : List ℕ) (p : Prop) → text_eq path at ≡ false → ◌≡◌ {A = Prop} (record { name = p.name; value = own_value who then_set at p.name }) (prop_now at p)
  prop_kept at p e =
      value_step (text_eq path at) (text_eq prop p.name) p.name (own_value who es at p.name)
      ∙ ap (λ b. cond (b && text_eq prop p.name) (with_value value (prop_now at p)) (prop_now at p)) e

  values_set : (at : List ℕ) (props : List Prop) → has_twice (prop_names props) ≡ false → text_eq path at ≡ true → own_values who then_set at props ≡ set_prop (own_values who es at props)
  values_set at props apart e =
      map_each (λ (p : Prop). record { name = p.name; value = own_value who then_set at p.name }) (λ p. change_if (λ (x : Prop). x.name) prop (with_value value) (prop_now at p)) props (λ p. prop_set at p e)
      ∙ sym (map-map (change_if (λ (x : Prop). x.name) prop (with_value value)) (prop_now at) props)
      ∙ sym (change_once (λ (x : Prop). x.name) prop (with_value value) (own_values who es at props) (ap has_twice (map-map (λ (x : Prop). x.name) (prop_now at) props) ∙ apart))

  values_kept : (at : List ℕ) (props : List Prop) → text_eq path at ≡ false → own_values who then_set at props ≡ own_values who es at props
  values_kept at props e = map_each (λ (p : Prop). record { name = p.name; value = own_value who then_set at p.name }) (prop_now at) props (λ p. prop_kept at p e)

  -- nodes

  -- a node of this peer, with the values of these properties
  own_set : (n : Live) (props : List Prop) → has_twice (prop_names props) ≡ false
      → ◌≡◌ {A = Live} (record n { values = own_values who then_set n.path props }) (set_node (record n { values = own_values who es n.path props }))
  own_set n props apart = step (is_at path n) refl
    where
      step : (b : Bool) → is_at path n ≡ b
          → ◌≡◌ {A = Live} (record n { values = own_values who then_set n.path props }) (cond b (record n { values = set_prop (own_values who es n.path props) }) (record n { values = own_values who es n.path props }))
      step true e = ap (λ vs. record n { values = vs }) (values_set n.path props apart (text_eq-sym path n.path ∙ e))
      step false e = ap (λ vs. record n { values = vs }) (values_kept n.path props (text_eq-sym path n.path ∙ e))

  -- a node of another peer stays
  other_kept : (n : Live) → is_own_there n ≡ true → int_eq n.auth who.id ≡ false → set_node n ≡ n
  other_kept n h other = step (is_at path n) (int_eq n.auth who.id) h other
    where
      step : (b c : Bool) → (not b || c) ≡ true → c ≡ false → cond b (set_props n) n ≡ n
      step true true k e = absurd (cc e)
      step true false k e = absurd (cc k)
      step false c k e = refl

  fixed_set : (n : Node) → (is_own_there (fixed_now who es n) && node_apart n) ≡ true → fixed_now who then_set n ≡ set_node (fixed_now who es n)
  fixed_set n h = step (int_eq n.auth who.id) refl (and_parts (is_own_there (fixed_now who es n)) (node_apart n) h)
    where
      step : (mine : Bool) → int_eq n.auth who.id ≡ mine → (is_own_there (fixed_now who es n) ≡ true) × (node_apart n ≡ true)
          → ◌≡◌ {A = Live} (record (fixed_live n) { values = if mine then own_values who then_set n.path n.props else values_seen who es n })
          (set_node (record (fixed_live n) { values = if mine then own_values who es n.path n.props else values_seen who es n }))
      step true e k = own_set (fixed_live n) n.props (unnot (has_twice (prop_names n.props)) k.1)
      step false e k = sym (other_kept (record (fixed_live n) { values = values_seen who es n }) k.0 e)

  row_set : IsValidScene who.scene → (r : OwnRow) → own_live who then_set r ≡ set_node (own_live who es r)
  row_set v r = own_set (own_live who es r) (props_in (scene_at who.scene r.place)) (scene_props_apart who.scene v r.place)

  rows_kept : own_rows who then_set ≡ own_rows who es
  rows_kept = rows_after who es (does (Set path prop value)) (λ p. refl) ∙ append-nil (own_rows who es)

  others_kept : (c : ℤ) (ns : List Live) → int_eq c who.id ≡ false → list_all (is_row_of c) ns ≡ true → list_all is_own_there ns ≡ true → map set_node ns ≡ ns
  others_kept c [] other h k = refl
  others_kept c (n ∷ ns) other h k =
      let row = and_parts (is_row_of c n) (list_all (is_row_of c) ns) h in
      let own = and_parts (is_own_there n) (list_all is_own_there ns) k in
      ap₂ (λ m ms. m ∷ ms) (other_kept n own.0 (ap (λ a. int_eq a who.id) (int_is n.auth c (and_parts (is_spawned n) (int_eq n.auth c) row.0).1) ∙ other)) (others_kept c ns other row.1 own.1)

  rows_set : IsValidScene who.scene → AllAccepted who es → (c : ℤ) → list_all is_own_there (rows_of who es c) ≡ true → rows_of who then_set c ≡ map set_node (rows_of who es c)
  rows_set v all c h = step (int_eq c who.id) refl (rows_are_of who es v all c) h
    where
      step : (mine : Bool) → int_eq c who.id ≡ mine
          → list_all (is_row_of c) (if mine then map (own_live who es) (own_rows who es) else (view who es c).rows) ≡ true
          → list_all is_own_there (if mine then map (own_live who es) (own_rows who es) else (view who es c).rows) ≡ true
          → (if mine then map (own_live who then_set) (own_rows who then_set) else (view who es c).rows) ≡ map set_node (if mine then map (own_live who es) (own_rows who es) else (view who es c).rows)
      step true e k l =
          ap (map (own_live who then_set)) rows_kept
          ∙ map_each (own_live who then_set) (λ r. set_node (own_live who es r)) (own_rows who es) (row_set v)
          ∙ sym (map-map set_node (own_live who es) (own_rows who es))
      step false e k l = sym (others_kept c (view who es c).rows e k l)

  -- the node at the path is this peer's
  owned : Accepts who es (does (Set path prop value)) → owns who (node_at who es path) ≡ true
  owned h =
      let first = no_row (is_none (node_at who es path)) NoNode _ h.no_refusal in
      not_false (owns who (node_at who es path)) (no_row (not (owns who (node_at who es path))) NotAuthority _ first.1).0

  -- an assignment changes the property of the node at the path
  pub tree_set_here : IsValidScene who.scene → AllAccepted who es → Facts who es → Accepts who es (does (Set path prop value)) → tree_of who (does (Set path prop value) ∷ es) ≡ assigned path prop value (tree_of who es)
  tree_set_here v all f h =
      let fixed = map (fixed_now who es) who.scene.nodes in
      let rows = flat_map (rows_of who es) (authorities who es) in
      let there = only_there (λ (n : Live). n.path) path (λ (n : Live). int_eq n.auth who.id) (tree_of who es) f.apart (owned h) in
      let parts = all_split is_own_there fixed rows there in
      ap₂ (λ ns ms. ns ++ ms)
      (map_agree (fixed_now who then_set) (λ n. set_node (fixed_now who es n)) who.scene.nodes (All-weaker (λ n. (is_own_there (fixed_now who es n) && node_apart n) ≡ true) (λ n. fixed_now who then_set n ≡ set_node (fixed_now who es n)) fixed_set who.scene.nodes
      (AllPass-from_list_all (λ n. is_own_there (fixed_now who es n) && node_apart n) who.scene.nodes
      (all_both (λ n. is_own_there (fixed_now who es n)) node_apart who.scene.nodes (sym (list_all-map is_own_there (fixed_now who es) who.scene.nodes) ∙ parts.0) (nodes_apart who.scene v))))
      ∙ sym (map-map set_node (fixed_now who es) who.scene.nodes))
      (flat_agree (λ c. list_all is_own_there (rows_of who es c)) (rows_of who then_set) (λ c. map set_node (rows_of who es c)) (authorities who es)
      (all_of_flat is_own_there (rows_of who es) (authorities who es) parts.1) (rows_set v all)
      ∙ sym (map-flat set_node (rows_of who es) (authorities who es)))
      ∙ sym (map-append set_node fixed rows)
      ∙ sym (change_once (λ (n : Live). n.path) path set_props (tree_of who es) f.apart)

-- the tree after an assignment
pub tree_set : (who : Who) (es : List Heard) → IsValidScene who.scene → AllAccepted who es → Facts who es → (p q : List ℕ) (v : Variant) → Accepts who es (does (Set p q v))
    → tree_of who (does (Set p q v) ∷ es) ≡ assigned p q v (tree_of who es)
tree_set who es v all f path prop value h = tree_set_here who es path prop value v all f h
