-- The tree before any event: the fixed nodes with their defaults.
use Rattle.std.proofs.Common.{◌≡◌, ℕ, ℤ, zero, suc, true, false, cond, List, [], ◌∷◌, ◌++◌, refl, sym, ap, ap₂, ◌∙◌, map, filter, Option, Some}
use Rattle.std.specs.Prelude.{find, slice_get, option_map, option_and_then, flat_map, if◌then◌else◌}
use Rattle.std.specs.Ordering.{int_eq}
use Rattle.std.proofs.lemmas.Bool.{or_parts}
use Rattle.std.proofs.lemmas.List.{append-nil}
use Rattle.gd_variant.specs.Words.{text_eq, has_text, or_else}
use Rattle.gd_variant.specs.declared.value.Variant.TheVariants.{Nil}
use Rattle.scene_model.specs.declared.scene.Node.{Node}
use Rattle.scene_model.specs.declared.scene.Prop.{Prop}
use Rattle.scene_model.specs.Lookup.{fixed_node, value_in, prop_names}
use Rattle.scene_model.specs.Valid.{IsValidScene, has_twice}
use Rattle.peer_model.specs.Heard.{Who}
use Rattle.peer_model.specs.Rows.{own_rows}
use Rattle.peer_model.specs.Values.{own_value}
use Rattle.peer_model.specs.Updates.{Live, fixed_live, fixed_of, live_at}
use Rattle.peer_model.specs.View.{view, own_live, own_values, values_seen, rows_of, fixed_now, tree_of}
use Rattle.scene_model.proofs.ListLaws.{any-map}
use Rattle.scene_model.proofs.TextLaws.{text_eq-same}
use Rattle.headless_tree.specs.Nodes.{fixed_nodes}
use Rattle.headless_tree.proofs.Numbered.{none_at}
use Rattle.peer_laws.proofs.Numbers.{int_same}
use Rattle.peer_laws.proofs.Scenes.{fixed_apart, node_props_apart}
use Rattle.peer_laws.proofs.SpawnValues.{map_in, value_of_prop}
use Rattle.peer_laws.proofs.Views.{view_is}

-- the first of some nodes stands at its path, where no path stands twice
first_is : (m n : Node) (rest : Option Node) → m ≡ n → cond (text_eq m.path n.path) (Some m) rest ≡ Some n
first_is m n rest same = ap (λ (x : Node). cond (text_eq m.path x.path) (Some m) rest) (sym same) ∙ ap (λ b. cond b (Some m) rest) (text_eq-same m.path) ∙ ap Some same

-- a node is found by its path
pub node_found : (nodes : List Node) (i : ℕ) (n : Node) → has_twice (map (λ (x : Node). x.path) nodes) ≡ false → slice_get nodes i ≡ Some n → find (λ (x : Node). text_eq x.path n.path) nodes ≡ Some n
node_found [] i n h e = absurd (cc e)
node_found (m ∷ nodes) zero n h e = first_is m n (find (λ (x : Node). text_eq x.path n.path) nodes) cc
node_found (m ∷ nodes) (suc i) n h e =
    let parts = or_parts (has_text m.path (map (λ (x : Node). x.path) nodes)) (has_twice (map (λ (x : Node). x.path) nodes)) h in
    let other = none_at (λ (x : Node). text_eq m.path x.path) nodes i n e (sym (any-map (text_eq m.path) (λ (x : Node). x.path) nodes) ∙ parts.0) in
    ap (λ b. cond b (Some m) (find (λ (x : Node). text_eq x.path n.path) nodes)) other ∙ node_found nodes i n parts.1 e

-- and so it is among the nodes of its authority
of_authority : (auth : ℤ) (nodes : List Node) (i : ℕ) (n : Node) → int_eq n.auth auth ≡ true → has_twice (map (λ (x : Node). x.path) nodes) ≡ false → slice_get nodes i ≡ Some n
    → live_at (map fixed_live (filter (λ (x : Node). int_eq x.auth auth) nodes)) n.path ≡ Some (fixed_live n)
of_authority auth [] i n a h e = absurd (cc e)
of_authority auth (m ∷ nodes) zero n a h e =
    let same : m ≡ n = cc in
    let rest = map fixed_live (filter (λ (x : Node). int_eq x.auth auth) nodes) in
    ap (λ b. live_at (map fixed_live (cond b (m ∷ filter (λ (x : Node). int_eq x.auth auth) nodes) (filter (λ (x : Node). int_eq x.auth auth) nodes))) n.path) (ap (λ (x : Node). int_eq x.auth auth) same ∙ a)
    ∙ ap (λ (x : Node). cond (text_eq m.path x.path) (Some (fixed_live m)) (live_at rest x.path)) (sym same)
    ∙ ap (λ b. cond b (Some (fixed_live m)) (live_at rest m.path)) (text_eq-same m.path)
    ∙ ap (λ x. Some (fixed_live x)) same
of_authority auth (m ∷ nodes) (suc i) n a h e =
    let parts = or_parts (has_text m.path (map (λ (x : Node). x.path) nodes)) (has_twice (map (λ (x : Node). x.path) nodes)) h in
    let other = none_at (λ (x : Node). text_eq m.path x.path) nodes i n e (sym (any-map (text_eq m.path) (λ (x : Node). x.path) nodes) ∙ parts.0) in
    let more = of_authority auth nodes i n a parts.1 e in
    let rest = map fixed_live (filter (λ (x : Node). int_eq x.auth auth) nodes) in
    elim (int_eq m.auth auth) as (λ b. live_at (map fixed_live (cond b (m ∷ filter (λ (x : Node). int_eq x.auth auth) nodes) (filter (λ (x : Node). int_eq x.auth auth) nodes))) n.path ≡ Some (fixed_live n)) [
      | true ↦ ap (λ b. cond b (Some (fixed_live m)) (live_at rest n.path)) other ∙ more
      | false ↦ more
    ]

-- a property of an own node begins with its default
own_start : (who : Who) (n : Node) → fixed_node who.scene n.path ≡ Some n → has_twice (prop_names n.props) ≡ false → own_values who [] n.path n.props ≡ n.props
own_start who n there apart =
    map_in (λ (p : Prop). record { name = p.name; value = own_value who [] n.path p.name }) (λ (p : Prop). p) n.props
    (λ i p e. ap (λ v. record { name = p.name; value = v })
    (ap (λ o. or_else (option_and_then (λ (x : Node). value_in x.props p.name) o) Nil) there ∙ ap (λ o. or_else o Nil) (value_of_prop n.props i p apart e)))
    ∙ all_same n.props
  where
    all_same : (ps : List Prop) → map (λ (p : Prop). p) ps ≡ ps
    all_same [] = refl
    all_same (p ∷ ps) = ap (λ qs. p ∷ qs) (all_same ps)

-- and so does one of another's node
seen_start : (who : Who) (n : Node) → live_at (fixed_of who.scene n.auth) n.path ≡ Some (fixed_live n) → values_seen who [] n ≡ n.props
seen_start who n there =
    ap (λ ns. or_else (option_map (λ (m : Live). m.values) (live_at ns n.path)) n.props) (ap (λ q. q.fixed) (view_is who [] tt n.auth))
    ∙ ap (λ o. or_else (option_map (λ (m : Live). m.values) o) n.props) there

fixed_start : (who : Who) → IsValidScene who.scene → (i : ℕ) (n : Node) → slice_get who.scene.nodes i ≡ Some n → fixed_now who [] n ≡ fixed_live n
fixed_start who valid i n e =
    let there : fixed_node who.scene n.path ≡ Some n = node_found who.scene.nodes i n (fixed_apart who.scene valid) e in
    let seen : live_at (fixed_of who.scene n.auth) n.path ≡ Some (fixed_live n) = of_authority n.auth who.scene.nodes i n (int_same n.auth) (fixed_apart who.scene valid) e in
    elim (int_eq n.auth who.id) as (λ b. record (fixed_live n) { values = if b then own_values who [] n.path n.props else values_seen who [] n } ≡ fixed_live n) [
      | true ↦ ap (λ vs. record (fixed_live n) { values = vs }) (own_start who n there (node_props_apart who.scene valid n.path n there))
      | false ↦ ap (λ vs. record (fixed_live n) { values = vs }) (seen_start who n seen)
    ]

no_rows_yet : (who : Who) → flat_map (rows_of who []) (who.id ∷ []) ≡ []
no_rows_yet who = elim (int_eq who.id who.id) as (λ b. (if b then map (own_live who []) (own_rows who []) else (view who [] who.id).rows) ++ [] ≡ []) [ true ↦ refl | false ↦ refl ]

pub tree_start : (who : Who) → IsValidScene who.scene → tree_of who [] ≡ fixed_nodes who.scene
tree_start who valid = ap₂ (λ xs ys. xs ++ ys) (map_in (fixed_now who []) fixed_live who.scene.nodes (fixed_start who valid)) (no_rows_yet who) ∙ append-nil (fixed_nodes who.scene)
