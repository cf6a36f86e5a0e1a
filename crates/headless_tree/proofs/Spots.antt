-- Assignments: from the places of a node and its property to the first ones with their path and name.
use Rattle.std.proofs.Common.{◌≡◌, ℕ, ◌<◌, Bool, true, false, cond, not, List, [], ◌∷◌, refl, sym, ap, ap₂, subst, ◌∙◌, length, get_or, map, Some, None, is_some, IfSome}
use Rattle.std.specs.Prelude.{find, position, slice_get, option_map, remove, is_none}
use Rattle.std.specs.List.{slice_set}
use Rattle.std.proofs.lemmas.List.{length-map}
use Rattle.std.proofs.Math.Seq.{map-set_same}
use Rattle.std.proofs.lemmas.Option.{slice_get-get_or}
use Rattle.gd_variant.specs.Words.{text_eq, first_of, when, some_is}
use Rattle.gd_variant.specs.declared.value.Variant.{Variant}
use Rattle.scene_model.specs.declared.scene.Scene.{Scene}
use Rattle.scene_model.specs.declared.scene.Prop.{Prop}
use Rattle.scene_model.specs.Lookup.{has_prop}
use Rattle.scene_model.proofs.TextLaws.{text_eq-sym}
use Rattle.scene_model.proofs.ListLaws.{any_ext, any-map, found_is_any}
use Rattle.scene_model.specs.Limits.{is_long}
use Rattle.scene_model.specs.Nodes.{Live, live_at}
use Rattle.headless_tree.specs.declared.node.NodeNow.{NodeNow}
use Rattle.headless_tree.specs.declared.node.TreeNo.TheVariants.{NoNode, NoProp, ValueTooLong}
use Rattle.headless_tree.specs.Lists.{change_at, change_first, without_first}
use Rattle.headless_tree.specs.Nodes.{TreeOf, live, is_at, with_value, lacks_prop, assign_no, assigned, assigned_at, IsSpot, has_spawned, without_spawned, is_spawned}
use Rattle.headless_tree.proofs.Places.{first_is, found_at, not_found, found_within, get_some, node_there}
use Rattle.headless_tree.proofs.Numbered.{bare}
use Rattle.headless_tree.proofs.Changes.{remove_first, change_by_place, change_same, changed, map-remove}

-- whether a property is there, by its place
named : List ℕ → Prop → Bool
named prop p = text_eq p.name prop

is_there : (prop : List ℕ) (vs : List Prop) → has_prop prop vs ≡ is_some (find (λ (p : Prop). text_eq p.name prop) vs)
is_there prop vs =
    any-map (text_eq prop) (λ (p : Prop). p.name) vs
    ∙ any_ext (λ (p : Prop). text_eq prop p.name) (λ (p : Prop). text_eq p.name prop) (λ p. text_eq-sym prop p.name) vs
    ∙ sym (found_is_any (λ (p : Prop). text_eq p.name prop) vs)

pub lacks : (prop : List ℕ) (n : Live) → position (λ (p : Prop). text_eq p.name prop) n.values ≡ None → lacks_prop prop n ≡ true
lacks prop n h = ap not (is_there prop n.values ∙ ap is_some (not_found (λ (p : Prop). text_eq p.name prop) n.values h))

pub lacks_not : (prop : List ℕ) (n : Live) (i : ℕ) → position (λ (p : Prop). text_eq p.name prop) n.values ≡ Some i → lacks_prop prop n ≡ false
lacks_not prop n i h = ap not (is_there prop n.values ∙ ap is_some (sym (found_at (λ (p : Prop). text_eq p.name prop) n.values i h)) ∙ get_some n.values i (found_within (λ (p : Prop). text_eq p.name prop) n.values i h))

-- the reason against an assignment, by what stands at the path
pub no_node : (all : List Live) (path prop : List ℕ) (value : Variant) → position (is_at path) all ≡ None → assign_no all path prop value ≡ Some NoNode
no_node all path prop value h = ap (λ o. first_of (when (is_none o) NoNode ∷ when (some_is (lacks_prop prop) o) NoProp ∷ when (is_long value) ValueTooLong ∷ [])) (not_found (is_at path) all h)

pub why_at : (all : List Live) (path prop : List ℕ) (value : Variant) (n : Live) (b d : Bool) → live_at all path ≡ Some n → lacks_prop prop n ≡ b → is_long value ≡ d → assign_no all path prop value ≡ first_of (when b NoProp ∷ when d ValueTooLong ∷ [])
why_at all path prop value n b d there lack long =
    ap (λ o. first_of (when (is_none o) NoNode ∷ when (some_is (lacks_prop prop) o) NoProp ∷ when (is_long value) ValueTooLong ∷ [])) there
    ∙ ap₂ (λ x y. first_of (when x NoProp ∷ when y ValueTooLong ∷ [])) lack long

-- the node at a path, as a call found it
pub live_found : (nodes : List NodeNow) (all : List Live) (path : List ℕ) (i : ℕ) (n : NodeNow) → all ≡ map live nodes → position (is_at path) all ≡ Some i → n ≡ get_or nodes i n → live_at all path ≡ Some (live n)
live_found nodes all path i n same h is =
    sym (node_there nodes all path i same h)
    ∙ ap (option_map live) (slice_get-get_or nodes i n (subst (λ m. i < m) (ap length same ∙ length-map nodes live) (found_within (is_at path) all i h)) ∙ ap Some (sym is))

pub live_there : (nodes : List NodeNow) (all : List Live) (path : List ℕ) (i : ℕ) (n : NodeNow) → all ≡ map live nodes → position (is_at path) all ≡ Some i → n ≡ get_or nodes i n → slice_get all i ≡ Some (live n)
live_there nodes all path i n same h is = found_at (is_at path) all i h ∙ live_found nodes all path i n same h is

-- an assignment by places is the one by path and name
pub spot_assigned : (all : List Live) (path prop : List ℕ) (value : Variant) (place at : ℕ) → IsSpot all path prop place at → assigned_at place at value all ≡ assigned path prop value all
spot_assigned all path prop value place at s =
    let q : Prop → Bool = λ p. text_eq p.name prop in
    let f : Live → Live = λ n. record n { values = change_at at (with_value value) n.values } in
    let g : Live → Live = λ n. record n { values = change_first q (with_value value) n.values } in
    change_same f g all place s.node s.there (ap (λ (vs : List Prop). record s.node { values = vs }) (ap (λ k. change_at k (with_value value) s.node.values) (sym (first_is q s.node.values at s.named)) ∙ change_by_place q (with_value value) s.node.values))
    ∙ ap (λ k. change_at k g all) (sym (first_is (is_at path) all place s.first))
    ∙ change_by_place (is_at path) g all

pub spot_prop : (all : List Live) (path prop : List ℕ) (place at : ℕ) → IsSpot all path prop place at → IfSome (slice_get all place) (λ (n : Live). at < length n.values)
spot_prop all path prop place at s = subst (λ o. IfSome o (λ (n : Live). at < length n.values)) (sym s.there) (found_within (λ (p : Prop). text_eq p.name prop) s.node.values at s.named)

pub spot_node : (all : List Live) (path prop : List ℕ) (place at : ℕ) → IsSpot all path prop place at → place < length all
spot_node all path prop place at s = found_within (is_at path) all place s.first

-- a write to the values of one node
pub written : (t : TreeOf) (s : Scene) (nodes : List NodeNow) (place prop : ℕ) (value : Variant) (n : NodeNow) (vs : List Prop) → ◌≡◌ {A = TreeOf} (record { scene = s; nodes = map live nodes }) t → place < length nodes → n ≡ get_or nodes place n → vs ≡ change_at prop (with_value value) n.values
    → ◌≡◌ {A = TreeOf} (record { scene = s; nodes = map live (slice_set nodes place (record n { values = vs })) }) (record { scene = t.scene; nodes = assigned_at place prop value t.nodes })
written t s nodes place prop value n vs same low is new =
    ap {B = TreeOf} (λ (ns : List Live). record { scene = s; nodes = ns }) (changed live (λ (m : Live). record m { values = change_at prop (with_value value) m.values }) nodes place n (record n { values = vs }) low is (ap (λ (ws : List Prop). record (live n) { values = ws }) new))
    ∙ ap {B = TreeOf} (λ (u : TreeOf). record { scene = u.scene; nodes = assigned_at place prop value u.nodes }) same

pub paths_stay : (nodes : List NodeNow) (place : ℕ) (n : NodeNow) (vs : List Prop) → n ≡ get_or nodes place n → map (λ (m : NodeNow). m.path) (slice_set nodes place (record n { values = vs })) ≡ map (λ (m : NodeNow). m.path) nodes
paths_stay nodes place n vs is = map-set_same (λ (m : NodeNow). m.path) nodes place (record n { values = vs }) n (ap (λ (m : NodeNow). m.path) is)

bare_nodes : (nodes : List NodeNow) → map bare (map live nodes) ≡ map (λ (n : NodeNow). bare (live n)) nodes
bare_nodes [] = refl
bare_nodes (n ∷ ns) = ap (λ (ms : List Live). bare (live n) ∷ ms) (bare_nodes ns)

pub only_values : (nodes : List NodeNow) (place : ℕ) (n : NodeNow) (vs : List Prop) → n ≡ get_or nodes place n → map bare (map live (slice_set nodes place (record n { values = vs }))) ≡ map bare (map live nodes)
only_values nodes place n vs is =
    bare_nodes (slice_set nodes place (record n { values = vs }))
    ∙ map-set_same (λ (m : NodeNow). bare (live m)) nodes place (record n { values = vs }) n (ap (λ (m : NodeNow). bare (live m)) is)
    ∙ sym (bare_nodes nodes)

pub low_in : (t : TreeOf) (s : Scene) (nodes : List NodeNow) (i : ℕ) → ◌≡◌ {A = TreeOf} (record { scene = s; nodes = map live nodes }) t → i < length t.nodes → i < length nodes
low_in t s nodes i same low = subst (λ n. i < n) (ap (λ (u : TreeOf). length u.nodes) (sym same) ∙ length-map nodes live) low

-- one node taken away
pub taken_away : (t : TreeOf) (s : Scene) (nodes left : List NodeNow) (place : ℕ) → ◌≡◌ {A = TreeOf} (record { scene = s; nodes = map live nodes }) t → left ≡ remove nodes place → ◌≡◌ {A = TreeOf} (record { scene = s; nodes = map live left }) (record { scene = t.scene; nodes = remove t.nodes place })
taken_away t s nodes left place same is =
    ap {B = TreeOf} (λ (ns : List NodeNow). record { scene = s; nodes = map live ns }) is
    ∙ ap {B = TreeOf} (λ (ns : List Live). record { scene = s; nodes = ns }) (map-remove live nodes place)
    ∙ ap {B = TreeOf} (λ (u : TreeOf). record { scene = u.scene; nodes = remove u.nodes place }) same

pub paths_taken_away : {K : Type 0} (bytes : K → List ℕ) (keys left : List K) (nodes rest : List NodeNow) (place : ℕ) → map bytes keys ≡ map (λ (n : NodeNow). n.path) nodes → left ≡ remove keys place → rest ≡ remove nodes place → map bytes left ≡ map (λ (n : NodeNow). n.path) rest
paths_taken_away bytes keys left nodes rest place same a b =
    ap (map bytes) a ∙ map-remove bytes keys place ∙ ap (λ ts. remove ts place) same ∙ sym (map-remove (λ (n : NodeNow). n.path) nodes place) ∙ ap (map (λ (n : NodeNow). n.path)) (sym b)

-- removing the spawned node at a path
pub none_spawned : (all : List Live) (path : List ℕ) → position (is_at path) all ≡ None → has_spawned all path ≡ false
none_spawned all path h = ap (some_is is_spawned) (not_found (is_at path) all h)

pub keeps_all : (t : TreeOf) (path : List ℕ) → has_spawned t.nodes path ≡ false → t ≡ record { scene = t.scene; nodes = without_spawned path t.nodes }
keeps_all t path h = ap {B = TreeOf} (λ b. record { scene = t.scene; nodes = cond b (without_first (is_at path) t.nodes) t.nodes }) (sym h)

pub removes_one : (t : TreeOf) (path : List ℕ) (place : ℕ) → has_spawned t.nodes path ≡ true → position (is_at path) t.nodes ≡ Some place → ◌≡◌ {A = TreeOf} (record { scene = t.scene; nodes = remove t.nodes place }) (record { scene = t.scene; nodes = without_spawned path t.nodes })
removes_one t path place h first =
    ap {B = TreeOf} (λ (ns : List Live). record { scene = t.scene; nodes = ns }) (ap (remove t.nodes) (sym (first_is (is_at path) t.nodes place first)) ∙ remove_first (is_at path) t.nodes)
    ∙ ap {B = TreeOf} (λ b. record { scene = t.scene; nodes = cond b (without_first (is_at path) t.nodes) t.nodes }) (sym h)
