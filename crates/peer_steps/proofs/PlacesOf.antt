-- Places of texts, and how many entries a valid scene has.
use Rattle.std.proofs.Common.{◌≡◌, ℕ, suc, ◌+◌, ◌<◌, ◌≤◌, inl, inr, Bool, true, false, cond, not, List, [], ◌∷◌, ◌++◌, refl, sym, ap, ◌∙◌, length, map, nat_lt, nat_le, Option, Some, None, arith, length-append}
use Rattle.std.specs.Prelude.{position, option_map, find, slice_get}
use Rattle.std.specs.List.{position_or_len}
use Rattle.std.proofs.lemmas.Bool.{cases_lt, lt-ltb, le-ltb, or_parts}
use Rattle.std.proofs.lemmas.Bool.Decides.{nat_tests}
use Rattle.gd_variant.specs.Words.{text_eq, place_of, or_else}
use Rattle.scene_model.specs.declared.scene.Scene.{Scene}
use Rattle.scene_model.specs.declared.scene.Node.{Node}
use Rattle.scene_model.specs.declared.scene.SceneDef.{SceneDef}
use Rattle.scene_model.specs.declared.scene.SceneWhy.{SceneWhy}
use Rattle.scene_model.specs.Lookup.{fixed_path_id, scene_place, fixed_node}
use Rattle.scene_model.specs.Valid.{IsValidScene, node_why, scene_why, most_entries}
use Rattle.headless_tree.proofs.Places.{position-map, found_at, not_found}
use Rattle.peer_laws.proofs.Scenes.{EachRight, nodes_right, scenes_right, right_node, right_def}
use Rattle.scene_model.proofs.TextLaws.{text_eq-sym}

past_first : (n m : ℕ) → option_map (λ k. k + 1) (cond (nat_lt n m) (Some n) None) ≡ cond (nat_lt (1 + n) (suc m)) (Some (1 + n)) None
past_first n m = elim (cases_lt n m) [
  | inl w ↦ ap (λ b. option_map (λ k. k + 1) (cond b (Some n) None)) (lt-ltb n m w) ∙ ap Some (one_more n) ∙ sym (ap (λ b. cond b (Some (1 + n)) None) (lt-ltb (1 + n) (suc m) (omega (arith, w))))
  | inr past ↦ ap (λ b. option_map (λ k. k + 1) (cond b (Some n) None)) (le-ltb n m past) ∙ sym (ap (λ b. cond b (Some (1 + n)) None) (le-ltb (1 + n) (suc m) (omega (arith, past))))
]
  where
    one_more : (k : ℕ) → k + 1 ≡ 1 + k
    one_more k = omega arith

place_step : (b : Bool) (n m : ℕ) → cond b (Some 0) (option_map (λ k. k + 1) (cond (nat_lt n m) (Some n) None)) ≡ cond (nat_lt (cond (not b) (1 + n) 0) (suc m)) (Some (cond (not b) (1 + n) 0)) None
place_step true n m = sym (ap (λ b. cond b (Some 0) None) (lt-ltb 0 (suc m) (omega arith)))
place_step false n m = past_first n m

-- the place of a text is that of the first one that is the same
pub place_is_position : (t : List ℕ) (ts : List (List ℕ)) → place_of t ts ≡ position (text_eq t) ts
place_is_position t [] = refl
place_is_position t (u ∷ us) = ap (λ o. cond (text_eq t u) (Some 0) (option_map (λ k. k + 1) o)) (place_is_position t us) ∙ place_step (text_eq t u) (position_or_len (text_eq t) us) (length us)

-- the same of a key of each element
pub place_by_key : {X : Type 0} (key : X → List ℕ) (t : List ℕ) (xs : List X) → position (λ x. text_eq t (key x)) xs ≡ place_of t (map key xs)
place_by_key key t xs = position-map key (λ x. text_eq t (key x)) (text_eq t) (λ x. refl) xs ∙ sym (place_is_position t (map key xs))

-- the path id of a node that a call found
pub id_found : (s : Scene) (path told : List ℕ) (r : Option ℕ) → r ≡ position (λ (n : Node). text_eq told n.path) s.nodes → told ≡ path → or_else (option_map (λ i. i + 1) r) 0 ≡ or_else (fixed_path_id s path) 0
id_found s path told r p same = ap (λ o. or_else (option_map (λ i. i + 1) o) 0) (p ∙ ap (λ t. position (λ (n : Node). text_eq t n.path) s.nodes) same ∙ place_by_key (λ (n : Node). n.path) path s.nodes)

at_path : (s : Scene) (path : List ℕ) → find (λ (n : Node). text_eq path n.path) s.nodes ≡ fixed_node s path
at_path s path = let same : (λ (n : Node). text_eq path n.path) ≡ (λ (n : Node). text_eq n.path path) = λ i n. text_eq-sym path n.path i in ap (λ (p : Node → Bool). find p s.nodes) same

-- the fixed node at the place that a call found
pub node_found : (s : Scene) (path told : List ℕ) (i : ℕ) → told ≡ path → position (λ (n : Node). text_eq told n.path) s.nodes ≡ Some i → slice_get s.nodes i ≡ fixed_node s path
node_found s path told i same h = found_at (λ (n : Node). text_eq told n.path) s.nodes i h ∙ at_path s told ∙ ap (fixed_node s) same

-- there is none where it found no place
pub node_missing : (s : Scene) (path told : List ℕ) → told ≡ path → position (λ (n : Node). text_eq told n.path) s.nodes ≡ None → None ≡ fixed_node s path
node_missing s path told same h = sym (not_found (λ (n : Node). text_eq told n.path) s.nodes h) ∙ at_path s told ∙ ap (fixed_node s) same

-- the place of a scene that a call found
pub scene_found : (s : Scene) (name told : List ℕ) (r : Option ℕ) → r ≡ position (λ (d : SceneDef). text_eq told d.name) s.scenes → told ≡ name → r ≡ scene_place s name
scene_found s name told r p same = p ∙ ap (λ t. position (λ (d : SceneDef). text_eq t d.name) s.scenes) same ∙ place_by_key (λ (d : SceneDef). d.name) name s.scenes

-- the last entry has fewer than 4096 before it
few_entries : {X : Type 0} (why : List X × X → Option SceneWhy) → ((earlier : List X) (x : X) → why (earlier, x) ≡ None → length earlier < 4096) → (earlier xs : List X) → EachRight why earlier xs → length earlier ≤ 4096 → length earlier + length xs ≤ 4096
few_entries why k earlier [] h few = omega (arith, few)
few_entries why k earlier (x ∷ xs) h few =
    let here = k earlier x h.0 in
    let more = few_entries why k (earlier ++ x ∷ []) xs h.1 (omega (arith, here, length-append earlier (x ∷ []))) in
    omega (arith, more, length-append earlier (x ∷ []))

below_most : (n : ℕ) → nat_le most_entries n ≡ false → n < 4096
below_most n h = grind (arith, nat_tests)

pub nodes_few : (s : Scene) → IsValidScene s → length s.nodes ≤ 4096
nodes_few s v = let all = few_entries (node_why s) (λ earlier n h. below_most (length earlier) (or_parts (nat_le most_entries (length earlier)) _ (or_parts _ _ (right_node s earlier n h).few).0).0) [] s.nodes (nodes_right s v) (omega arith) in omega (arith, all)

pub scenes_few : (s : Scene) → IsValidScene s → length s.scenes ≤ 4096
scenes_few s v = let all = few_entries scene_why (λ earlier d h. below_most (length earlier) (or_parts (nat_le most_entries (length earlier)) _ (or_parts _ _ (or_parts _ _ (right_def earlier d h).few).0).0).0) [] s.scenes (scenes_right s v) (omega arith) in omega (arith, all)

-- the place of a text that a call found
pub place_found : (t : List ℕ) (ts us : List (List ℕ)) (r : Option ℕ) → r ≡ position (text_eq t) us → us ≡ ts → r ≡ place_of t ts
place_found t ts us r p same = p ∙ ap (position (text_eq t)) same ∙ sym (place_is_position t ts)
