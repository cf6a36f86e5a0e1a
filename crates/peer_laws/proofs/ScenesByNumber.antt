-- Path ids and scene bytes name what they were made of.
use Rattle.std.proofs.Common.{◌≡◌, ℕ, suc, ◌+◌, ◌<◌, Bool, true, false, cond, not, ◌||◌, List, [], ◌∷◌, refl, sym, ap, ◌∙◌, length, map, Option, Some, None, nat_eq, nat_lt, arith}
use Rattle.std.specs.Prelude.{find, slice_get, option_map, option_and_then, if◌then◌else◌}
use Rattle.std.specs.List.{list_all}
use Rattle.std.proofs.lemmas.Bool.{ltb-false, eqb-true}
use Rattle.gd_variant.specs.Words.{text_eq, has_text, some_is, or_else, place_of}
use Rattle.scene_model.specs.declared.scene.Scene.{Scene}
use Rattle.scene_model.specs.declared.scene.Node.{Node}
use Rattle.scene_model.specs.declared.scene.SpawnerDef.{SpawnerDef}
use Rattle.scene_model.specs.declared.scene.CustomDef.{CustomDef}
use Rattle.scene_model.specs.Lookup.{fixed_node, fixed_node_at, fixed_path_id, spawner_of, spawner_at}
use Rattle.scene_model.specs.Valid.{IsValidScene, node_why}
use Rattle.peer_model.specs.Updates.{spawner_with, scene_name_of, custom_byte}
use Rattle.scene_model.proofs.TextLaws.{text_eq-sym, text_eq-true}
use Rattle.peer_laws.proofs.Places.{all_found}
use Rattle.peer_laws.proofs.Tests.{never}
use Rattle.headless_tree.proofs.Numbered.{unnot}
use Rattle.peer_laws.proofs.Scenes.{nodes_right, right_node, all_right}

-- where a text stands first
record IsPlaceOf (t : List ℕ) (ts : List (List ℕ)) : Type 0 where
  place : ℕ
  is : place_of t ts ≡ Some place
  there : slice_get ts place ≡ Some t
  within : place < length ts

next_place : (n : ℕ) → n + 1 ≡ suc n
next_place n = omega arith

placed_text : (t : List ℕ) (ts : List (List ℕ)) → has_text t ts ≡ true → IsPlaceOf t ts
placed_text t [] h = absurd (cc h)
placed_text t (x ∷ xs) h = step (text_eq t x) refl (placed_text t xs) h
  where
    step : (b : Bool) → text_eq t x ≡ b → (has_text t xs ≡ true → IsPlaceOf t xs) → (b || has_text t xs) ≡ true → IsPlaceOf t (x ∷ xs)
    step true e more k = record { place = 0; is = ap (λ b. cond b (Some 0) (option_map (λ n. n + 1) (place_of t xs))) e; there = ap Some (sym (text_eq-true t x e)); within = omega arith }
    step false e more k =
        let rest = more k in
        let last = rest.within in
        record {
          place = suc rest.place;
          is = ap (λ b. cond b (Some 0) (option_map (λ n. n + 1) (place_of t xs))) e ∙ ap (option_map (λ n. n + 1)) rest.is ∙ ap Some (next_place rest.place);
          there = rest.there;
          within = omega (arith, last);
        }

found_place : (path : List ℕ) (n : Node) (ns : List Node) → find (λ (m : Node). text_eq m.path path) ns ≡ Some n → (i : ℕ) × (place_of path (map (λ (m : Node). m.path) ns) ≡ Some i) × (slice_get ns i ≡ Some n)
found_place path n [] h = absurd (cc h)
found_place path n (m ∷ ms) h = step (text_eq m.path path) refl (found_place path n ms) h
  where
    paths : List (List ℕ)
    paths = map (λ (x : Node). x.path) ms

    step : (b : Bool) → text_eq m.path path ≡ b → (find (λ (x : Node). text_eq x.path path) ms ≡ Some n → (i : ℕ) × (place_of path paths ≡ Some i) × (slice_get ms i ≡ Some n))
        → cond b (Some m) (find (λ (x : Node). text_eq x.path path) ms) ≡ Some n → (i : ℕ) × (place_of path (m.path ∷ paths) ≡ Some i) × (slice_get (m ∷ ms) i ≡ Some n)
    step true e more k = (0, ap (λ b. cond b (Some 0) (option_map (λ j. j + 1) (place_of path paths))) (text_eq-sym path m.path ∙ e), k)
    step false e more k =
        let rest = more k in
        (suc rest.0, ap (λ b. cond b (Some 0) (option_map (λ j. j + 1) (place_of path paths))) (text_eq-sym path m.path ∙ e) ∙ ap (option_map (λ j. j + 1)) rest.1 ∙ ap Some (next_place rest.0), rest.2)

-- a fixed node is what its path's id names
pub node_of_id : (s : Scene) (path : List ℕ) (n : Node) → fixed_node s path ≡ Some n → fixed_node_at s (or_else (fixed_path_id s path) 0) ≡ Some n
node_of_id s path n h =
    let found = found_place path n s.nodes h in
    ap (λ o. fixed_node_at s (or_else (option_map (λ i. i + 1) o) 0)) found.1 ∙ ap (fixed_node_at s) (next_place found.0) ∙ found.2

-- a spawner is what its path's id names
pub spawner_of_id : (s : Scene) (path : List ℕ) (d : SpawnerDef) → spawner_at s path ≡ Some d → spawner_with s (or_else (fixed_path_id s path) 0) ≡ Some d
spawner_of_id s path d h = step (fixed_node s path) refl h
  where
    step : (o : Option Node) → fixed_node s path ≡ o → option_and_then spawner_of o ≡ Some d → spawner_with s (or_else (fixed_path_id s path) 0) ≡ Some d
    step None e k = absurd (cc k)
    step (Some n) e k = ap (option_and_then spawner_of) (node_of_id s path n e) ∙ k

-- whether a node is no spawner of more scenes than a byte has numbers for
abbrev pub few_listed : Node → Bool
few_listed n = not (some_is (λ (d : SpawnerDef). nat_lt 255 (length d.scenes)) (spawner_of n))

pub spawners_few : (s : Scene) → IsValidScene s → list_all few_listed s.nodes ≡ true
spawners_few s v = all_right (node_why s) few_listed (λ earlier n h. ap not (right_node s earlier n h).few_scenes) [] s.nodes (nodes_right s v)

-- a spawner lists at most 255 scenes
pub spawner_few : (s : Scene) → IsValidScene s → (path : List ℕ) (d : SpawnerDef) → spawner_at s path ≡ Some d → nat_lt 255 (length d.scenes) ≡ false
spawner_few s v path d h = step (fixed_node s path) refl h
  where
    step : (o : Option Node) → fixed_node s path ≡ o → option_and_then spawner_of o ≡ Some d → nat_lt 255 (length d.scenes) ≡ false
    step None e k = absurd (cc k)
    step (Some n) e k = sym (ap (some_is (λ (c : SpawnerDef). nat_lt 255 (length c.scenes))) k)
        ∙ unnot (some_is (λ (c : SpawnerDef). nat_lt 255 (length c.scenes)) (spawner_of n)) (all_found few_listed (λ (m : Node). text_eq m.path path) s.nodes n (spawners_few s v) e)

-- the scene byte of a listed scene means that scene
pub byte_of_scene : (s : Scene) → IsValidScene s → (path : List ℕ) (d : SpawnerDef) (name : List ℕ) → spawner_at s path ≡ Some d → has_text name d.scenes ≡ true → scene_name_of d (or_else (place_of name d.scenes) custom_byte) ≡ Some name
byte_of_scene s v path d name h k =
    let at = placed_text name d.scenes k in
    let low = at.within in
    let high = ltb-false 255 (length d.scenes) (spawner_few s v path d h) in
    let past : at.place ≡ 255 → ⊥ = λ e. omega (arith, low, high, e) in
    ap (λ o. scene_name_of d (or_else o custom_byte)) at.is
    ∙ ap (λ b. if b then option_map (λ (c : CustomDef). c.scene) d.custom else slice_get d.scenes at.place) (never (nat_eq at.place 255) (λ e. absurd (past (eqb-true at.place 255 e))))
    ∙ at.there
