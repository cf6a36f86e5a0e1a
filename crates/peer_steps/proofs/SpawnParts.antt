-- A spawn is judged part after part.
use Rattle.std.proofs.Common.{◌≡◌, ℕ, suc, ◌+◌, ◌<◌, ◌≤◌, true, not, List, [], ◌∷◌, ◌++◌, refl, sym, ap, ap₂, ◌∙◌, subst, length, drop, get_or, Option, Some, None, is_some, arith, drop-cons}
use Rattle.std.specs.Prelude.{flat_map, option_and_then, is_none, nat_le, nat_lt, IfSome}
use Rattle.std.specs.List.{list_all}
use Rattle.std.proofs.lemmas.Bool.Decides.{nat_tests}
use Rattle.std.proofs.lemmas.Bool.{or_parts}
use Rattle.gd_variant.specs.Words.{some_is, when, first_of, first_some, text_eq}
use Rattle.scene_model.specs.declared.scene.Scene.{Scene}
use Rattle.scene_model.specs.declared.scene.Node.{Node}
use Rattle.scene_model.specs.declared.scene.SceneDef.{SceneDef}
use Rattle.scene_model.specs.declared.scene.SpawnerDef.{SpawnerDef}
use Rattle.scene_model.specs.declared.scene.CustomDef.{CustomDef}
use Rattle.scene_model.specs.declared.event.SpawnOp.{SpawnOp}
use Rattle.scene_model.specs.declared.outcome.Refusal.{Refusal}
use Rattle.scene_model.specs.declared.outcome.Refusal.TheVariants.{NoNode, NoSpawner, NotAuthority, NoScene, BadName, NameTaken, SpawnLimit, NodesFull, NetIdsFull, ValueTooLong}
use Rattle.scene_model.specs.Lookup.{spawner_at, spawner_of, fixed_node, scene_at, scene_place}
use Rattle.scene_model.specs.Paths.{is_name, joined}
use Rattle.scene_model.specs.Valid.{IsValidScene, node_why, scene_why}
use Rattle.peer_model.specs.Heard.{Who}
use Rattle.peer_model.specs.Rows.{spawned_path, spawned_scene, syncs_at}
use Rattle.peer_model.specs.Refusals.{most_rows, most_net_id, owns, may_make, setting_refusals, argument_fits}
use Rattle.headless_tree.specs.Nodes.{TreeOf}
use Rattle.headless_tree.proofs.Numbered.{all_at}
use Rattle.peer_model.specs.Updates.{Live, live_at}
use Rattle.peer_laws.proofs.Places.{all_found}
use Rattle.peer_laws.proofs.Scenes.{all_right, nodes_right, scenes_right, right_node, right_def}
use Rattle.peer_steps.specs.declared.rows.SpawnedRow.{SpawnedRow}
use Rattle.peer_steps.specs.declared.site.Site.{Site}
use Rattle.peer_steps.specs.Spawns.{is_at_limit, spawn_judged}
use Rattle.peer_steps.specs.Sites.{IsSite, under_in, scene_in, spawner_judged, name_judged, rest_judged, named_judged, props_at}

-- the first answer of two lists
pub first-append : {X : Type 0} (xs ys : List (Option X)) → first_of (xs ++ ys) ≡ first_some (first_of xs) (first_of ys)
first-append [] ys = refl
first-append (Some x ∷ xs) ys = refl
first-append (None ∷ xs) ys = first-append xs ys

-- the first answer of the elements from a place on
pub first_from : {X Y : Type 0} (f : X → List (Option Y)) (xs : List X) (i : ℕ) (x : X) → i < length xs → x ≡ get_or xs i x → first_of (flat_map f (drop i xs)) ≡ first_some (first_of (f x)) (first_of (flat_map f (drop (i + 1) xs)))
first_from f xs i x h e =
    ap (λ zs. first_of (flat_map f zs)) (drop-cons xs i x h ∙ ap₂ (λ y n. y ∷ drop n xs) (sym e) (one_more i))
    ∙ first-append (f x) (flat_map f (drop (i + 1) xs))
  where
    one_more : (k : ℕ) → suc k ≡ k + 1
    one_more k = omega arith

-- how many scenes a spawner lists, and how many synchronizers a scene has

few_listed : (s : Scene) → IsValidScene s → list_all (λ (n : Node). not (some_is (λ (d : SpawnerDef). nat_lt 255 (length d.scenes)) (spawner_of n))) s.nodes ≡ true
few_listed s v = all_right (node_why s) (λ (n : Node). not (some_is (λ (d : SpawnerDef). nat_lt 255 (length d.scenes)) (spawner_of n))) (λ earlier n h. ap not (right_node s earlier n h).few_scenes) [] s.nodes (nodes_right s v)

few_of : (o : Option SpawnerDef) → not (some_is (λ (d : SpawnerDef). nat_lt 255 (length d.scenes)) o) ≡ true → IfSome o (λ (d : SpawnerDef). length d.scenes ≤ 255)
few_of None h = tt
few_of (Some d) h = small (length d.scenes) h
  where
    small : (n : ℕ) → not (nat_lt 255 n) ≡ true → n ≤ 255
    small n h = grind (arith, nat_tests)

few_at : (s : Scene) → IsValidScene s → (o : Option Node) → (path : List ℕ) → fixed_node s path ≡ o → IfSome (option_and_then spawner_of o) (λ (d : SpawnerDef). length d.scenes ≤ 255)
few_at s v None path h = tt
few_at s v (Some n) path h = few_of (spawner_of n) (all_found (λ (m : Node). not (some_is (λ (d : SpawnerDef). nat_lt 255 (length d.scenes)) (spawner_of m))) (λ (m : Node). text_eq m.path path) s.nodes n (few_listed s v) h)

-- a spawner of a valid scene, as a call found it, lists at most 255 scenes
pub few_scenes : (s : Scene) → IsValidScene s → (path : List ℕ) (o : Option SpawnerDef) → o ≡ spawner_at s path → IfSome o (λ (d : SpawnerDef). length d.scenes ≤ 255)
few_scenes s v path o e = subst (λ p. IfSome p (λ (d : SpawnerDef). length d.scenes ≤ 255)) (sym e) (few_at s v (fixed_node s path) path refl)

few_synced : (s : Scene) → IsValidScene s → list_all (λ (d : SceneDef). not (nat_lt 8 (length d.syncs))) s.scenes ≡ true
few_synced s v = all_right scene_why (λ (d : SceneDef). not (nat_lt 8 (length d.syncs))) (λ earlier d h. ap not (or_parts _ (nat_lt 8 (length d.syncs)) (right_def earlier d h).few).1) [] s.scenes (scenes_right s v)

few_in : (s : Scene) → IsValidScene s → (i : ℕ) (o : Option SceneDef) → scene_at s i ≡ o → length (syncs_at s (Some i)) ≤ 8
few_in s v i None e = rw e (omega arith)
few_in s v i (Some d) e = rw e (small (length d.syncs) (all_at (λ (d : SceneDef). not (nat_lt 8 (length d.syncs))) s.scenes i d e (few_synced s v)))
  where
    small : (n : ℕ) → not (nat_lt 8 n) ≡ true → n ≤ 8
    small n h = grind (arith, nat_tests)

pub few_syncs : (s : Scene) → IsValidScene s → (place : Option ℕ) → length (syncs_at s place) ≤ 8
few_syncs s v None = omega arith
few_syncs s v (Some i) = few_in s v i (scene_at s i) refl

-- the whole

path_by : (who : Who) (o : SpawnOp) (d : Option SpawnerDef) → spawner_at who.scene o.spawner ≡ d → spawned_path who o ≡ joined (under_in d) o.name
path_by who o None e = rw e refl
path_by who o (Some d) e = rw e refl

pub path_of_spawn : (who : Who) (o : SpawnOp) → spawned_path who o ≡ joined (under_in (spawner_at who.scene o.spawner)) o.name
path_of_spawn who o = path_by who o (spawner_at who.scene o.spawner) refl

scene_by : (who : Who) (o : SpawnOp) (name : Option (List ℕ)) (d : Option SpawnerDef) → o.scene ≡ name → spawner_at who.scene o.spawner ≡ d → spawned_scene who o ≡ option_and_then (scene_place who.scene) (scene_in name d)
scene_by who o (Some name) d e f = rw e refl
scene_by who o None None e f = rw (e, f) refl
scene_by who o None (Some d) e f = custom_by d.custom refl
  where
    custom_by : (c : Option CustomDef) → d.custom ≡ c → spawned_scene who o ≡ option_and_then (scene_place who.scene) (scene_in None (Some d))
    custom_by None g = rw (e, f) (rw g refl)
    custom_by (Some c) g = rw (e, f) (rw g refl)

pub scene_of_spawn : (who : Who) (o : SpawnOp) → spawned_scene who o ≡ option_and_then (scene_place who.scene) (scene_in o.scene (spawner_at who.scene o.spawner))
scene_of_spawn who o = scene_by who o o.scene (spawner_at who.scene o.spawner) refl refl

-- the parts in order, with the path and the place in them
abbrev in_parts : Who → List Live → List SpawnedRow → ℕ → SpawnOp → List ℕ → Option ℕ → Option Refusal
in_parts who nodes rows next o path place = first_some (spawner_judged who nodes (spawner_at who.scene o.spawner) o)
    (first_some (name_judged nodes o.name path) (rest_judged who.scene rows next (spawner_at who.scene o.spawner) o place))

abbrev spawner_list : Who → List Live → Option SpawnerDef → SpawnOp → List (Option Refusal)
spawner_list who nodes d o =
    when (is_none (live_at nodes o.spawner)) NoNode
    ∷ when (is_none d) NoSpawner
    ∷ when (not (owns who (live_at nodes o.spawner))) NotAuthority
    ∷ when (not (some_is (may_make o) d)) NoScene
    ∷ []

abbrev name_list : List Live → List ℕ → List ℕ → List (Option Refusal)
name_list nodes name path = when (not (is_name name)) BadName ∷ when (is_some (live_at nodes path)) NameTaken ∷ []

abbrev room_list : List SpawnedRow → ℕ → List ℕ → Option SpawnerDef → ℕ → List (Option Refusal)
room_list rows next spawner d count =
    when (some_is (is_at_limit rows spawner) d) SpawnLimit
    ∷ when (nat_le most_rows (length rows)) NodesFull
    ∷ when (nat_lt most_net_id (next + count)) NetIdsFull
    ∷ []

four_lists : {X : Type 0} (ws bs cs ds es : List (Option X)) → first_of (ws ++ (bs ++ (cs ++ (ds ++ es)))) ≡ first_some (first_of ws) (first_some (first_of bs) (first_some (first_of cs) (first_some (first_of ds) (first_of es))))
four_lists ws bs cs ds es =
    first-append ws (bs ++ (cs ++ (ds ++ es)))
    ∙ ap (first_some (first_of ws)) (first-append bs (cs ++ (ds ++ es)) ∙ ap (first_some (first_of bs)) (first-append cs (ds ++ es) ∙ ap (first_some (first_of cs)) (first-append ds es)))

pub spawn_in_parts : (who : Who) (nodes : List Live) (rows : List SpawnedRow) (next : ℕ) (o : SpawnOp) → spawn_judged who nodes rows next o ≡ in_parts who nodes rows next o (spawned_path who o) (spawned_scene who o)
spawn_in_parts who nodes rows next o = four_lists
    (spawner_list who nodes (spawner_at who.scene o.spawner) o)
    (name_list nodes o.name (spawned_path who o))
    (room_list rows next o.spawner (spawner_at who.scene o.spawner) (length (syncs_at who.scene (spawned_scene who o))))
    (flat_map (setting_refusals (props_at who.scene (spawned_scene who o))) o.sets)
    (when (not (argument_fits o.arg)) ValueTooLong ∷ [])

-- the first part gives the reason
pub spawn_first : (who : Who) (nodes : List Live) (rows : List SpawnedRow) (next : ℕ) (o : SpawnOp) (d : Option SpawnerDef) (a : Option Refusal) (r : Refusal)
    → a ≡ Some r → a ≡ spawner_judged who nodes d o → d ≡ spawner_at who.scene o.spawner → Some r ≡ spawn_judged who nodes rows next o
spawn_first who nodes rows next o d a r is judged found = sym (spawn_in_parts who nodes rows next o ∙ ap (λ p. first_some p rest) (sym (ap (λ e. spawner_judged who nodes e o) found) ∙ sym judged ∙ is))
  where
    rest : Option Refusal
    rest = first_some (name_judged nodes o.name (spawned_path who o)) (rest_judged who.scene rows next (spawner_at who.scene o.spawner) o (spawned_scene who o))

-- the rest gives it
pub spawn_rest : (who : Who) (t : TreeOf) (rows : List SpawnedRow) (next : ℕ) (o : SpawnOp) (x : Site) (d : Option SpawnerDef) (a b : Option Refusal) → who.scene ≡ t.scene
    → a ≡ None → a ≡ spawner_judged who t.nodes d o → d ≡ spawner_at who.scene o.spawner → IsSite who.scene (spawner_at who.scene o.spawner) o x
    → b ≡ named_judged t rows next d o x → b ≡ spawn_judged who t.nodes rows next o
spawn_rest who t rows next o x d a b same is judged found site more = more
    ∙ ap (λ e. named_judged t rows next e o x) found
    ∙ ap (λ s. first_some (name_judged t.nodes o.name x.path) (rest_judged s rows next (spawner_at who.scene o.spawner) o x.place)) (sym same)
    ∙ ap₂ (λ p q. first_some (name_judged t.nodes o.name p) (rest_judged who.scene rows next (spawner_at who.scene o.spawner) o q)) (site.path ∙ sym (path_of_spawn who o)) (site.place ∙ sym (scene_of_spawn who o))
    ∙ sym (spawn_in_parts who t.nodes rows next o ∙ ap (λ p. first_some p (first_some (name_judged t.nodes o.name (spawned_path who o)) (rest_judged who.scene rows next (spawner_at who.scene o.spawner) o (spawned_scene who o)))) (sym (ap (λ e. spawner_judged who t.nodes e o) found) ∙ sym judged ∙ is))
