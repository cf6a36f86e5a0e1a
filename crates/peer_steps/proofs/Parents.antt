-- The parent below which a spawner spawns is a fixed node, so a spawned node has its place in the tree.
use Rattle.std.proofs.Common.{◌≡◌, ℕ, zero, suc, Bool, true, false, not, List, [], refl, sym, ap, ◌∙◌, Option, Some, None, is_some}
use Rattle.std.specs.Prelude.{option_map, option_and_then, is_none, slice_get}
use Rattle.std.specs.List.{list_all}
use Rattle.std.proofs.lemmas.Bool.{or_parts}
use Rattle.gd_variant.specs.Words.{text_eq, some_is, or_else}
use Rattle.scene_model.specs.declared.scene.Scene.{Scene}
use Rattle.scene_model.specs.declared.scene.Node.{Node}
use Rattle.scene_model.specs.declared.scene.SpawnerDef.{SpawnerDef}
use Rattle.scene_model.specs.declared.spawn.SpawnMsg.{SpawnMsg}
use Rattle.scene_model.specs.declared.event.SpawnOp.{SpawnOp}
use Rattle.scene_model.specs.Lookup.{fixed_node, spawner_at, spawner_of}
use Rattle.scene_model.specs.Paths.{joined}
use Rattle.scene_model.specs.Valid.{IsValidScene, node_why}
use Rattle.peer_model.specs.Heard.{Who}
use Rattle.peer_model.specs.Updates.{Live, live_at, spawner_with, scene_name_of, shown_path}
use Rattle.headless_tree.proofs.Numbered.{all_at}
use Rattle.peer_laws.proofs.Places.{all_found}
use Rattle.peer_laws.proofs.Scenes.{all_right, nodes_right, right_node}
use Rattle.peer_steps.specs.declared.making.Making.{Making}
use Rattle.peer_steps.specs.declared.site.Site.{Site}
use Rattle.peer_steps.specs.Arrivals.{IsMaking}
use Rattle.peer_steps.specs.Sites.{MaySpawn, under_in}
use Rattle.peer_steps.proofs.SpawnMade.{site_below}
use Rattle.peer_steps.proofs.Assigned.{none_from}

-- a spawner of a node spawns below a fixed one
abbrev has_parent : Scene → Node → Bool
has_parent s n = not (some_is (λ (d : SpawnerDef). is_none (fixed_node s d.under)) (spawner_of n))

have_parents : (s : Scene) → IsValidScene s → list_all (has_parent s) s.nodes ≡ true
have_parents s v = all_right (node_why s) (has_parent s) (λ earlier n h. ap not (or_parts (some_is (λ (d : SpawnerDef). is_none (fixed_node s d.under)) (spawner_of n)) _ (right_node s earlier n h).target).0) [] s.nodes (nodes_right s v)

some_there : {X : Type 0} (o : Option X) → not (is_none o) ≡ true → is_some o ≡ true
some_there None h = absurd (cc h)
some_there (Some x) h = refl

parent_by : (s : Scene) (o : Option SpawnerDef) (d : SpawnerDef) → o ≡ Some d → not (some_is (λ (e : SpawnerDef). is_none (fixed_node s e.under)) o) ≡ true → is_some (fixed_node s d.under) ≡ true
parent_by s None d e h = absurd (cc e)
parent_by s (Some c) d e h = let same : c ≡ d = cc in ap (λ (x : SpawnerDef). is_some (fixed_node s x.under)) (sym same) ∙ some_there (fixed_node s c.under) h

parent_at : (s : Scene) → IsValidScene s → (path : List ℕ) (o : Option Node) (d : SpawnerDef) → fixed_node s path ≡ o → option_and_then spawner_of o ≡ Some d → is_some (fixed_node s d.under) ≡ true
parent_at s v path None d h e = absurd (cc e)
parent_at s v path (Some n) d h e = parent_by s (spawner_of n) d e (all_found (has_parent s) (λ (m : Node). text_eq m.path path) s.nodes n (have_parents s v) h)

-- of a spawner by its path
pub parent_of : (s : Scene) → IsValidScene s → (path : List ℕ) (d : SpawnerDef) → spawner_at s path ≡ Some d → is_some (fixed_node s d.under) ≡ true
parent_of s v path d e = parent_at s v path (fixed_node s path) d refl e

parent_in : (s : Scene) → IsValidScene s → (i : ℕ) (o : Option Node) (d : SpawnerDef) → slice_get s.nodes i ≡ o → option_and_then spawner_of o ≡ Some d → is_some (fixed_node s d.under) ≡ true
parent_in s v i None d h e = absurd (cc e)
parent_in s v i (Some n) d h e = parent_by s (spawner_of n) d e (all_at (has_parent s) s.nodes i n h (have_parents s v))

-- of a spawner by its path id
pub parent_with : (s : Scene) → IsValidScene s → (id : ℕ) (d : SpawnerDef) → spawner_with s id ≡ Some d → is_some (fixed_node s d.under) ≡ true
parent_with s v zero d e = absurd (cc e)
parent_with s v (suc i) d e = parent_in s v i (slice_get s.nodes i) d refl e

-- the parent of what a received spawn makes
pub shown_parent : (s : Scene) → IsValidScene s → (m : SpawnMsg) (x : Making) → IsMaking s m x → is_none (option_and_then (λ (d : SpawnerDef). scene_name_of d m.scene) (spawner_with s m.spawner)) ≡ false → is_some (fixed_node s x.under) ≡ true
shown_parent s v m x h meant = ap (λ u. is_some (fixed_node s u)) h.under ∙ by (spawner_with s m.spawner) refl meant
  where
    by : (o : Option SpawnerDef) → spawner_with s m.spawner ≡ o → is_none (option_and_then (λ (d : SpawnerDef). scene_name_of d m.scene) o) ≡ false → is_some (fixed_node s (or_else (option_map (λ (d : SpawnerDef). d.under) o) [])) ≡ true
    by None e k = absurd (cc k)
    by (Some d) e k = parent_with s v m.spawner d e

-- the parent of what an operation makes
pub made_parent : (who : Who) (nodes : List Live) (next : ℕ) (o : SpawnOp) (x : Site) → MaySpawn who nodes next o x → is_some (fixed_node who.scene x.under) ≡ true
made_parent who nodes next o x m = ap (λ u. is_some (fixed_node who.scene u)) (m.site.under ∙ ap under_in m.welcome.found) ∙ parent_of who.scene m.valid o.spawner m.welcome.spawner m.welcome.found

-- and its path is free
pub made_free : (who : Who) (nodes : List Live) (next : ℕ) (o : SpawnOp) (x : Site) → MaySpawn who nodes next o x → live_at nodes (joined x.under o.name) ≡ None
made_free who nodes next o x m = ap (live_at nodes) (site_below who o x m.site) ∙ m.welcome.free

-- the path of what a received spawn makes is free
pub shown_free : (s : Scene) (nodes : List Live) (m : SpawnMsg) (x : Making) → IsMaking s m x → is_some (live_at nodes (shown_path s m)) ≡ false → live_at nodes (joined x.under m.name) ≡ None
shown_free s nodes m x h free = ap (λ u. live_at nodes (joined u m.name)) h.under ∙ none_from (live_at nodes (shown_path s m)) free
