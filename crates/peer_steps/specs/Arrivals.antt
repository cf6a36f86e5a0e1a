-- The parts of why a received spawn is a fault, and what it makes here.
use Rattle.std.specs.Prelude.{◌≡◌, ℕ, ◌<◌, ℤ, not, List, [], ◌∷◌, find, length, Option, Some, is_some, is_none, option_map, option_and_then, nat_le}
use Rattle.gd_variant.specs.Words.{when, first_of, first_some, or_else}
use Rattle.gd_variant.specs.declared.value.Variant.{Variant}
use Rattle.scene_model.specs.declared.scene.Scene.{Scene}
use Rattle.scene_model.specs.declared.scene.SyncDef.{SyncDef}
use Rattle.scene_model.specs.declared.scene.SpawnerDef.{SpawnerDef}
use Rattle.scene_model.specs.declared.spawn.SpawnMsg.{SpawnMsg}
use Rattle.scene_model.specs.declared.outcome.Fault.{Fault}
use Rattle.scene_model.specs.declared.outcome.Fault.TheVariants as fault
use Rattle.scene_model.specs.Lookup.{fixed_node_at}
use Rattle.scene_model.specs.Paths.{is_name}
use Rattle.peer_model.specs.Rows.{syncs_at}
use Rattle.peer_model.specs.Updates.{Live, live_at, spawner_with, scene_name_of, shown_place, shown_path, custom_prop, shown_spawn_props}
use Rattle.peer_model.specs.Refusals.{most_rows}
use Rattle.peer_model.specs.Faults.{auth_is, bad_id, known_ids, first_known, wrong_spawn}
use Rattle.headless_tree.specs.Nodes.{assigned}
use Rattle.peer_laws.specs.Facts.{rows_under}
use Rattle.peer_steps.specs.declared.making.Making.{Making}

-- no spawner of the sender that makes such a scene
abbrev pub meaning_judged : Scene → ℤ → SpawnMsg → Option Fault
meaning_judged s c m = first_of (
    when (is_none (fixed_node_at s m.spawner)) (fault.NoName m.spawner)
    ∷ when (is_none (spawner_with s m.spawner)) fault.NoSpawner
    ∷ when (not (auth_is c (fixed_node_at s m.spawner))) fault.NotAuthority
    ∷ when (is_none (option_and_then (λ (d : SpawnerDef). scene_name_of d m.scene) (spawner_with s m.spawner))) fault.NoScene
    ∷ [])

-- a number that no row has, or one that is known
abbrev pub ids_judged : List Live → ℤ → SpawnMsg → Option Fault
ids_judged nodes c m = first_of (
    option_map fault.IdRange (find bad_id (m.net ∷ m.syncs))
    ∷ option_map fault.KnownNet (first_known (known_ids (rows_under c nodes)) (m.net ∷ m.syncs))
    ∷ [])

-- no place for the node, beside as many rows of the sender, or other values than its scene has
abbrev pub place_judged : List Live → ℕ → List ℕ → List SyncDef → SpawnMsg → Option Fault
place_judged nodes count path defs m = first_of (
    when (not (is_name m.name)) fault.BadName
    ∷ when (is_some (live_at nodes path)) fault.NameTaken
    ∷ when (nat_le most_rows count) fault.NodesFull
    ∷ when (wrong_spawn defs m) fault.WrongValues
    ∷ [])

-- what a spawn makes: below its spawner's parent, of the scene that it means, with these properties
pub record IsMaking (s : Scene) (m : SpawnMsg) (x : Making) : Type 0 where
  pub under : x.under ≡ or_else (option_map (λ (d : SpawnerDef). d.under) (spawner_with s m.spawner)) []
  pub path : x.path ≡ shown_path s m
  pub place : shown_place s m ≡ Some x.place
  pub within : x.place < length s.scenes
  pub props : x.props ≡ shown_spawn_props s m
  pub argument : x.argument ≡ custom_prop s m.spawner

-- nodes after assignments in order to the one at a path
abbrev pub assigned_all : List ℕ → List (List ℕ × Variant) → List Live → List Live
assigned_all path [] nodes = nodes
assigned_all path (a ∷ more) nodes = assigned_all path more (assigned path a.0 a.1 nodes)

-- nodes after an argument is assigned to the property that takes it
abbrev pub argument_assigned : List ℕ → Option (List ℕ) → Option Variant → List Live → List Live
argument_assigned path (Some name) (Some value) nodes = assigned path name value nodes
argument_assigned path name arg nodes = nodes

-- why a received spawn is a fault, beside as many rows of its sender
abbrev pub judged_beside : Scene → List Live → ℕ → ℤ → SpawnMsg → Option Fault
judged_beside s nodes count c m = first_some (meaning_judged s c m) (first_some (ids_judged nodes c m) (place_judged nodes count (shown_path s m) (syncs_at s (shown_place s m)) m))
