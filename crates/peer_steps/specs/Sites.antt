-- Where a spawn puts its node, and the parts of why it is refused.
use Rattle.std.specs.Prelude.{◌≡◌, ℕ, ◌+◌, ◌<◌, ◌≤◌, ℤ, Bool, true, not, IfSome, List, [], ◌∷◌, flat_map, length, Option, Some, None, is_some, is_none, option_map, option_and_then, nat_lt, nat_le, fold}
use Rattle.std.specs.List.{list_all}
use Rattle.gd_variant.specs.Words.{some_is, or_else, when, first_of, first_some, place_of, put_by}
use Rattle.gd_variant.specs.declared.value.Variant.{Variant}
use Rattle.scene_model.specs.declared.scene.Prop.{Prop}
use Rattle.scene_model.specs.declared.scene.SpawnerDef.{SpawnerDef}
use Rattle.scene_model.specs.declared.scene.CustomDef.{CustomDef}
use Rattle.scene_model.specs.declared.scene.Scene.{Scene}
use Rattle.scene_model.specs.declared.event.SpawnOp.{SpawnOp}
use Rattle.scene_model.specs.declared.outcome.Refusal.{Refusal}
use Rattle.scene_model.specs.declared.outcome.Refusal.TheVariants.{NoNode, NoSpawner, NotAuthority, NoScene, BadName, NameTaken, SpawnLimit, NodesFull, NetIdsFull, ValueTooLong}
use Rattle.scene_model.specs.Paths.{is_name, joined}
use Rattle.scene_model.specs.Lookup.{spawner_at, scene_at, scene_place}
use Rattle.scene_model.specs.Valid.{IsValidScene}
use Rattle.peer_model.specs.Heard.{Who}
use Rattle.peer_model.specs.Rows.{spawned_path, spawned_scene, syncs_at, count_from}
use Rattle.peer_model.specs.View.{fits}
use Rattle.peer_model.specs.Values.{props_in}
use Rattle.peer_model.specs.Updates.{Live, live_at, custom_byte}
use Rattle.peer_model.specs.Refusals.{most_rows, most_net_id, owns, may_make, setting_refusals, argument_fits}
use Rattle.headless_tree.specs.Nodes.{TreeOf, assigned, row_before}
use Rattle.peer_laws.specs.Shown.{spawned_live}
use Rattle.peer_steps.specs.Rows.{kept_row, row_of_spawn}
use Rattle.peer_steps.specs.declared.rows.SpawnedRow.{SpawnedRow}
use Rattle.peer_steps.specs.declared.site.Site.{Site}
use Rattle.peer_steps.specs.Spawns.{is_at_limit}
use Rattle.peer_steps.specs.Rights.{has_right_values, are_right, is_before, is_right_argument}
use Rattle.peer_steps.specs.Arguments.{is_right_spawn}

-- the place of a scene's name in a spawner's list
abbrev pub byte_in : Option (List ℕ) → Option SpawnerDef → ℕ
byte_in None d = custom_byte
byte_in (Some name) d = or_else (option_and_then (λ (e : SpawnerDef). place_of name e.scenes) d) custom_byte

-- the path below which a spawner spawns
abbrev pub under_in : Option SpawnerDef → List ℕ
under_in None = []
under_in (Some d) = d.under

-- the scene's name that a spawn means: its own, or the one of the spawner's custom spawn
abbrev pub scene_in : Option (List ℕ) → Option SpawnerDef → Option (List ℕ)
scene_in (Some name) d = Some name
scene_in None d = option_map (λ (c : CustomDef). c.scene) (option_and_then (λ (e : SpawnerDef). e.custom) d)

-- where a spawn puts its node, by its spawner
pub record IsSite (s : Scene) (d : Option SpawnerDef) (o : SpawnOp) (x : Site) : Type 0 where
  pub under : x.under ≡ under_in d
  pub path : x.path ≡ joined (under_in d) o.name
  pub place : x.place ≡ option_and_then (scene_place s) (scene_in o.scene d)
  pub byte : x.byte ≡ byte_in o.scene d

-- why a spawner makes no such node
abbrev pub spawner_judged : Who → List Live → Option SpawnerDef → SpawnOp → Option Refusal
spawner_judged who nodes d o = first_of (
    when (is_none (live_at nodes o.spawner)) NoNode
    ∷ when (is_none d) NoSpawner
    ∷ when (not (owns who (live_at nodes o.spawner))) NotAuthority
    ∷ when (not (some_is (may_make o) d)) NoScene
    ∷ [])

-- why a name is none for a node at a path
abbrev pub name_judged : List Live → List ℕ → List ℕ → Option Refusal
name_judged nodes name path = first_of (when (not (is_name name)) BadName ∷ when (is_some (live_at nodes path)) NameTaken ∷ [])

-- why there is no room for another row of a spawner, with as many synchronizers
abbrev pub room_judged : List SpawnedRow → ℕ → List ℕ → Option SpawnerDef → ℕ → Option Refusal
room_judged rows next spawner d count = first_of (
    when (some_is (is_at_limit rows spawner) d) SpawnLimit
    ∷ when (nat_le most_rows (length rows)) NodesFull
    ∷ when (nat_lt most_net_id (next + count)) NetIdsFull
    ∷ [])

-- why settings aren't made
abbrev pub sets_judged : List Prop → List Prop → Option Refusal
sets_judged props sets = first_of (flat_map (setting_refusals props) sets)

-- why an argument isn't taken
abbrev pub argument_judged : Option Variant → Option Refusal
argument_judged arg = first_of (when (not (argument_fits arg)) ValueTooLong ∷ [])

-- the properties of the scene at a place
abbrev pub props_at : Scene → Option ℕ → List Prop
props_at s place = props_in (option_and_then (scene_at s) place)

-- why the values of a spawn aren't taken
abbrev pub values_judged : Scene → Option ℕ → SpawnOp → Option Refusal
values_judged s place o = first_some (sets_judged (props_at s place) o.sets) (argument_judged o.arg)

-- why there is no room, or the values aren't taken
abbrev pub rest_judged : Scene → List SpawnedRow → ℕ → Option SpawnerDef → SpawnOp → Option ℕ → Option Refusal
rest_judged s rows next d o place = first_some (room_judged rows next o.spawner d (length (syncs_at s place))) (values_judged s place o)

-- the same after the name
abbrev pub named_judged : TreeOf → List SpawnedRow → ℕ → Option SpawnerDef → SpawnOp → Site → Option Refusal
named_judged t rows next d o x = first_some (name_judged t.nodes o.name x.path) (rest_judged t.scene rows next d o x.place)

-- the nodes after a setting of the one at a path
abbrev pub with_setting : List ℕ → List Live → Prop → List Live
with_setting path nodes p = assigned path p.name p.value nodes

-- the nodes after settings in order
abbrev pub with_settings : List ℕ → List Prop → List Live → List Live
with_settings path sets nodes = fold (with_setting path) nodes sets

-- the row of a spawn with this number
abbrev pub site_row : Scene → ℕ → SpawnOp → Site → SpawnedRow
site_row s num o x = record {
  num = num;
  ids = count_from (num + 1) (syncs_at s x.place);
  path = x.path;
  place = or_else x.place 0;
  spawner = o.spawner;
  byte = x.byte;
  name = o.name;
  arg = o.arg;
}

-- whether a node may have a property's value
abbrev pub has_short : Prop → Bool
has_short p = fits p.value

-- what is known of a spawn that isn't refused
pub record IsWelcome (who : Who) (nodes : List Live) (next : ℕ) (o : SpawnOp) : Type 0 where
  pub spawner : SpawnerDef
  pub found : spawner_at who.scene o.spawner ≡ Some spawner
  pub makes : may_make o spawner ≡ true
  pub name : is_name o.name ≡ true
  pub free : live_at nodes (spawned_path who o) ≡ None
  pub room : next + length (syncs_at who.scene (spawned_scene who o)) ≤ 2147483647
  pub short : list_all has_short o.sets ≡ true
  pub argument : argument_fits o.arg ≡ true

-- a spawn that can be made among nodes that are right
pub record MaySpawn (who : Who) (nodes : List Live) (next : ℕ) (o : SpawnOp) (x : Site) : Type 0 where
  pub valid : IsValidScene who.scene
  pub values : list_all has_right_values nodes ≡ true
  pub before : list_all (is_before who.id next) nodes ≡ true
  pub built : is_right_spawn o ≡ true
  pub sets : are_right o.sets ≡ true
  pub argument : is_right_argument o.arg ≡ true
  pub site : IsSite who.scene (spawner_at who.scene o.spawner) o x
  pub within : IfSome x.place (λ i. i < length who.scene.scenes)
  pub welcome : IsWelcome who nodes next o

-- a peer by its number and its scene
abbrev pub who_at : ℤ → Scene → Who
who_at id s = record { id = id; scene = s }

-- the row that a spawn makes there
abbrev pub own_made : ℤ → Scene → ℕ → SpawnOp → SpawnedRow
own_made id s next o = kept_row (who_at id s) (row_of_spawn (who_at id s) next o)

-- the nodes with the one that it makes
abbrev pub with_made : ℤ → Scene → ℕ → SpawnOp → List Live → List Live
with_made id s next o nodes = put_by row_before (spawned_live (who_at id s) (row_of_spawn (who_at id s) next o)) nodes

-- the next number after it
abbrev pub after_made : ℤ → Scene → ℕ → SpawnOp → ℕ
after_made id s next o = next + 1 + length (syncs_at s (spawned_scene (who_at id s) o))
