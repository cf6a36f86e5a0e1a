-- What each peer was told of on-change properties: what links, spawns, despawns, settings of visibility and frames make of it.
use Rattle.std.specs.Prelude.{ℕ, ◌+◌, ℤ, List, [], ◌∷◌, ◌++◌, map, filter, Option, Some, None, option_map, option_and_then, if◌then◌else◌}
use Rattle.gd_variant.specs.Words.{or_else, some_is, first_some, has_text, text_eq, has_int}
use Rattle.gd_variant.specs.declared.value.Variant.{Variant}
use Rattle.gd_variant.specs.declared.value.Variant.TheVariants.{Nil}
use Rattle.gd_variant.specs.declared.message.DeltaEntry.{DeltaEntry}
use Rattle.scene_model.specs.declared.scene.Scene.{Scene}
use Rattle.scene_model.specs.declared.scene.CustomDef.{CustomDef}
use Rattle.scene_model.specs.declared.scene.SpawnerDef.{SpawnerDef}
use Rattle.scene_model.specs.declared.spawn.SyncRef.{SyncRef}
use Rattle.scene_model.specs.Lookup.{fixed_path_id, spawner_at, scene_at, value_in}
use Rattle.scene_model.specs.Nodes.{Live, props_in}
use Rattle.scene_model.specs.Syncs.{Syncer, change_props, fixed_syncers, row_syncers, sync_id}
use Rattle.peer_model.specs.Heard.{Who}
use Rattle.peer_model.specs.Rows.{syncs_at}
use Rattle.peer_model.specs.Values.{default_value}
use Rattle.peer_model.specs.Updates.{all_spawn_props}
use Rattle.headless_tree.specs.Nodes.{value_at}
use Rattle.delta_props.specs.Telling.{ToldValues, collected}
use Rattle.telling_laws.specs.Telling.{told_all, told_none, told_shift, over_peers}
use Rattle.sight_laws.specs.Sights.{Sight, RowSight, FixedSight, is_visible}
use Rattle.peer_steps.specs.declared.rows.SpawnedRow.{SpawnedRow}
use Rattle.peer_steps.specs.Track.{Track, row_with}

-- the values that a peer has at first

-- of a fixed synchronizer: the defaults
abbrev pub first_told : Who → Syncer → List Variant
first_told who y = map (default_value who y.node) (change_props y.def)

-- the property that takes the argument of a spawner's custom spawn
abbrev pub argument_of : Scene → List ℕ → Option (List ℕ)
argument_of s spawner = option_map (λ (c : CustomDef). c.prop) (option_and_then (λ (d : SpawnerDef). d.custom) (spawner_at s spawner))

-- an own row's argument, for the property that takes it
abbrev pub argument_for : Scene → SpawnedRow → List ℕ → Option Variant
argument_for s r p = if some_is (text_eq p) (argument_of s r.spawner) then r.arg else None

-- of a property of an own row that is shown: the present value of one that goes out with a spawn, else the argument, else the scene's
abbrev pub shown_value : Scene → List Live → SpawnedRow → List ℕ → Variant
shown_value s nodes r p =
    if has_text p (all_spawn_props (syncs_at s (Some r.place))) then or_else (value_at nodes r.path p) Nil
    else or_else (first_some (argument_for s r p) (value_in (props_in (scene_at s r.place)) p)) Nil

-- of a synchronizer of an own row that is shown
abbrev pub shown_told : Scene → List Live → SpawnedRow → Syncer → List Variant
shown_told s nodes r y = map (shown_value s nodes r) (change_props y.def)

-- synchronizers come and go

-- the synchronizers of an own row
abbrev pub syncers_in : Scene → SpawnedRow → List Syncer
syncers_in s r = row_syncers r.path r.ids (syncs_at s (Some r.place))

-- an own row is shown to a peer
abbrev pub row_shown : Scene → List Live → SpawnedRow → ℤ → ToldValues → ToldValues
row_shown s nodes r b t = told_all b (shown_told s nodes r) (syncers_in s r) t

-- own rows are shown to a peer
abbrev pub rows_shown : Scene → List Live → ℤ → List SpawnedRow → ToldValues → ToldValues
rows_shown s nodes b [] t = t
rows_shown s nodes b (r ∷ rs) t = rows_shown s nodes b rs (row_shown s nodes r b t)

-- an own row is shown to peers
abbrev pub shown_to_all : Scene → List Live → SpawnedRow → List ℤ → ToldValues → ToldValues
shown_to_all s nodes r bs t = over_peers (row_shown s nodes r) bs t

-- an own row with these ids is hidden from peers
abbrev pub hidden_from_all : List ℕ → List ℤ → ToldValues → ToldValues
hidden_from_all ids bs t = over_peers (λ b. told_none b ids) bs t

-- links

-- a new peer has the defaults of the fixed synchronizers, and the values of the rows that are shown to it
abbrev pub told_up : Who → List Live → ℤ → List SpawnedRow → ToldValues → ToldValues
told_up who nodes b seen t = rows_shown who.scene nodes b seen (told_all b (first_told who) (fixed_syncers who.scene who.id) t)

-- settings

-- an own row is shown to some peers before and to some then, among those that are up
abbrev pub told_shifts : Scene → List Live → SpawnedRow → List ℤ → List ℤ → List ℤ → ToldValues → ToldValues
told_shifts s nodes r before after up t = over_peers (λ b. told_shift b (shown_told s nodes r) (syncers_in s r) r.ids (has_int b before) (has_int b after)) up t

-- the ids of the own row with a number
abbrev pub ids_with : ℕ → List SpawnedRow → List ℕ
ids_with num rows = or_else (option_map (λ (r : SpawnedRow). r.ids) (row_with num rows)) []

-- frames

-- a fixed synchronizer of this peer, by its path
abbrev pub fixed_ref : Scene → FixedSight → SyncRef
fixed_ref s x = record { path = x.path; k = 0; id = sync_id (or_else (fixed_path_id s x.path) 0) }

-- the fixed synchronizers that a peer may see
abbrev pub fixed_seen : ℤ → Scene → List FixedSight → List SyncRef
fixed_seen b s xs = map (fixed_ref s) (filter (λ (x : FixedSight). is_visible x.sight b) xs)

-- the synchronizers of a row that a peer may see, the places counted on from a number
abbrev pub row_seen : ℤ → List ℕ → ℕ → List ℕ → List Sight → List SyncRef
row_seen b path k [] vs = []
row_seen b path k (id ∷ ids) [] = []
row_seen b path k (id ∷ ids) (v ∷ vs) = if is_visible v b then record { path = path; k = k; id = id } ∷ row_seen b path (k + 1) ids vs else row_seen b path (k + 1) ids vs

-- those of all rows
abbrev pub rows_seen : ℤ → List SpawnedRow → List RowSight → List SyncRef
rows_seen b [] vs = []
rows_seen b (r ∷ rs) [] = []
rows_seen b (r ∷ rs) (v ∷ vs) = row_seen b r.path 0 r.ids v.syncs ++ rows_seen b rs vs

-- the synchronizers of this peer that another may see, in order
abbrev pub syncs_seen : ℤ → Scene → Track → List SyncRef
syncs_seen b s t = fixed_seen b s t.sights.fixed ++ rows_seen b t.rows t.sights.rows

-- what a frame tells a peer, and what counts as told then
abbrev pub frame_to : Scene → List Live → Track → ℤ → ToldValues → List DeltaEntry × ToldValues
frame_to s nodes t b told = collected b s nodes (syncs_seen b s t) told
