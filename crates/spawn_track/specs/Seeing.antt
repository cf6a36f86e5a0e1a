-- The synchronizers of this peer that another may see, at one place after the other.
use Rattle.std.specs.Prelude.{ℕ, ℤ, Bool, true, List, [], ◌∷◌, length, nat_le, Option, Some, None}
use Rattle.gd_variant.specs.Words.{or_else}
use Rattle.scene_model.specs.declared.scene.Scene.{Scene}
use Rattle.scene_model.specs.declared.spawn.SyncRef.{SyncRef}
use Rattle.scene_model.specs.Lookup.{fixed_path_id}
use Rattle.scene_model.specs.Syncs.{sync_id}
use Rattle.sight_laws.specs.Sights.{Sight, RowSight}
use Rattle.peer_steps.specs.declared.rows.SpawnedRow.{SpawnedRow}
use Rattle.peer_steps.specs.Tellings.{row_seen}

-- whether a row has at most 8 ids
abbrev pub has_few_ids : SpawnedRow → Bool
has_few_ids r = nat_le (length r.ids) 8

-- the fixed synchronizer at a path, where there is a path
abbrev pub fixed_refs : Scene → Option (List ℕ) → List SyncRef
fixed_refs s None = []
fixed_refs s (Some path) = record { path = path; k = 0; id = sync_id (or_else (fixed_path_id s path) 0) } ∷ []

-- the synchronizer with an id of a row, where it is seen
abbrev pub ref_seen : List ℕ → ℕ → Option ℕ → Bool → List SyncRef
ref_seen path k (Some id) true = record { path = path; k = k; id = id } ∷ []
ref_seen path k id seen = []

-- who sees the synchronizers of a row
abbrev pub sights_in : Option RowSight → List Sight
sights_in None = []
sights_in (Some v) = v.syncs

-- the synchronizers of a row that a peer may see
abbrev pub row_refs : ℤ → SpawnedRow → Option RowSight → List SyncRef
row_refs b r v = row_seen b r.path 0 r.ids (sights_in v)
