-- The rows of spawns of this peer.
use Rattle.std.specs.Prelude.{ℕ, ◌+◌}
use Rattle.gd_variant.specs.Words.{or_else}
use Rattle.scene_model.specs.declared.event.SpawnOp.{SpawnOp}
use Rattle.peer_model.specs.Heard.{Who}
use Rattle.peer_model.specs.Rows.{OwnRow, syncs_at, spawned_path, spawned_scene, count_from}
use Rattle.peer_model.specs.Changes.{scene_byte}
use Rattle.peer_steps.specs.declared.rows.SpawnedRow.{SpawnedRow}

-- the row that a spawn makes
abbrev pub row_of_spawn : Who → ℕ → SpawnOp → OwnRow
row_of_spawn who next o = record {
  num = next;
  ids = count_from (next + 1) (syncs_at who.scene (spawned_scene who o));
  path = spawned_path who o;
  place = or_else (spawned_scene who o) 0;
  made_by = o;
}

-- what is kept of an own row beside its node
abbrev pub kept_row : Who → OwnRow → SpawnedRow
kept_row who r = record { num = r.num; ids = r.ids; path = r.path; place = r.place; spawner = r.made_by.spawner; byte = scene_byte who r; name = r.made_by.name; arg = r.made_by.arg }
