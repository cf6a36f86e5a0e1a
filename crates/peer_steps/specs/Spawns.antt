-- Why a spawn is refused, and why a received one is a fault.
use Rattle.std.specs.Prelude.{ℕ, ◌+◌, ℤ, Bool, ◌&&◌, List, filter, length, Option, nat_lt, nat_le}
use Rattle.gd_variant.specs.Words.{text_eq, some_is}
use Rattle.scene_model.specs.declared.scene.Scene.{Scene}
use Rattle.scene_model.specs.declared.scene.SpawnerDef.{SpawnerDef}
use Rattle.scene_model.specs.declared.spawn.SpawnMsg.{SpawnMsg}
use Rattle.scene_model.specs.declared.event.SpawnOp.{SpawnOp}
use Rattle.scene_model.specs.declared.outcome.Refusal.{Refusal}
use Rattle.scene_model.specs.declared.outcome.Fault.{Fault}
use Rattle.scene_model.specs.Lookup.{spawner_at}
use Rattle.peer_model.specs.Heard.{Who}
use Rattle.peer_model.specs.Rows.{spawned_scene, syncs_at}
use Rattle.peer_model.specs.Updates.{Live, live_at}
use Rattle.peer_model.specs.Refusals.{spawn_refused}
use Rattle.peer_model.specs.Faults.{spawn_faulty}
use Rattle.peer_laws.specs.Facts.{rows_under}
use Rattle.peer_steps.specs.declared.rows.SpawnedRow.{SpawnedRow}

-- the rows of a spawner
abbrev pub rows_of_spawner : List ℕ → List SpawnedRow → List SpawnedRow
rows_of_spawner spawner rows = filter (λ (r : SpawnedRow). text_eq r.spawner spawner) rows

-- whether a spawner has as many rows as it may
abbrev pub is_at_limit : List SpawnedRow → List ℕ → SpawnerDef → Bool
is_at_limit rows spawner d = nat_lt 0 d.limit && nat_le d.limit (length (rows_of_spawner spawner rows))

-- why a spawn is refused
abbrev pub spawn_judged : Who → List Live → List SpawnedRow → ℕ → SpawnOp → Option Refusal
spawn_judged who nodes rows next o = spawn_refused who (live_at nodes) (some_is (is_at_limit rows o.spawner) (spawner_at who.scene o.spawner)) (length rows) (next + length (syncs_at who.scene (spawned_scene who o))) o

-- why a received spawn is a fault
abbrev pub shown_judged : Scene → List Live → ℤ → SpawnMsg → Option Fault
shown_judged s nodes c m = spawn_faulty s (live_at nodes) (rows_under c nodes) c m
