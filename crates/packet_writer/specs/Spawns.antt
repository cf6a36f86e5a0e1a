-- The bytes of a spawn by the parts of its packet.
use Rattle.std.specs.Prelude.{ℕ, List, [], ◌++◌}
use Rattle.packet_writer.specs.declared.write_spawn.SpawnParts.{SpawnParts}
use Rattle.packet_form.specs.Written.{arg_bytes, written_values, spawn_bytes, FitsSpawn}

-- up to the end of the name
abbrev pub spawn_head : SpawnParts → List ℕ
spawn_head s = spawn_bytes s.scene s.spawner s.net s.syncs.now s.name.now []

-- the whole packet
abbrev pub spawn_whole : SpawnParts → List ℕ
spawn_whole s = spawn_bytes s.scene s.spawner s.net s.syncs.now s.name.now (arg_bytes s.arg.now ++ written_values s.values.now)

-- the numbers and the name fit
abbrev pub FitsSpawnParts : SpawnParts → Type 0
FitsSpawnParts s = FitsSpawn s.scene s.spawner s.net s.syncs.now s.name.now
