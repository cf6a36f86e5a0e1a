-- A spawn's packet, and the node that it shows.
use Rattle.std.specs.Prelude.{Option, Some, None}
use Rattle.gd_variant.specs.declared.message.Plain.{Plain}
use Rattle.gd_variant.specs.declared.message.Plain.TheVariants.{Spawn}
use Rattle.scene_model.specs.declared.spawn.SpawnMsg.{SpawnMsg}

-- the packet that shows a node
abbrev pub spawn_packet : SpawnMsg → Plain
spawn_packet m = Spawn m.scene m.spawner m.net m.syncs m.name m.arg m.values

-- the node that a packet shows, where it is a spawn
abbrev pub spawn_of : Plain → Option SpawnMsg
spawn_of (Spawn scene spawner net syncs name arg values) =
    Some (record { scene = scene; spawner = spawner; net = net; syncs = syncs; name = name; arg = arg; values = values })
spawn_of p = None
