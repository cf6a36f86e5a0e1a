use Rattle.std.specs.Option.{option_copied}
use Rattle.peer_steps.proofs.SpawnParts.{few_scenes}
use Rattle.spawn_track.proofs.spawning.site_of.Goals as goal

pub site_with-requires-clause-few : goal.site_with-requires-clause-few
site_with-requires-clause-few c = few_scenes c.args.tree.now.scene c.requires c.args.op.now.spawner (option_copied c.spawner_at-def.result) c.spawner_at-def.ensures
