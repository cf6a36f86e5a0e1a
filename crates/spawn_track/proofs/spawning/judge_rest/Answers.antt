use Rattle.std.proofs.Common.{ap, length, arith}
use Rattle.peer_steps.proofs.SpawnParts.{few_syncs}
use Rattle.spawn_track.proofs.spawning.judge_rest.Goals as goal

pub judge_room-requires : goal.judge_room-requires
judge_room-requires c = let few = few_syncs c.args.scene.now c.requires c.args.place in let same = ap length c.syncs_at_place-count.ensures in omega (arith, few, same)
