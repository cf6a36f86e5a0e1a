use Rattle.std.proofs.Common.{refl}
use Rattle.std.specs.Option.{option_copied}
use Rattle.peer_steps.proofs.SpawnParts.{spawn_first, spawn_rest}
use Rattle.spawn_track.proofs.spawning.judge_spawn.Goals as goal

pub returns-in-Some : goal.returns-in-Some
returns-in-Some c = spawn_first (record { id = c.args.id.now; scene = c.args.tree.now.scene }) c.args.tree.now.nodes c.args.rows.now c.args.next c.args.op.now (option_copied c.spawner_at-def.result) c.judge_owned.result c.in-Some.refusal c.in-Some.is c.judge_owned.ensures c.spawner_at-def.ensures

pub returns-in-None : goal.returns-in-None
returns-in-None c = spawn_rest (record { id = c.args.id.now; scene = c.args.tree.now.scene }) c.args.tree.now c.args.rows.now c.args.next c.args.op.now c.args.site.now (option_copied c.spawner_at-def.result) c.judge_owned.result c.judge_named.result refl c.in-None.is c.judge_owned.ensures c.spawner_at-def.ensures c.requires.site c.judge_named.ensures
