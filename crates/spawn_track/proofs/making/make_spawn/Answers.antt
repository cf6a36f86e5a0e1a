use Rattle.std.proofs.Common.{arith}
use Rattle.peer_steps.proofs.SpawnCalls.{made_next, made_small}
use Rattle.spawn_track.proofs.making.make_spawn.Goals as goal

pub overflow_cast-next : goal.overflow_cast-next
overflow_cast-next c = let small = made_small c.args.me.now c.args.tree.now.scene c.args.tree.now.nodes c.args.next.now c.len.result c.args.op.now c.args.site.now c.in_ok-row.row c.requires c.in_ok-row.ensures.row c.len.ensures in omega (arith, small)

pub overflow_add-next-2 : goal.overflow_add-next-2
overflow_add-next-2 c = let small = made_small c.args.me.now c.args.tree.now.scene c.args.tree.now.nodes c.args.next.now c.len.result c.args.op.now c.args.site.now c.in_ok-row.row c.requires c.in_ok-row.ensures.row c.len.ensures in omega (arith, small)

pub returns-clause-next : goal.returns-clause-next
returns-clause-next c = made_next c.args.me.now c.args.tree.now.scene c.args.next.now c.len.result c.args.op.now c.in_ok-row.row c.in_ok-row.ensures.row c.len.ensures
