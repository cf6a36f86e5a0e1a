use Rattle.peer_steps.proofs.SpawnCalls.{row_told, added_within, added_new, added_tree, made_is}
use Rattle.peer_steps.specs.Sites.{who_at}
use Rattle.peer_steps.proofs.Parents.{made_parent, made_free}
use Rattle.spawn_track.proofs.making.add_row.Goals as goal

pub put_node-requires-clause-scene : goal.put_node-requires-clause-scene
put_node-requires-clause-scene c = added_within c.args.id.now c.args.tree.now.scene c.args.tree.now.nodes c.args.num c.args.op.now c.args.site.now c.in_ok-row.row c.requires (row_told c.args.tree.now.scene c.scene.result.now c.args.num c.args.op.now c.args.site.now c.in_ok-row.row c.scene.ensures c.in_ok-row.ensures)

pub put_node-requires-clause-numbers : goal.put_node-requires-clause-numbers
put_node-requires-clause-numbers c = added_new c.args.id.now c.args.tree.now.scene c.args.tree.now.nodes c.args.num c.args.op.now c.args.site.now c.in_ok-row.row c.requires (row_told c.args.tree.now.scene c.scene.result.now c.args.num c.args.op.now c.args.site.now c.in_ok-row.row c.scene.ensures c.in_ok-row.ensures)

pub put_node-requires-clause-under : goal.put_node-requires-clause-under
put_node-requires-clause-under c = made_parent (who_at c.args.id.now c.args.tree.now.scene) c.args.tree.now.nodes c.args.num c.args.op.now c.args.site.now c.requires

pub put_node-requires-clause-free : goal.put_node-requires-clause-free
put_node-requires-clause-free c = made_free (who_at c.args.id.now c.args.tree.now.scene) c.args.tree.now.nodes c.args.num c.args.op.now c.args.site.now c.requires

pub returns-clause-row : goal.returns-clause-row
returns-clause-row c = made_is c.args.id.now c.args.tree.now.scene c.args.tree.now.nodes c.args.num c.args.op.now c.args.site.now c.in_ok-row.row c.requires (row_told c.args.tree.now.scene c.scene.result.now c.args.num c.args.op.now c.args.site.now c.in_ok-row.row c.scene.ensures c.in_ok-row.ensures)

pub put_own_argument-requires : goal.put_own_argument-requires
put_own_argument-requires c = c.requires.welcome.argument

pub returns-clause-tree : goal.returns-clause-tree
returns-clause-tree c = added_tree c.args.id.now c.args.tree.now c.put_node.new.tree c.put_own_argument.new.tree c.put_sets.new.tree c.args.num c.args.op.now c.args.site.now c.in_ok-row.row c.as_slice.result.now c.requires
    (row_told c.args.tree.now.scene c.scene.result.now c.args.num c.args.op.now c.args.site.now c.in_ok-row.row c.scene.ensures c.in_ok-row.ensures) c.in_ok-put_node.ensures.ok (c.in_ok-put_own_argument.ensures c.args.id.now) c.in_ok-put_sets.ensures c.as_slice.ensures
