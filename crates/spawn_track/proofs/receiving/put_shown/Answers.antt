use Rattle.std.proofs.Common.{ap, ◌∙◌, length}
use Rattle.peer_steps.proofs.Admitted.{admitted, numbers_new, values_many, values_short}
use Rattle.peer_steps.proofs.Parents.{shown_parent, shown_free}
use Rattle.peer_steps.proofs.Putting.{spawn_put}
use Rattle.spawn_track.proofs.receiving.put_shown.Goals as goal

pub put_node-requires-clause-numbers : goal.put_node-requires-clause-numbers
put_node-requires-clause-numbers c = numbers_new c.args.from.now c.args.tree.now.nodes c.args.spawn.net c.args.spawn.syncs (admitted c.args.tree.now.scene c.args.tree.now.nodes c.args.from.now c.args.spawn c.requires.judged).fresh

pub put_node-requires-clause-under : goal.put_node-requires-clause-under
put_node-requires-clause-under c = shown_parent c.args.tree.now.scene c.requires.valid c.args.spawn c.args.making.now c.requires.making (admitted c.args.tree.now.scene c.args.tree.now.nodes c.args.from.now c.args.spawn c.requires.judged).meant

pub put_node-requires-clause-free : goal.put_node-requires-clause-free
put_node-requires-clause-free c = shown_free c.args.tree.now.scene c.args.tree.now.nodes c.args.spawn c.args.making.now c.requires.making (admitted c.args.tree.now.scene c.args.tree.now.nodes c.args.from.now c.args.spawn c.requires.judged).free

pub put_values-requires-clause-many : goal.put_values-requires-clause-many
put_values-requires-clause-many c = ap length (c.as_slice.ensures ∙ c.requires.making.props) ∙ values_many _ c.args.spawn (admitted c.args.tree.now.scene c.args.tree.now.nodes c.args.from.now c.args.spawn c.requires.judged).values

pub put_values-requires-clause-short : goal.put_values-requires-clause-short
put_values-requires-clause-short c = values_short _ c.args.spawn (admitted c.args.tree.now.scene c.args.tree.now.nodes c.args.from.now c.args.spawn c.requires.judged).values

pub returns-clause-ok : goal.returns-clause-ok
returns-clause-ok c = spawn_put c.args.tree.now c.put_node.new.tree c.put_argument.new.tree c.put_values.new.tree c.requires.valid c.args.from.now c.args.spawn c.args.making.now c.as_slice.result.now c.requires.making (admitted c.args.tree.now.scene c.args.tree.now.nodes c.args.from.now c.args.spawn c.requires.judged).free c.as_slice.ensures c.in_ok-put_node.ensures.ok c.put_argument.ensures c.put_values.ensures
