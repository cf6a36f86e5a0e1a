use Rattle.std.proofs.Common.{ap, sym, ◌∙◌}
use Rattle.headless_tree.proofs.Apart.{row_spawned, row_any, row_none, row_gone, row_kept}
use Rattle.headless_tree.proofs.tree.Tree.remove_row.Goals as goal

pub remove_at-requires-clause-spawned : goal.remove_at-requires-clause-spawned
remove_at-requires-clause-spawned c = row_spawned c.args.auth.now c.args.num c.args.self.now.nodes c.in-Some.place c.in-Some.ensures

pub returns-in-Some-clause-answer : goal.returns-in-Some-clause-answer
returns-in-Some-clause-answer c = row_any c.args.auth.now c.args.num c.args.self.now.nodes c.in-Some.place c.in-Some.ensures

pub returns-in-Some-clause-nodes : goal.returns-in-Some-clause-nodes
returns-in-Some-clause-nodes c = c.remove_at.ensures ∙ row_gone c.args.auth.now c.args.num c.args.self.now c.in-Some.place c.holds.ensures.order c.in-Some.ensures

pub returns-in-None-clause-answer : goal.returns-in-None-clause-answer
returns-in-None-clause-answer c = row_none c.args.auth.now c.args.num c.args.self.now.nodes c.in-None.ensures

pub returns-in-None-clause-nodes : goal.returns-in-None-clause-nodes
returns-in-None-clause-nodes c = row_kept c.args.auth.now c.args.num c.args.self.now c.in-None.ensures
