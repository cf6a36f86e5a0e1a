use Rattle.std.proofs.Common.{sym, ap, ◌∙◌}
use Rattle.gd_variant.specs.Words.{some_is}
use Rattle.headless_tree.specs.Nodes.{is_at, is_spawned}
use Rattle.headless_tree.proofs.Places.{found_at}
use Rattle.headless_tree.proofs.Spots.{keeps_all, removes_one}
use Rattle.headless_tree.proofs.tree.Tree.remove.Goals as goal

pub remove_at-requires-clause-spawned : goal.remove_at-requires-clause-spawned
remove_at-requires-clause-spawned c = ap (some_is is_spawned) (found_at (is_at c.args.path.now) c.args.self.now.nodes c.in-Some.place c.in-Some.ensures.place) ∙ sym c.in-Some.ensures.answer

pub returns-in-Some-clause-nodes : goal.returns-in-Some-clause-nodes
returns-in-Some-clause-nodes c = c.remove_at.ensures ∙ removes_one c.args.self.now c.args.path.now c.in-Some.place (sym c.in-Some.ensures.answer) c.in-Some.ensures.place

pub returns-in-None-clause-nodes : goal.returns-in-None-clause-nodes
returns-in-None-clause-nodes c = keeps_all c.args.self.now c.args.path.now (sym c.in-None.ensures.answer)
