use Rattle.std.proofs.Common.{◌≡◌, true, subst}
use Rattle.headless_tree.specs.Nodes.{TreeOf, KeepsFixed}
use Rattle.headless_tree.specs.Order.{are_in_order}
use Rattle.headless_tree.proofs.Fixed.{fixed_there}
use Rattle.headless_tree.proofs.tree.Tree.holds.Goals as goal

pub returns-clause-order : goal.returns-clause-order
returns-clause-order c = subst (λ (t : TreeOf). are_in_order t.nodes ≡ true) c.self.view_is c.self.invariant.3

pub returns-clause-fixed : goal.returns-clause-fixed
returns-clause-fixed c = subst (λ (t : TreeOf). KeepsFixed t.scene t.nodes) c.self.view_is c.self.invariant.4

pub returns-clause-there : goal.returns-clause-there
returns-clause-there c = fixed_there c.args.self.now _ c.self.view_is c.self.invariant.3 c.self.invariant.4
