use Rattle.std.proofs.Common.{sym, ap}
use Rattle.headless_tree.specs.Nodes.{TreeOf}
use Rattle.headless_tree.proofs.Apart.{row_there, row_missing, row_past}
use Rattle.headless_tree.proofs.tree.Tree.place_with.Goals as goal

pub returns-then-is_row_with_num : goal.returns-then-is_row_with_num
returns-then-is_row_with_num c = row_there c.args.auth.now c.args.num c.self.inside.nodes.items c.as_slice.result.now c.as_slice-2.result.now c.args.self.now.nodes c.count_before_row-place.result c.in-Some.node.now
    c.as_slice.ensures.value c.as_slice-2.ensures.value (ap (λ (t : TreeOf). t.nodes) c.self.view_is) c.self.invariant.3 c.count_before_row-place.ensures.count c.in-Some.ensures (sym c.if-is_row_with_num.ensures)

pub returns-else-is_row_with_num : goal.returns-else-is_row_with_num
returns-else-is_row_with_num c = row_missing c.args.auth.now c.args.num c.self.inside.nodes.items c.as_slice.result.now c.as_slice-2.result.now c.args.self.now.nodes c.count_before_row-place.result c.in-Some.node.now
    c.as_slice.ensures.value c.as_slice-2.ensures.value (ap (λ (t : TreeOf). t.nodes) c.self.view_is) c.self.invariant.3 c.count_before_row-place.ensures.count c.in-Some.ensures (sym c.if-is_row_with_num.ensures)

pub returns-in-None : goal.returns-in-None
returns-in-None c = row_past c.args.auth.now c.args.num c.self.inside.nodes.items c.as_slice.result.now c.as_slice-2.result.now c.args.self.now.nodes c.count_before_row-place.result
    c.as_slice.ensures.value c.as_slice-2.ensures.value (ap (λ (t : TreeOf). t.nodes) c.self.view_is) c.self.invariant.3 c.count_before_row-place.ensures.count c.in-None.ensures
