use Rattle.std.proofs.Common.{rules}
use Rattle.std.proofs.lemmas.Fn.{always_returns_same}
use Rattle.headless_tree.specs.declared.node.NodeNow.{NodeNow}
use Rattle.headless_tree.specs.Nodes.{live, row_before}
use Rattle.headless_tree.proofs.Search.{parted, before_too, point_is_prefix}
use Rattle.headless_tree.proofs.tree.making.count_before.Goals as goal

pub returns-clause-count : goal.returns-clause-count
returns-clause-count c =
    let before = λ (m : NodeNow). row_before (live m) (live c.args.node.now) in
    point_is_prefix before c.args.nodes.now c.partition_point.result c.partition_point.ensures.bound
    (c.partition_point.ensures.partitioned before (always_returns_same _ _ _ (λ a r f k. search rules)) (parted (λ m. row_before m (live c.args.node.now)) (λ a b. before_too a b (live c.args.node.now)) c.args.nodes.now c.requires.order))
