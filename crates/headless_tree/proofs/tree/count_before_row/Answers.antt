use Rattle.std.proofs.Common.{rules}
use Rattle.std.proofs.lemmas.Fn.{always_returns_same}
use Rattle.headless_tree.specs.declared.node.NodeNow.{NodeNow}
use Rattle.headless_tree.specs.Nodes.{live}
use Rattle.headless_tree.specs.Order.{is_before_row}
use Rattle.headless_tree.proofs.Search.{parted, point_is_prefix}
use Rattle.headless_tree.proofs.Apart.{row_before_too}
use Rattle.headless_tree.proofs.tree.count_before_row.Goals as goal

pub returns-clause-count : goal.returns-clause-count
returns-clause-count c =
    let before = λ (m : NodeNow). is_before_row c.args.auth.now c.args.num (live m) in
    point_is_prefix before c.args.nodes.now c.partition_point.result c.partition_point.ensures.bound
    (c.partition_point.ensures.partitioned before (always_returns_same _ _ _ (λ a r f k. search rules)) (parted (is_before_row c.args.auth.now c.args.num) (λ a b. row_before_too c.args.auth.now c.args.num a b) c.args.nodes.now c.requires.order))
