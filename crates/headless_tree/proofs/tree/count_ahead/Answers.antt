use Rattle.std.proofs.Common.{rules}
use Rattle.std.proofs.lemmas.Fn.{always_returns_same}
use Rattle.headless_tree.specs.declared.node.NodeNow.{NodeNow}
use Rattle.headless_tree.specs.Nodes.{live}
use Rattle.headless_tree.specs.Order.{is_ahead_of}
use Rattle.headless_tree.proofs.Search.{parted, point_is_prefix}
use Rattle.headless_tree.proofs.Rows.{ahead_too}
use Rattle.headless_tree.proofs.tree.count_ahead.Goals as goal

pub returns-clause-count : goal.returns-clause-count
returns-clause-count c =
    let ahead = λ (m : NodeNow). is_ahead_of c.args.auth.now (live m) in
    point_is_prefix ahead c.args.nodes.now c.partition_point.result c.partition_point.ensures.bound
    (c.partition_point.ensures.partitioned ahead (always_returns_same _ _ _ (λ a r f k. search rules)) (parted (is_ahead_of c.args.auth.now) (λ a b. ahead_too c.args.auth.now a b) c.args.nodes.now c.requires.order))
