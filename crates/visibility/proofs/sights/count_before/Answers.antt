use Rattle.std.proofs.Common.{nat_lt, rules}
use Rattle.std.proofs.lemmas.Fn.{always_returns_same}
use Rattle.headless_tree.proofs.Search.{point_is_prefix}
use Rattle.sight_laws.specs.Sights.{RowSight}
use Rattle.visibility.proofs.Rises.{rises_parted}
use Rattle.visibility.proofs.sights.count_before.Goals as goal

pub returns-clause-count : goal.returns-clause-count
returns-clause-count c =
    let before = λ (r : RowSight). nat_lt r.num c.args.num in
    point_is_prefix before c.args.rows.now c.partition_point.result c.partition_point.ensures.bound
    (c.partition_point.ensures.partitioned before (always_returns_same _ _ _ (λ a r f k. search rules)) (rises_parted (λ (r : RowSight). r.num) c.args.num c.args.rows.now c.requires))
