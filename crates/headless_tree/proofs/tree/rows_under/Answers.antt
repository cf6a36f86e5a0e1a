use Rattle.std.proofs.Common.{arith}
use Rattle.headless_tree.proofs.Rows.{rows_stand}
use Rattle.headless_tree.proofs.tree.rows_under.Goals as goal

pub returns-clause-within : goal.returns-clause-within
returns-clause-within c =
    let rows = rows_stand c.args.auth.now c.args.nodes.now c.count_ahead.result c.count_ahead_of_later.result c.requires.order c.count_ahead.ensures.count c.count_ahead_of_later.ensures.count in
    let many = rows.many in
    (omega (arith, many), c.count_ahead_of_later.ensures.within)

pub returns-clause-rows : goal.returns-clause-rows
returns-clause-rows c = (rows_stand c.args.auth.now c.args.nodes.now c.count_ahead.result c.count_ahead_of_later.result c.requires.order c.count_ahead.ensures.count c.count_ahead_of_later.ensures.count).left

pub returns-clause-count : goal.returns-clause-count
returns-clause-count c = (rows_stand c.args.auth.now c.args.nodes.now c.count_ahead.result c.count_ahead_of_later.result c.requires.order c.count_ahead.ensures.count c.count_ahead_of_later.ensures.count).many
