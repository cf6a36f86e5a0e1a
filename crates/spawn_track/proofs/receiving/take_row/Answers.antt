use Rattle.std.proofs.Common.{sym, ◌∙◌}
use Rattle.spawn_track.proofs.Steps.{hides_row, hides_none}
use Rattle.spawn_track.proofs.receiving.take_row.Goals as goal

pub returns-then-remove_row : goal.returns-then-remove_row
returns-then-remove_row c = hides_row c.args.from.now c.args.net c.args.tree.now c.remove_row.new.self (sym c.remove_row.ensures.answer ∙ c.if-remove_row.true) c.remove_row.ensures.nodes

pub returns-else-remove_row : goal.returns-else-remove_row
returns-else-remove_row c = hides_none c.args.from.now c.args.net c.args.tree.now c.remove_row.new.self (sym c.remove_row.ensures.answer ∙ c.if-remove_row.false) c.remove_row.ensures.nodes
