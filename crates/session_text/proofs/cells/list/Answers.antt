use Rattle.session_text.proofs.Told.{each_told}
use Rattle.session_text.proofs.cells.list.Goals as goal

pub returns : goal.returns
returns g c =
    each_told c.end_list.result c.args.line.now c.begin_list.new.line c.each.new.line c.end_list.new.line g.T.Cell.cell c.args.items.now c.in_ok-begin_list.ensures c.in_ok-each.ensures c.end_list.ensures
