use Rattle.std.proofs.Common.{◌≡◌, ◌++◌, flat_map, take}
use Rattle.session_text.specs.Reports.{row_lines}
use Rattle.session_text.proofs.reports.push_rows.Given as goal

abbrev pub invariant-loop-row : goal.invariant-loop-row
invariant-loop-row l = l.out.items ≡ l.fn.out.items ++ flat_map (row_lines l.peer) (take l.row-index l.rows)
