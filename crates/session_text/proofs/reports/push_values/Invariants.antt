use Rattle.std.proofs.Common.{◌≡◌, ◌++◌, flat_map, take}
use Rattle.session_text.specs.Reports.{value_line}
use Rattle.session_text.proofs.reports.push_values.Given as goal

abbrev pub invariant-loop-prop : goal.invariant-loop-prop
invariant-loop-prop l = l.out.items ≡ l.fn.out.items ++ flat_map (value_line l.peer l.path) (take l.prop-index l.props)
