use Rattle.std.proofs.Common.{◌≡◌, ◌++◌, flat_map, take}
use Rattle.session_text.specs.Outcomes.{raw_line}
use Rattle.session_text.proofs.outcomes.push_raws.Given as goal

abbrev pub invariant-loop-raw : goal.invariant-loop-raw
invariant-loop-raw l = l.out.items ≡ l.fn.out.items ++ flat_map (raw_line l.peer) (take l.raw-index l.raws)
