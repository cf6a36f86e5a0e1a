use Rattle.std.proofs.Common.{◌≡◌, ◌++◌, flat_map, take}
use Rattle.session_text.specs.Outcomes.{skip_line}
use Rattle.session_text.proofs.outcomes.push_skips.Given as goal

abbrev pub invariant-loop-skip : goal.invariant-loop-skip
invariant-loop-skip l = l.out.items ≡ l.fn.out.items ++ flat_map (skip_line l.peer) (take l.skip-index l.skips)
