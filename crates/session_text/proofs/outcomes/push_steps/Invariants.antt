use Rattle.std.proofs.Common.{◌≡◌, ◌++◌, flat_map, take}
use Rattle.session_text.specs.Outcomes.{step_lines}
use Rattle.session_text.proofs.outcomes.push_steps.Given as goal

abbrev pub invariant-loop-step : goal.invariant-loop-step
invariant-loop-step l = l.out.items ≡ l.fn.out.items ++ flat_map step_lines (take l.step-index l.steps)
