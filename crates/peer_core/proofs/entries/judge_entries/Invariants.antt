use Rattle.std.proofs.Common.{◌≡◌, drop}
use Rattle.peer_steps.specs.Steps.{entries_judged}
use Rattle.peer_core.proofs.entries.judge_entries.Given as goal

abbrev pub invariant-loop-entry : goal.invariant-loop-entry
invariant-loop-entry l = entries_judged l.tree l.from (drop l.entry-index l.entries) ≡ entries_judged l.tree l.from l.entries
