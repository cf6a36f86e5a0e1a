use Rattle.std.proofs.Common.{◌≡◌, length}
use Rattle.peer_steps.specs.Steps.{entries_put}
use Rattle.peer_core.proofs.entries.put_entries.Given as goal

abbrev pub invariant-loop-entries : goal.invariant-loop-entries
invariant-loop-entries l = entries_put l.from l.entries l.tree ≡ entries_put l.from l.fn.entries l.fn.tree

abbrev pub decreases-loop-entries : goal.decreases-loop-entries
decreases-loop-entries l = length l.entries
