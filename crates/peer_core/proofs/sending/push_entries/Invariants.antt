use Rattle.std.proofs.Common.{◌≡◌, ◌++◌, true, length}
use Rattle.std.specs.List.{list_all}
use Rattle.peer_steps.specs.Steps.{entries_to}
use Rattle.peer_core.specs.Forms.{packet_form}
use Rattle.peer_core.specs.Parts.{is_right_entry}
use Rattle.peer_core.proofs.sending.push_entries.Given as goal

abbrev pub invariant-loop-alloc : goal.invariant-loop-alloc
invariant-loop-alloc l = (l.out ++ entries_to packet_form l.peer l.entries ≡ l.fn.out ++ entries_to packet_form l.peer l.fn.entries) × (list_all is_right_entry l.entries ≡ true)

abbrev pub decreases-loop-alloc : goal.decreases-loop-alloc
decreases-loop-alloc l = length l.entries
