use Rattle.sound_check.proofs.Distinct.{Seen}
use Rattle.sound_check.proofs.keys.are_distinct.Given as goal

-- what is known of the pairs behind
abbrev pub invariant-loop-at : goal.invariant-loop-at
invariant-loop-at l = Seen l.seen l.later l.at l.pairs

abbrev pub decreases-loop-at : goal.decreases-loop-at
decreases-loop-at l = l.at
