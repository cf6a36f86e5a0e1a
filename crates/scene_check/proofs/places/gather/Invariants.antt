use Rattle.scene_check.specs.Places.{texts_of, AreGathered}
use Rattle.scene_check.proofs.places.gather.Given as goal

-- the texts so far are there
abbrev pub invariant-loop-at : goal.invariant-loop-at
invariant-loop-at l = AreGathered l.places.items (texts_of l.list) l.at
