use Rattle.scene_model.specs.Valid.{scene_why}
use Rattle.scene_model.proofs.EntryLaws.{IsRightTo}
use Rattle.scene_check.proofs.validity.scene_bad_in.Given as goal

-- each entry so far is right
abbrev pub invariant-loop-at : goal.invariant-loop-at
invariant-loop-at l = IsRightTo scene_why l.index.scene.now.scenes l.at
