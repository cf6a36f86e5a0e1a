use Rattle.scene_model.specs.Valid.{node_why}
use Rattle.scene_model.proofs.EntryLaws.{IsRightTo}
use Rattle.scene_check.proofs.validity.node_bad.Given as goal

-- each entry so far is right
abbrev pub invariant-loop-at : goal.invariant-loop-at
invariant-loop-at l = IsRightTo (node_why l.index.scene.now) l.index.scene.now.nodes l.at
