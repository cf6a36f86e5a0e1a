use Rattle.std.proofs.Common.{◌≡◌, take}
use Rattle.scene_model.proofs.clone.clone_items.Given as goal

-- what was copied so far is the front
abbrev pub invariant-loop-item : goal.invariant-loop-item
invariant-loop-item g l = l.copy ≡ take l.item-index l.items
