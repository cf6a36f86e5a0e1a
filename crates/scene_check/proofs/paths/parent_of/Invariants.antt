use Rattle.std.proofs.Common.{◌≡◌, ℕ, ◌≤◌, List, length, drop, None}
use Rattle.scene_model.specs.Paths.{parent_of}
use Rattle.scene_check.proofs.paths.parent_of.Given as goal

-- no slash stands from this place on
pub record IsAfterLast (path : List ℕ) (at : ℕ) : Type 0 where
  pub within : at ≤ length path
  pub none : parent_of (drop at path) ≡ None

abbrev pub invariant-loop-at : goal.invariant-loop-at
invariant-loop-at l = IsAfterLast l.path l.at

abbrev pub decreases-loop-at : goal.decreases-loop-at
decreases-loop-at l = l.at
