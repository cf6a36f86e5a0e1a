use Rattle.std.proofs.Common.{◌≡◌, false, take}
use Rattle.scene_check.proofs.PathLaws.{has_slash}
use Rattle.scene_check.proofs.paths.slash_in.Given as goal

-- no slash stands before this place
abbrev pub invariant-loop-at : goal.invariant-loop-at
invariant-loop-at l = has_slash (take l.at l.path) ≡ false
