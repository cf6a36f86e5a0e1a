use Rattle.std.proofs.Common.{◌≡◌, length}
use Rattle.std.specs.List.{list_all}
use Rattle.scene_model.specs.Paths.{is_name, names_of}
use Rattle.scene_check.proofs.paths.has_names.Given as goal

-- the names so far are names
abbrev pub invariant-loop-at : goal.invariant-loop-at
invariant-loop-at l = list_all is_name (names_of l.rest) ≡ list_all is_name (names_of l.path)

abbrev pub decreases-loop-at : goal.decreases-loop-at
decreases-loop-at l = length l.rest
