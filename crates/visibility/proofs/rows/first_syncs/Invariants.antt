use Rattle.std.proofs.Common.{◌≡◌, map, take}
use Rattle.sight_laws.specs.Sights.{first_sight}
use Rattle.visibility.proofs.rows.first_syncs.Given as goal

abbrev pub invariant-loop-def : goal.invariant-loop-def
invariant-loop-def l = l.syncs.items ≡ map first_sight (take l.def-index l.defs)
