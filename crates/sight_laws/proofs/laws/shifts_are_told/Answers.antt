use Rattle.sight_laws.proofs.Shifts.{shifts_are_told}
use Rattle.sight_laws.proofs.laws.shifts_are_told.Goals as goal

pub returns : goal.returns
returns c = shifts_are_told
