use Rattle.std.proofs.Common.{refl}
use Rattle.line_rows.proofs.OnLiterals.{lines_on_literals}
use Rattle.line_rows.proofs.reasons.down_of_no_number.Goals as goal

pub returns : goal.returns
unfolding lines_on_literals
returns c = refl
