use Rattle.std.proofs.Common.{refl}
use Rattle.line_rows.proofs.OnLiterals.{lines_on_literals}
use Rattle.line_rows.proofs.reasons.custom_of_two.Goals as goal

pub returns : goal.returns
unfolding lines_on_literals
returns c = refl
