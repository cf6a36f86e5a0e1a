use Rattle.line_laws.proofs.Values.{plain_values}
use Rattle.line_laws.proofs.laws.written_values_are_plain.Goals as goal

pub returns : goal.returns
returns c = plain_values
