use Rattle.packet_form.proofs.Top.{bad_found, bad_only}
use Rattle.packet_form.proofs.laws.read_faults.Goals as goal

pub returns-clause-found : goal.returns-clause-found
returns-clause-found c = bad_found

pub returns-clause-only : goal.returns-clause-only
returns-clause-only c = bad_only
