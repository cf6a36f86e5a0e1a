use Rattle.packet_form.proofs.Top.{read_found, read_only}
use Rattle.packet_form.proofs.laws.read_frames.Goals as goal

pub returns-clause-found : goal.returns-clause-found
returns-clause-found c = λ m b. read_found b m

pub returns-clause-only : goal.returns-clause-only
returns-clause-only c = λ m b. read_only b m
