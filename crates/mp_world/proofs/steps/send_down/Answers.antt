use Rattle.std.proofs.Common.{ap}
use Rattle.world_model.specs.Happens.{packets_in}
use Rattle.mp_world.proofs.Takes.{sends_nothing}
use Rattle.mp_world.proofs.steps.send_down.Goals as goal

pub returns-in-Refused : goal.returns-in-Refused
returns-in-Refused c = sends_nothing c.args.clients.now.items c.args.outcome.now (ap packets_in c.in-Refused.is)

pub returns-in-Fault : goal.returns-in-Fault
returns-in-Fault c = sends_nothing c.args.clients.now.items c.args.outcome.now (ap packets_in c.in-Fault.is)
