use Rattle.mp_world.proofs.Takes.{on_ok, client_took}
use Rattle.mp_world.proofs.steps.take_at_client.Goals as goal

pub returns-clause-client : goal.returns-clause-client
returns-clause-client c = on_ok c.answer_of.result _ (client_took c.args.client.now _ _ _ _ _ _ c.args.event c.in_ok-outcome.outcome c.client.view_is c.in_ok-outcome.ensures c.in_ok-send_up.ensures)
