use Rattle.std.proofs.Common.{sym, ap, ◌∙◌}
use Rattle.std.specs.Prelude.{◌||◌, is_some}
use Rattle.world_steps.specs.Steps.{live_parts, place_of}
use Rattle.mp_world.proofs.Takes.{there_by_place}
use Rattle.mp_world.proofs.deliver.is_there.Goals as goal

pub returns-else-is_server : goal.returns-else-is_server
returns-else-is_server c = λ k come put.
    there_by_place (live_parts k come put c.args.clients.now.items) c.args.peer.now c.client_place.result c.is_some.result c.is_some.ensures c.client_place.ensures (sym c.is_server.ensures ∙ c.if-is_server.false)
