use denote.Param.Send.{IsSend, IsSync, sendable}
use Rattle.std.proofs.Crossing as std
use Rattle.scene_model.specs.contracts.event.Event as event
use Rattle.shared_hub.specs.contracts.hub.Hub as hub
use Rattle.shared_hub.specs.contracts.hub.Seat as seat
use Rattle.hub_callers.proofs.jobs.begin.Goals as goal

pub spawn_with-requires-send-F : goal.spawn_with-requires-send-F
spawn_with-requires-send-F g c κs within =
    let h : IsSend hub.the_row = c.cross_threads.ensures.hub_sent in
    let i : IsSync hub.the_row = c.cross_threads.ensures.hub_shared in
    let s : IsSend seat.the_row = c.cross_threads.ensures.seat_sent in
    let e : IsSend event.the_row = c.events_cross.ensures.sent in
    let r = c.type_bounds.send-R in search (sendable, std.crosses) depth 20
