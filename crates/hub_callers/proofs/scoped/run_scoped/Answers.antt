use denote.Param.Send.{IsSend, IsSync, sendable}
use Rattle.std.proofs.Common.{rules}
use Rattle.std.proofs.Crossing as std
use Rattle.scene_model.specs.contracts.event.Event as event
use Rattle.shared_hub.specs.contracts.hub.Hub as hub
use Rattle.shared_hub.specs.contracts.hub.Seat as seat
use Rattle.hub_callers.specs.Entries.{Entries}
use Rattle.hub_callers.proofs.Own.{of_ok}
use Rattle.hub_callers.proofs.scoped.run_scoped.Goals as goal

pub returns : goal.returns
returns g c =
    let v = c.seat-one.result in
    let w = c.seat-two.result in
    let a = c.join-a.result.0 in
    let b = c.join-a.result.1 in
    let s : Entries v a.seat c.args.first.now = of_ok a.end _ (Entries v a.seat c.args.first.now) (search rules) c.join-a.ensures.first in
    let t : Entries w b.seat c.args.second.now = of_ok b.end _ (Entries w b.seat c.args.second.now) (search rules) c.join-a.ensures.second in
    c.close_both.ensures v w c.args.first.now c.args.second.now (search rules) (search rules) (search rules) (search rules) s t

pub join-a-requires-send-F : goal.join-a-requires-send-F
join-a-requires-send-F g c κs within =
    let i : IsSync hub.the_row = c.cross_threads.ensures.hub_shared in
    let s : IsSend seat.the_row = c.cross_threads.ensures.seat_sent in
    let e : IsSync event.the_row = c.events_cross.ensures.shared in
    let r = c.type_bounds.sync-R in search (sendable, std.crosses) depth 20
