use denote.Param.Send.{IsSend, IsSync, sendable}
use Rattle.shared_hub.specs.contracts.hub.Hub as hub
use Rattle.shared_hub.specs.contracts.hub.Seat as seat
use Rattle.shared_hub.proofs.crossing.cross_threads.Goals as goal

pub is_shared-requires-send-T : goal.is_shared-requires-send-T
is_shared-requires-send-T c κs = let h : IsSend hub.the_row = c.hub_sent.ensures.hub_sent in search sendable depth 20

pub is_shared-requires-sync-T : goal.is_shared-requires-sync-T
is_shared-requires-sync-T c κs = let h : IsSync hub.the_row = c.hub_sent.ensures.hub_shared in search sendable depth 20

pub is_sent-requires-send-T : goal.is_sent-requires-send-T
is_sent-requires-send-T c κs = let h : IsSend seat.the_row = c.hub_sent.ensures.seat_sent in search sendable depth 20
