-- A hub and its seats go from one thread to another, since a peer and what it takes and gives do.
use denote.RattleType.{RattleType}
use denote.Param.Send.{IsSend, IsSync, sendable, view_send, view_sync}
use denote.Param.SendFields.{declared_send, declared_sync}
use Rattle.std.proofs.Crossing as std
use Rattle.std.specs.contracts.option.Option as option
use Rattle.atomic_table.proofs.owned.Table.TheSendSync as table
use Rattle.atomic_table.proofs.shared.Seat.TheSendSync as held
use Rattle.scene_model.specs.contracts.event.Event as event
use Rattle.scene_model.specs.contracts.outcome.Outcome as outcome
use Rattle.scene_model.specs.contracts.outcome.Out as out
use Rattle.peer_core.specs.contracts.peer.Peer as peer
use Rattle.shared_hub.specs.contracts.machine.Kind as kind
use Rattle.shared_hub.specs.contracts.machine.PeerMachine as machine
use Rattle.shared_hub.specs.contracts.machine.PeerMachineMachine.TheImpl.{ghosts}
use Rattle.shared_hub.specs.contracts.hub.Hub as hub
use Rattle.shared_hub.specs.contracts.hub.Hub.TheInside as hub_inside
use Rattle.shared_hub.specs.contracts.hub.Seat as seat
use Rattle.shared_hub.specs.contracts.hub.Seat.TheInside as seat_inside
use Rattle.turn_hub.specs.contracts.desk.Desk as desk
use Rattle.turn_hub.specs.contracts.desk.Desk.TheInside as desk_inside
use Rattle.turn_hub.specs.contracts.seat.Hub as turns
use Rattle.turn_hub.specs.contracts.seat.Hub.TheInside as turns_inside
use Rattle.turn_hub.specs.contracts.seat.Seat as token
use Rattle.turn_hub.specs.contracts.seat.Seat.TheInside as token_inside

abbrev desk_row : RattleType
desk_row = desk.the_row machine.the_row kind.the_row event.the_row outcome.the_row out.the_row ghosts

abbrev desk_fields : RattleType
desk_fields = desk_inside.the_row machine.the_row kind.the_row event.the_row outcome.the_row out.the_row ghosts

abbrev turns_row : RattleType
turns_row = turns.the_row machine.the_row kind.the_row event.the_row outcome.the_row out.the_row ghosts

abbrev turns_fields : RattleType
turns_fields = turns_inside.the_row machine.the_row kind.the_row event.the_row outcome.the_row out.the_row ghosts

abbrev token_row : RattleType
token_row = token.the_row machine.the_row kind.the_row event.the_row outcome.the_row out.the_row ghosts

abbrev token_fields : RattleType
token_fields = token_inside.the_row machine.the_row kind.the_row event.the_row outcome.the_row out.the_row ghosts

module _ (p : IsSend peer.the_row) (k : IsSend kind.the_row) (e : IsSend event.the_row) (o : IsSend out.the_row) where
  desk_sent : IsSend desk_row
  desk_sent =
      let m : IsSend machine.the_row = search sendable depth 20 in
      let i : IsSend desk_fields = declared_send (desk_inside.the_type machine.the_row kind.the_row event.the_row outcome.the_row out.the_row ghosts) (search sendable depth 20, (search (sendable, std.crosses) depth 20, (search (sendable, std.crosses) depth 20, (search (sendable, std.crosses) depth 20, (search sendable depth 20, (search sendable depth 20, (search sendable depth 20, (search sendable depth 20, tt)))))))) in
      view_send desk_fields _ _ _ _ i

  slot_sent : IsSend (option.the_row desk_row)
  slot_sent = let d : IsSend desk_row = desk_sent in search sendable depth 20

  turns_sent : IsSend turns_row
  turns_sent =
      let s : IsSend (option.the_row desk_row) = slot_sent in
      let i : IsSend turns_fields = declared_send (turns_inside.the_type machine.the_row kind.the_row event.the_row outcome.the_row out.the_row ghosts) (search (sendable, std.crosses, std.frees, std.send, table.the_send) depth 20, tt) in
      view_send turns_fields _ _ _ _ i

  turns_shared : IsSync turns_row
  turns_shared =
      let s : IsSend (option.the_row desk_row) = slot_sent in
      let i : IsSync turns_fields = declared_sync (turns_inside.the_type machine.the_row kind.the_row event.the_row outcome.the_row out.the_row ghosts) (search (sendable, std.crosses, std.frees, std.sync, table.the_sync) depth 20, tt) in
      view_sync turns_fields _ _ _ _ i

  token_sent : IsSend token_row
  token_sent =
      let s : IsSend (option.the_row desk_row) = slot_sent in
      let i : IsSend token_fields = declared_send (token_inside.the_type machine.the_row kind.the_row event.the_row outcome.the_row out.the_row ghosts) (search (sendable, held.the_send) depth 20, (search sendable depth 20, tt)) in
      view_send token_fields _ _ _ _ i

  pub hub_sent : IsSend hub.the_row
  hub_sent =
      let t : IsSend turns_row = turns_sent in
      let i : IsSend hub_inside.the_row = declared_send hub_inside.the_type (search sendable depth 20, tt) in
      view_send hub_inside.the_row _ _ _ _ i

  pub hub_shared : IsSync hub.the_row
  hub_shared =
      let t : IsSync turns_row = turns_shared in
      let i : IsSync hub_inside.the_row = declared_sync hub_inside.the_type (search sendable depth 20, tt) in
      view_sync hub_inside.the_row _ _ _ _ i

  pub seat_sent : IsSend seat.the_row
  seat_sent =
      let t : IsSend token_row = token_sent in
      let i : IsSend seat_inside.the_row = declared_send seat_inside.the_type (search sendable depth 20, tt) in
      view_send seat_inside.the_row _ _ _ _ i
