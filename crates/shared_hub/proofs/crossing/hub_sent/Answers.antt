use denote.Exit.{yes}
use denote.Param.Send.{IsSend}
use Rattle.scene_model.specs.contracts.event.Event as event
use Rattle.scene_model.specs.contracts.outcome.Out as out
use Rattle.shared_hub.specs.contracts.machine.Kind as kind
use Rattle.shared_hub.proofs.Sent as sent
use Rattle.shared_hub.proofs.crossing.hub_sent.Goals as goal

pub returns-clause-hub_sent : goal.returns-clause-hub_sent
returns-clause-hub_sent c =
    let k : IsSend kind.the_row = record { owned = c.sent.ensures.owned; leaving = λ k. c.sent.ensures.leaving yes } in
    let e : IsSend event.the_row = record { owned = c.sent-2.ensures.owned; leaving = λ k. c.sent-2.ensures.leaving yes } in
    let o : IsSend out.the_row = record { owned = c.sent-3.ensures.owned; leaving = λ k. c.sent-3.ensures.leaving yes } in
    sent.hub_sent c.peer_sent.ensures k e o

pub returns-clause-hub_shared : goal.returns-clause-hub_shared
returns-clause-hub_shared c =
    let k : IsSend kind.the_row = record { owned = c.sent.ensures.owned; leaving = λ k. c.sent.ensures.leaving yes } in
    let e : IsSend event.the_row = record { owned = c.sent-2.ensures.owned; leaving = λ k. c.sent-2.ensures.leaving yes } in
    let o : IsSend out.the_row = record { owned = c.sent-3.ensures.owned; leaving = λ k. c.sent-3.ensures.leaving yes } in
    sent.hub_shared c.peer_sent.ensures k e o

pub returns-clause-seat_sent : goal.returns-clause-seat_sent
returns-clause-seat_sent c =
    let k : IsSend kind.the_row = record { owned = c.sent.ensures.owned; leaving = λ k. c.sent.ensures.leaving yes } in
    let e : IsSend event.the_row = record { owned = c.sent-2.ensures.owned; leaving = λ k. c.sent-2.ensures.leaving yes } in
    let o : IsSend out.the_row = record { owned = c.sent-3.ensures.owned; leaving = λ k. c.sent-3.ensures.leaving yes } in
    sent.seat_sent c.peer_sent.ensures k e o
