use Rattle.std.proofs.Common.{ap}
use Rattle.std.specs.Int.{w32}
use Rattle.std.specs.List.{list_all}
use Rattle.std.proofs.lemmas.Result.{err_from_is_err_and}
use Rattle.line_text.specs.Peers.{peer_read}
use Rattle.line_text.specs.Held.{is_peer}
use Rattle.line_text.proofs.Each.{reads_fail, reads_on, reads_start}
use Rattle.line_text.proofs.Held.{one_peer_more, peer_fits}
use Rattle.line_text.proofs.Pushed.{pushed}
use Rattle.line_text.proofs.peers.each_peer.Goals as goal

pub loop-item-init : goal.loop-item-init
loop-item-init c = (reads_start peer_read c.new-all.result c.args.items.now c.new-all.ensures, ap (list_all is_peer) c.new-all.ensures)

pub returns-in_err-peer-clause-gives : goal.returns-in_err-peer-clause-gives
returns-in_err-peer-clause-gives c =
    let p = err_from_is_err_and c.from_residual.result c.from_residual.ensures.1 in
    rw (p.1, p.2) (reads_fail c.in_err-peer.field-0.0 peer_read c.loop-item.all c.args.items.now c.loop-item.item-index c.item-item.result c.loop-item-test.true c.item-item.is c.in_err-peer.ensures.gives c.loop-item.invariant.0)

pub loop-item-preserved : goal.loop-item-preserved
loop-item-preserved c =
    let push = pushed w32 c.in_ok-peer.peer c.loop-item.all c.push.new.self (peer_fits c.in_ok-peer.peer c.in_ok-peer.ensures.peer) c.in_ok-push.ensures.ok in (
      reads_on peer_read c.loop-item.all c.push.new.self c.args.items.now c.loop-item.item-index c.item-item.result c.in_ok-peer.peer c.loop-item-test.true c.item-item.is c.in_ok-peer.ensures.gives push c.loop-item.invariant.0,
      one_peer_more c.loop-item.all c.push.new.self c.in_ok-peer.peer push c.in_ok-peer.ensures.peer c.loop-item.invariant.1,
    )
