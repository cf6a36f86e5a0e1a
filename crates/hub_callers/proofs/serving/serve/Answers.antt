use Rattle.std.proofs.Common.{sym, subst, ◌∙◌, List, take}
use Rattle.scene_model.specs.declared.event.Event.{Event}
use Rattle.shared_hub.specs.Peer.{peer_words}
use Rattle.hub_callers.specs.Entries.{Entries}
use Rattle.hub_callers.proofs.Own.{goes_on, next_taken}
use Rattle.hub_callers.proofs.serving.serve.Goals as goal

pub loop-event-preserved : goal.loop-event-preserved
loop-event-preserved g c =
    let i = c.loop-event.event-index in
    let es = c.args.events.now in
    let v = c.loop-event.invariant in
    let n = c.in_default-enter.ensures.entered in
    let t = c.in_default-enter.ensures.turned in
    record {
      own = t.hub ∙ v.own;
      served = subst (λ (l : List Event). Entries c.args.seat c.enter.new.seat l) (sym (next_taken es i c.in-Ok.event c.event-item.result c.loop-event-test.true c.event-item.is c.in-Ok.ensures))
          (goes_on peer_words c.args.seat c.loop-event.seat c.enter.new.seat (take i es) n.0 c.in-Ok.event v.served n.1 t n.3.0);
    }
