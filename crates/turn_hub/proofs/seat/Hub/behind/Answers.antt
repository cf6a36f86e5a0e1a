use Rattle.std.proofs.Common.{◌∙◌, refl, inl}
use Rattle.turn_hub.proofs.Turns.{turned, ready_after}
use Rattle.turn_hub.proofs.seat.Hub.behind.Goals as goal

pub invariant_of-seat : goal.invariant_of-seat
invariant_of-seat g c =
    let k = c.take-number.ensures in
    let t = c.behind-bytes.ensures in
    ready_after g.M.Machine.words c.seat.inside.token.me _ c.seat.inside.units c.seat.invariant _ _ _ _ k.holds c.give.ensures.left k.seen.0 (inl refl) _ (k.kind) t.legal

pub returns-clause-turned : goal.returns-clause-turned
returns-clause-turned g c =
    let k = c.take-number.ensures in
    let t = c.behind-bytes.ensures in
    let ready = ready_after g.M.Machine.words c.seat.inside.token.me c.give.new.me.me c.seat.inside.units c.seat.invariant _ _ _ _ k.holds c.give.ensures.left k.seen.0 (inl refl) _ (k.kind) t.legal in
    turned g.M.Machine.words c.args.seat.now c.seat.inside.token.table_id c.give.new.me.table_id c.seat.inside.token.me c.give.new.me.me c.seat.inside.units c.seat.view_is ready _ _ _ _ (c.give.ensures.same ∙ k.same) k.holds c.give.ensures.left k.seen.1
