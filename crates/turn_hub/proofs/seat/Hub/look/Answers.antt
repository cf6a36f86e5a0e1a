use Rattle.std.proofs.Common.{◌∙◌, refl, inl, subst}
use Rattle.turn_hub.specs.History.{StartsWith}
use Rattle.turn_hub.specs.Known.{Known}
use Rattle.turn_hub.proofs.Turns.{turned, ready_after, then_is, unchanged}
use Rattle.turn_hub.proofs.seat.Hub.look.Goals as goal

pub invariant_of-seat : goal.invariant_of-seat
invariant_of-seat g c =
    let k = c.take-number.ensures in
    let t = c.look-look.ensures in
    ready_after g.M.Machine.words c.seat.inside.token.me _ c.seat.inside.units c.seat.invariant _ _ _ _ k.holds c.give.ensures.left k.seen.0 (inl refl) _ (k.kind) t.legal

pub returns-clause-turned : goal.returns-clause-turned
returns-clause-turned g c =
    let k = c.take-number.ensures in
    let t = c.look-look.ensures in
    let ready = ready_after g.M.Machine.words c.seat.inside.token.me c.give.new.me.me c.seat.inside.units c.seat.invariant _ _ _ _ k.holds c.give.ensures.left k.seen.0 (inl refl) _ (k.kind) t.legal in
    turned g.M.Machine.words c.args.seat.now c.seat.inside.token.table_id c.give.new.me.table_id c.seat.inside.token.me c.give.new.me.me c.seat.inside.units c.seat.view_is ready _ _ _ _ (c.give.ensures.same ∙ k.same) k.holds c.give.ensures.left k.seen.1

pub returns-clause-same : goal.returns-clause-same
returns-clause-same g c =
    let k = c.take-number.ensures in
    let e = then_is c.seat.inside.token.table_id c.give.new.me.table_id c.seat.inside.token.me.0 c.seat.inside.units _ _ _ _ c.give.new.me.me c.args.seat.now (c.give.ensures.same ∙ k.same) k.holds c.give.ensures.left c.seat.view_is in
    let s : StartsWith c.take-number.result.1.1 c.args.seat.now.seen = subst (λ (v : Known _ _). StartsWith c.take-number.result.1.1 v.seen) c.seat.view_is k.seen.0 in
    unchanged c.args.seat.now _ _ _ e s
