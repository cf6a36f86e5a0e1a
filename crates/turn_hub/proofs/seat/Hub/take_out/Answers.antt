use Rattle.std.proofs.Common.{rules, ◌∙◌, ℤ, ◌≡◌, List, ap, sym, subst, w32, to_z, of_z}
use Rattle.std.proofs.lemmas.Int.{to_z-of_z}
use Rattle.turn_hub.specs.declared.entry.Did.{Did}
use Rattle.turn_hub.specs.Calls.{Takes}
use Rattle.turn_hub.specs.History.{Grows, StartsWith}
use Rattle.turn_hub.specs.Kept.{Caller}
use Rattle.turn_hub.specs.Known.{Known}
use Rattle.turn_hub.specs.Ready.{known}
use Rattle.turn_hub.proofs.Turns.{turned, ready_after, grown_took, takes, then_is}
use Rattle.turn_hub.proofs.seat.Hub.take_out.Goals as goal

pub invariant_of-seat : goal.invariant_of-seat
invariant_of-seat g c =
    let k = c.take-number.ensures in
    let t = c.take_out-out.ensures in
    ready_after g.M.Machine.words c.seat.inside.token.me _ c.seat.inside.units c.seat.invariant _ _ _ _ k.holds c.give.ensures.left k.seen.0 (grown_took g.M.Machine.words _ _ _ c.take_out-out.result t.took t.none) _ (t.kind ∙ k.kind) t.legal

pub returns-clause-turned : goal.returns-clause-turned
returns-clause-turned g c =
    let k = c.take-number.ensures in
    let t = c.take_out-out.ensures in
    let ready = ready_after g.M.Machine.words c.seat.inside.token.me c.give.new.me.me c.seat.inside.units c.seat.invariant _ _ _ _ k.holds c.give.ensures.left k.seen.0 (grown_took g.M.Machine.words _ _ _ c.take_out-out.result t.took t.none) _ (t.kind ∙ k.kind) t.legal in
    turned g.M.Machine.words c.args.seat.now c.seat.inside.token.table_id c.give.new.me.table_id c.seat.inside.token.me c.give.new.me.me c.seat.inside.units c.seat.view_is ready _ _ _ _ (c.give.ensures.same ∙ k.same) k.holds c.give.ensures.left k.seen.1

pub give-requires-clause-journal : goal.give-requires-clause-journal
give-requires-clause-journal g c =
    let k = c.take-number.ensures in
    let t = c.take_out-out.ensures in
    subst (λ (l : List (Did _)). Grows l c.take_out-out.new.self.1) (sym (ap (λ (m : Caller _ _). m.0.held) k.holds)) (grown_took g.M.Machine.words _ _ _ c.take_out-out.result t.took t.none)

pub returns-clause-takes : goal.returns-clause-takes
returns-clause-takes g c =
    let k = c.take-number.ensures in
    let t = c.take_out-out.ensures in
    let same : to_z w32 (of_z w32 c.args.peer) ≡ c.args.peer = to_z-of_z w32 c.args.peer (search rules) in
    let e = then_is c.seat.inside.token.table_id c.give.new.me.table_id c.seat.inside.token.me.0 c.seat.inside.units _ _ _ _ c.give.new.me.me c.args.seat.now (c.give.ensures.same ∙ k.same) k.holds c.give.ensures.left c.seat.view_is in
    let s : StartsWith c.take-number.result.1.1 c.args.seat.now.seen = subst (λ (v : Known _ _). StartsWith c.take-number.result.1.1 v.seen) c.seat.view_is k.seen.0 in
    let kind = k.kind ∙ ap (λ (v : Known _ _). v.kind) c.seat.view_is in
    subst (λ (q : ℤ). Takes g.M.Machine.words c.args.seat.now (known c.give.new.me.table_id c.give.new.me.me.0 c.seat.inside.units) q c.take_out-out.result) same
    (takes g.M.Machine.words _ _ _ c.args.seat.now _ _ _ c.take_out-out.result e s kind t.judged t.out t.took t.none)
