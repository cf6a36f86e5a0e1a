use Rattle.std.proofs.Common.{rules, ap, sym, subst, ◌∙◌, ◌≡◌, ◌+◌, List, length}
use Rattle.turn_hub.specs.declared.entry.Did.{Did}
use Rattle.turn_hub.specs.History.{StartsWith}
use Rattle.turn_hub.specs.Kept.{Caller, times, upto}
use Rattle.turn_hub.specs.Known.{Known}
use Rattle.turn_hub.proofs.Steps.{may_close}
use Rattle.turn_hub.proofs.Turns.{slot_out}
use Rattle.turn_hub.proofs.seat.Hub.close.Goals as goal

pub load-requires : goal.load-requires
load-requires g c =
    let r = c.seat.invariant in
    (search rules, search rules, may_close _ _ _ _ r.idle (r.units_are ∙ ap (λ (k : Known _ _). k.units) c.seat.view_is ∙ c.requires.whole) r.empty)

pub exchange-requires : goal.exchange-requires
exchange-requires g c = (search rules, slot_out _ _ _ (ap (λ (m : Caller _ _). m.1) c.load.ensures.2.3))

pub returns-clause-seen : goal.returns-clause-seen
returns-clause-seen g c =
    let h = c.load.ensures.2 in
    let is : c.into_parts.result.1.entries.items ≡ h.0 = search rules in
    subst (λ (l : List (Did _)). StartsWith l c.args.seat.seen) (sym is) (subst (λ (k : Known _ _). StartsWith h.0 k.seen) c.seat.view_is h.1)

pub returns-clause-places : goal.returns-clause-places
returns-clause-places g c = λ p.
    let h = c.load.ensures.2 in
    let is : c.into_parts.result.1.entries.items ≡ h.0 = search rules in
    let v = sym c.seat.view_is in
    ap (λ (k : Known _ _). times p k.mine + times p k.met) v ∙ h.2 p ∙ ap (λ (l : List (Did _)). times p (upto (length l))) (sym is)
