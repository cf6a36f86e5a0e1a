use Rattle.std.proofs.Common.{rules, ap, sym, subst, ◌∙◌, ◌<◌, ◌≡◌, ℕ}
use Rattle.turn_hub.specs.declared.rule.View.{View}
use Rattle.turn_hub.specs.Kept.{Caller, offering}
use Rattle.turn_hub.specs.Known.{Known}
use Rattle.turn_hub.proofs.Steps.{may_offer, may_cut}
use Rattle.turn_hub.proofs.seat.Hub.seat.Goals as goal

pub compare_exchange-requires : goal.compare_exchange-requires
compare_exchange-requires g c = (
  search rules,
  search rules,
  may_offer _ _ _ _ _ c.of.invariant.idle (subst (λ (n : ℕ). 0 < n) (sym c.of.invariant.units_are) c.of.invariant.some),
)

pub split_seat-new-requires : goal.split_seat-new-requires
split_seat-new-requires g c =
    let is : c.compare_exchange.new.seat.me ≡ (offering c.args.units c.of.inside.token.me.0, c.of.inside.token.me.1) = search rules in
    let view : c.compare_exchange.new.seat.me.0 ≡ offering c.args.units c.of.inside.token.me.0 = ap (λ (m : Caller _ _). m.0) is in (
      search rules,
      search rules,
      may_cut _ _ _
          (ap (λ (v : View _ _). v.stage) view)
          (subst (λ (v : View _ _). 0 < v.offer) (sym view) c.requires.some.0)
          (subst (λ (v : View _ _). v.offer < v.units) (sym view) (subst (λ (n : ℕ). c.args.units < n) (sym (c.of.invariant.units_are ∙ ap (λ (k : Known _ _). k.units) c.of.view_is)) c.requires.some.1)),
    )
