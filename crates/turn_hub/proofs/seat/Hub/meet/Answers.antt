use Rattle.std.proofs.Common.{rules, sym, subst, ◌<◌, ℕ}
use Rattle.turn_hub.proofs.Steps.{may_join, may_count}
use Rattle.turn_hub.proofs.Turns.{ready_joined, counted}
use Rattle.turn_hub.proofs.seat.Hub.meet.Goals as goal

pub join_seat-requires : goal.join_seat-requires
join_seat-requires g c =
    let r = c.seat.invariant in
    let q = c.note.invariant in (
      search rules,
      search rules,
      search rules,
      search rules,
      may_join _ _ _ _ _ _ r.idle q.idle (subst (λ (n : ℕ). 0 < n) (sym r.units_are) r.some) (subst (λ (n : ℕ). 0 < n) (sym q.units_are) q.some),
    )

pub load-requires : goal.load-requires
load-requires g c = (search rules, search rules, may_count _ _ _ _)

pub invariant_of-seat : goal.invariant_of-seat
invariant_of-seat g c =
    let t = counted g.M.Machine.blank c.seat.inside.token.me c.note.inside.token.me.0 c.join_seat.new.seat.me c.load.new.seat.me c.join_seat.ensures.2 c.load.ensures.2 in
    ready_joined g.M.Machine.words c.seat.inside.token.me c.note.inside.token.me c.load.new.seat.me c.seat.inside.units c.note.inside.units c.seat.invariant c.note.invariant t.3 t.2 t.0 t.1.0
