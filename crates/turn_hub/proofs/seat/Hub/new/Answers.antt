use Rattle.std.proofs.Common.{rules, sym, subst, ◌≡◌, Some, [], ◌∷◌}
use Rattle.atomic_table.specs.Table.{opening}
use Rattle.turn_hub.specs.Kept.{Kept, first_view}
use Rattle.turn_hub.proofs.Steps.{opens}
use Rattle.turn_hub.proofs.seat.Hub.new.Goals as goal

pub new-requires-2 : goal.new-requires-2
new-requires-2 g c =
    let k = c.in_ok-kind.kind in
    let is : c.push.new.self.items ≡ Some (k, []) ∷ [] = search rules in
    subst (λ xs. Kept k (opening (0 ∷ 0 ∷ []) xs (first_view k))) (sym is) (opens k)
