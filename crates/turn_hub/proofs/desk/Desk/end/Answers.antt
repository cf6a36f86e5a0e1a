use Rattle.std.proofs.Common.{rules, sym, ◌∙◌, ◌≡◌, None}
use Rattle.turn_hub.proofs.History.{sound_end, none_end}
use Rattle.turn_hub.proofs.desk.Desk.end.Goals as goal

pub invariant_of-self-2 : goal.invariant_of-self-2
invariant_of-self-2 g c =
    let z : c.end_stop.result ≡ None = search rules in
    let f = none_end _ _ _ (sym c.end_stop.ensures ∙ z) in
    (sound_end _ _ _ _ _ _ _ _ _ _ c.self.invariant.0 (sym c.is_spent.ensures ∙ f.1) _ _ f.0 (search rules) (search rules), search rules, c.self.invariant.2)

pub returns-clause-legal : goal.returns-clause-legal
returns-clause-legal g c =
    let z : c.end_stop.result ≡ None = search rules in
    let f = none_end _ _ _ (sym c.end_stop.ensures ∙ z) in
    (sound_end _ _ _ _ _ _ _ _ _ _ c.self.invariant.0 (sym c.is_spent.ensures ∙ f.1) c.push_reserved.new.self.items c.len-place.result f.0 (search rules) (search rules)).legal
