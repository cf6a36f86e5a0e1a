use Rattle.std.proofs.Common.{rules, sym, ap, ◌∙◌, ◌≡◌, ◌++◌, None, filter, refl}
use Rattle.std.proofs.lemmas.Bool.{true≢false}
use mir.Val.{bool_byte}
use Rattle.turn_hub.specs.History.{past, events_of, is_for}
use Rattle.turn_hub.specs.Boxes.{waiting}
use Rattle.turn_hub.proofs.History.{sound_lost, sound_event, free, got_byte, not_lost, uncut}
use Rattle.turn_hub.proofs.desk.Desk.enter.Goals as goal

pub invariant_of-self-in_default-step : goal.invariant_of-self-in_default-step
invariant_of-self-in_default-step g c =
    let m = g.M.Machine in
    let i = c.self.inside in
    let z : c.event_stop.result ≡ None = search rules in
    let f = free i.ended i.events i.bytes (m.words.weight c.args.event) (m.spent i.machine) c.len-place.result c.is_spent.result c.is_spent.ensures (sym (c.event_stop.ensures (m.words.weight c.args.event) c.weigh-weight.ensures) ∙ z) in
    (sound_lost m.words _ _ _ i.rows.items (waiting i.outs) _ _ _ _ c.self.invariant.0 f.live i.kind.value (m.stands c.step.new.self) (m.spent c.step.new.self) c.push_reserved.new.self.items (waiting i.outs) refl c.in_default-step.ensures.spends (search rules) (λ q. refl), search rules, λ l. absurd (true≢false (sym c.in_default-step.ensures.spends ∙ l)))

pub returns-in_default-step-clause-legal : goal.returns-in_default-step-clause-legal
returns-in_default-step-clause-legal g c =
    let m = g.M.Machine in
    let i = c.self.inside in
    let z : c.event_stop.result ≡ None = search rules in
    let f = free i.ended i.events i.bytes (m.words.weight c.args.event) (m.spent i.machine) c.len-place.result c.is_spent.result c.is_spent.ensures (sym (c.event_stop.ensures (m.words.weight c.args.event) c.weigh-weight.ensures) ∙ z) in
    (sound_lost m.words _ _ _ i.rows.items (waiting i.outs) _ _ _ _ c.self.invariant.0 f.live i.kind.value (m.stands c.step.new.self) (m.spent c.step.new.self) c.push_reserved.new.self.items (waiting i.outs) refl c.in_default-step.ensures.spends (search rules) (λ q. refl)).legal

pub invariant_of-self-then-not-keep : goal.invariant_of-self-then-not-keep
invariant_of-self-then-not-keep g c =
    let m = g.M.Machine in
    let i = c.self.inside in
    let z : c.event_stop.result ≡ None = search rules in
    let f = free i.ended i.events i.bytes (m.words.weight c.args.event) (m.spent i.machine) c.len-place.result c.is_spent.result c.is_spent.ensures (sym (c.event_stop.ensures (m.words.weight c.args.event) c.weigh-weight.ensures) ∙ z) in
    (sound_lost m.words _ _ _ i.rows.items (waiting i.outs) _ _ _ _ c.self.invariant.0 f.live i.kind.value (m.stands c.give_up.new.self) (m.spent c.give_up.new.self) c.push_reserved-then-not-keep.new.self.items (waiting c.keep.new.self) refl c.give_up.ensures (search rules) (c.keep.ensures.none (search rules)), search rules, λ l. absurd (true≢false (sym c.give_up.ensures ∙ l)))

pub returns-then-not-keep-clause-legal : goal.returns-then-not-keep-clause-legal
returns-then-not-keep-clause-legal g c =
    let m = g.M.Machine in
    let i = c.self.inside in
    let z : c.event_stop.result ≡ None = search rules in
    let f = free i.ended i.events i.bytes (m.words.weight c.args.event) (m.spent i.machine) c.len-place.result c.is_spent.result c.is_spent.ensures (sym (c.event_stop.ensures (m.words.weight c.args.event) c.weigh-weight.ensures) ∙ z) in
    (sound_lost m.words _ _ _ i.rows.items (waiting i.outs) _ _ _ _ c.self.invariant.0 f.live i.kind.value (m.stands c.give_up.new.self) (m.spent c.give_up.new.self) c.push_reserved-then-not-keep.new.self.items (waiting c.keep.new.self) refl c.give_up.ensures (search rules) (c.keep.ensures.none (search rules))).legal

pub invariant_of-self-2 : goal.invariant_of-self-2
invariant_of-self-2 g c =
    let m = g.M.Machine in
    let i = c.self.inside in
    let z : c.event_stop.result ≡ None = search rules in
    let f = free i.ended i.events i.bytes (m.words.weight c.args.event) (m.spent i.machine) c.len-place.result c.is_spent.result c.is_spent.ensures (sym (c.event_stop.ensures (m.words.weight c.args.event) c.weigh-weight.ensures) ∙ z) in
    let st = c.self.invariant.0.stands_for (not_lost m.words _ _ _ _ _ _ _ _ _ c.self.invariant.0 f.live) in (
      sound_event m.words _ _ _ i.rows.items (waiting i.outs) _ _ _ _ c.self.invariant.0 f.live i.kind.value (m.stands c.step.new.self) (m.spent c.step.new.self) c.push_reserved-2.new.self.items (waiting c.keep.new.self) c.args.event c.in-Ok-step.outcome c.weigh-weight.result (bool_byte c.is_received-is_received.result)
          refl f (c.in-Ok-step.ensures.stands (events_of (past i.rows.items)) st) c.in-Ok-step.ensures.lives (c.in-Ok-step.ensures.answer (events_of (past i.rows.items)) st ∙ ap (λ k. m.words.answer k (events_of (past i.rows.items)) c.args.event) (c.self.invariant.2 f.live)) (λ q. c.keep.ensures.kept (search rules) q ∙ ap (λ ps. waiting i.outs q ++ filter (is_for m.words q) ps) c.packets.ensures) (search rules) (uncut i.bytes c.weigh-weight.result (m.words.weight c.args.event) f.light c.weigh-weight.ensures) (got_byte c.is_received-is_received.result _ c.is_received-is_received.ensures),
      search rules,
      λ l. c.in-Ok-step.ensures.kind ∙ c.self.invariant.2 f.live,
    )

pub returns-clause-legal : goal.returns-clause-legal
returns-clause-legal g c =
    let m = g.M.Machine in
    let i = c.self.inside in
    let z : c.event_stop.result ≡ None = search rules in
    let f = free i.ended i.events i.bytes (m.words.weight c.args.event) (m.spent i.machine) c.len-place.result c.is_spent.result c.is_spent.ensures (sym (c.event_stop.ensures (m.words.weight c.args.event) c.weigh-weight.ensures) ∙ z) in
    let st = c.self.invariant.0.stands_for (not_lost m.words _ _ _ _ _ _ _ _ _ c.self.invariant.0 f.live) in
    (sound_event m.words _ _ _ i.rows.items (waiting i.outs) _ _ _ _ c.self.invariant.0 f.live i.kind.value (m.stands c.step.new.self) (m.spent c.step.new.self) c.push_reserved-2.new.self.items (waiting c.keep.new.self) c.args.event c.in-Ok-step.outcome c.weigh-weight.result (bool_byte c.is_received-is_received.result)
    refl f (c.in-Ok-step.ensures.stands (events_of (past i.rows.items)) st) c.in-Ok-step.ensures.lives (c.in-Ok-step.ensures.answer (events_of (past i.rows.items)) st ∙ ap (λ k. m.words.answer k (events_of (past i.rows.items)) c.args.event) (c.self.invariant.2 f.live)) (λ q. c.keep.ensures.kept (search rules) q ∙ ap (λ ps. waiting i.outs q ++ filter (is_for m.words q) ps) c.packets.ensures) (search rules) (uncut i.bytes c.weigh-weight.result (m.words.weight c.args.event) f.light c.weigh-weight.ensures) (got_byte c.is_received-is_received.result _ c.is_received-is_received.ensures)).legal
