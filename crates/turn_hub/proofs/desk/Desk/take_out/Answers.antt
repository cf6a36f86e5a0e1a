use Rattle.std.proofs.Common.{rules, sym, ◌∙◌, ◌≡◌, ◌<◌, None}
use Rattle.turn_hub.specs.Boxes.{waiting}
use Rattle.turn_hub.proofs.Boxes.{took_all}
use Rattle.turn_hub.proofs.History.{sound_took, none_spent}
use Rattle.turn_hub.proofs.desk.Desk.take_out.Goals as goal

pub invariant_of-self-2 : goal.invariant_of-self-2
invariant_of-self-2 g c =
    let z : c.spent_stop.result ≡ None = search rules in
    let i = c.self.inside in
    let live = none_spent c.is_spent.result c.len.result (sym c.spent_stop.ensures ∙ z) in
    let some_out : 0 < c.len-count.result = search rules in (
      sound_took g.M.Machine.words _ _ _ i.rows.items (waiting i.outs) _ _ _ _ c.self.invariant.0 (sym c.is_spent.ensures ∙ live) c.push_reserved.new.self.items (waiting c.take.new.self) c.args.peer.now c.len-count.result c.len-count.ensures some_out (search rules)
          (took_all i.outs c.take.new.self c.args.peer.now c.take.ensures.none c.take.ensures.others),
      search rules,
      c.self.invariant.2,
    )

pub returns-clause-legal : goal.returns-clause-legal
returns-clause-legal g c =
    let z : c.spent_stop.result ≡ None = search rules in
    let i = c.self.inside in
    let live = none_spent c.is_spent.result c.len.result (sym c.spent_stop.ensures ∙ z) in
    let some_out : 0 < c.len-count.result = search rules in
    (sound_took g.M.Machine.words _ _ _ i.rows.items (waiting i.outs) _ _ _ _ c.self.invariant.0 (sym c.is_spent.ensures ∙ live) c.push_reserved.new.self.items (waiting c.take.new.self) c.args.peer.now c.len-count.result c.len-count.ensures some_out (search rules)
    (took_all i.outs c.take.new.self c.args.peer.now c.take.ensures.none c.take.ensures.others)).legal
