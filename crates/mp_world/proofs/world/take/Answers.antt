use Rattle.std.proofs.Common.{rules, sym, ap, ap₂, ◌∙◌, w32}
use Rattle.std.proofs.lemmas.Int.{to_z-of_z}
use Rattle.world_steps.specs.Steps.{live_parts, down_made, op_made, rel_made, made}
use Rattle.mp_world.proofs.Takes.{made_as}
use Rattle.mp_world.proofs.world.take.Goals as goal

pub returns-in-Op : goal.returns-in-Op
returns-in-Op c =
    let v = live_parts c.args.server.now c.args.come.now c.args.put.now c.args.clients.now.items in
    let peer = to_z-of_z w32 c.in-Op.peer (search rules) in
    made_as c.operate.result _ _ _ (ap (λ p. op_made v p c.in-Op.op) peer ∙ sym (ap (made v) c.in-Op.is)) (c.operate.ensures c.args.come.now)

pub returns-in-Rel : goal.returns-in-Rel
returns-in-Rel c =
    let v = live_parts c.args.server.now c.args.come.now c.args.put.now c.args.clients.now.items in
    let from = to_z-of_z w32 c.in-Rel.from (search rules) in
    let to = to_z-of_z w32 c.in-Rel.to (search rules) in
    made_as c.deliver.result _ _ _ (ap₂ (rel_made v) from to ∙ sym (ap (made v) c.in-Rel.is)) (c.deliver.ensures c.args.come.now)

pub returns-in-Down : goal.returns-in-Down
returns-in-Down c =
    let v = live_parts c.args.server.now c.args.come.now c.args.put.now c.args.clients.now.items in
    let peer = to_z-of_z w32 c.in-Down.peer (search rules) in
    made_as c.go_down.result _ _ _ (ap (down_made v) peer ∙ sym (ap (made v) c.in-Down.is)) (c.go_down.ensures c.args.come.now)
