use Rattle.std.proofs.Common.{rules, sym, ◌∙◌, w32}
use Rattle.std.proofs.lemmas.Int.{to_z-of_z}
use Rattle.world_steps.specs.Steps.{live_parts}
use Rattle.mp_world.proofs.Takes.{made_as, counted_as, there_is_room}
use Rattle.mp_world.proofs.connect.connect.Goals as goal

pub returns : goal.returns
returns c =
    let v = live_parts c.args.server.now c.args.come.now c.args.put.now c.args.clients.now.items in
    let number = to_z-of_z w32 c.next_number-number.result (search rules) ∙ c.next_number-number.ensures.number in
    counted_as c.connect_as.result _ _ _ _ _ _ c.count_one.ensures
    (made_as c.connect_as.result _ _ _ (there_is_room v _ (sym c.is_full.ensures ∙ c.if-is_full.false) number) (c.connect_as.ensures c.args.come.now))
