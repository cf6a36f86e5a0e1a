use Rattle.std.proofs.Common.{List, sym, ap, ◌∙◌}
use Rattle.scene_model.specs.declared.outcome.Out.{Out}
use Rattle.world_steps.specs.Steps.{Client}
use Rattle.mp_world.proofs.Takes.{nothing_down, taken_down}
use Rattle.mp_world.proofs.deliver.take_down.Goals as goal

pub returns-in-Some : goal.returns-in-Some
returns-in-Some c = λ v i at counted.
    let inside = c.client.inside in
    taken_down c.take_at_client.result v i c.args.put.now _ c.args.client.now (record { number = inside.number; kept = inside.peer; down = c.take_next.new.waiting.items; up = inside.up.items }) _ c.in-Some.packet c.arrival.result counted
    (sym (ap (λ (x : Client). x.down) c.client.view_is) ∙ c.in-Some.ensures)
    (ap (λ (x : Client). record x { down = c.take_next.new.waiting.items }) c.client.view_is)
    c.arrival.ensures c.take_at_client.ensures.client c.take_at_client.ensures.put c.take_at_client.ensures.outcome

pub returns-in-None : goal.returns-in-None
returns-in-None c = λ v i at counted.
    let inside = c.client.inside in
    nothing_down v i c.args.put.now c.args.client.now _ at counted
    (ap (λ (xs : List Out). record { number = inside.number; kept = inside.peer; down = xs; up = inside.up.items }) (c.in-None.ensures.1 ∙ sym c.in-None.ensures.0) ∙ c.client.view_is)
    (sym (ap (λ (x : Client). x.down) c.client.view_is) ∙ c.in-None.ensures.0)
