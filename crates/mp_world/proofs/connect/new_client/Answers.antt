use Rattle.std.proofs.Common.{rules, ap, ◌∙◌, w32}
use Rattle.std.proofs.lemmas.Int.{to_z-of_z}
use Rattle.peer_steps.specs.Kept.{new_peer}
use Rattle.mp_world.proofs.Takes.{new_client_is}
use Rattle.mp_world.proofs.connect.new_client.Goals as goal

pub returns-clause-client : goal.returns-clause-client
returns-clause-client c =
    let seen = to_z-of_z w32 c.args.number.now (search rules) in
    new_client_is c.args.scene.now _ c.args.number.now c.in_ok-peer.peer c.step.new.peer c.in_ok-outcome.outcome c.new-down.result.items c.new-up.result.items c.send_up.new.waiting.items
    seen (c.in_ok-peer.ensures.fresh ∙ ap (new_peer c.args.scene.now) seen) c.in_ok-outcome.ensures c.new-down.ensures.items c.new-up.ensures.items c.in_ok-send_up.ensures
