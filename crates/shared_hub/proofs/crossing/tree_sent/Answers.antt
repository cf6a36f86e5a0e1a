use denote.Exit.{yes}
use denote.Param.Send.{IsSend, sendable, view_send}
use denote.Param.SendFields.{declared_send}
use Rattle.std.proofs.Crossing as std
use Rattle.std.proofs.MapsCrossing as maps
use Rattle.scene_model.specs.contracts.scene.Scene as scene
use Rattle.headless_tree.specs.contracts.tree.Tree.TheInside as inside
use Rattle.shared_hub.proofs.crossing.tree_sent.Goals as goal

pub returns : goal.returns
returns c =
    let s : IsSend scene.the_row = record { owned = c.sent.ensures.owned; leaving = λ k. c.sent.ensures.leaving yes } in
    let e : IsSend inside.the_row = declared_send inside.the_type (search sendable depth 20, (search (sendable, std.crosses, maps.crosses) depth 20, (search (sendable, std.crosses) depth 20, (search (sendable, std.crosses, maps.crosses) depth 20, (search (sendable, std.crosses, maps.crosses) depth 20, tt))))) in
    view_send inside.the_row _ _ _ _ e
