use denote.Exit.{yes}
use denote.Param.Send.{IsSend, sendable, view_send}
use denote.Param.SendFields.{declared_send}
use Rattle.relay_sys.specs.contracts.peers.Peers as peers
use Rattle.spawn_track.specs.contracts.track.Track as track
use Rattle.headless_tree.specs.contracts.tree.Tree as tree
use Rattle.delta_props.specs.contracts.told.Told as told
use Rattle.peer_core.specs.contracts.peer.Peer.TheInside as inside
use Rattle.shared_hub.proofs.crossing.peer_sent.Goals as goal

pub returns : goal.returns
returns c =
    let p : IsSend peers.the_row = record { owned = c.sent.ensures.owned; leaving = λ k. c.sent.ensures.leaving yes } in
    let r : IsSend track.the_row = record { owned = c.sent-2.ensures.owned; leaving = λ k. c.sent-2.ensures.leaving yes } in
    let t : IsSend tree.the_row = c.tree_sent.ensures in
    let d : IsSend told.the_row = record { owned = c.sent-3.ensures.owned; leaving = λ k. c.sent-3.ensures.leaving yes } in
    let e : IsSend inside.the_row = declared_send inside.the_type (search sendable depth 20, (search sendable depth 20, (search sendable depth 20, (search sendable depth 20, (search sendable depth 20, tt))))) in
    view_send inside.the_row _ _ _ _ e
