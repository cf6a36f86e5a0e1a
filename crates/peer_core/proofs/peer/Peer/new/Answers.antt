use Rattle.peer_core.proofs.AtFirst.{new_stands}
use Rattle.peer_core.proofs.Taken.{new_right}
use Rattle.peer_core.proofs.peer.Peer.new.Goals as goal

pub invariant_of-result : goal.invariant_of-result
invariant_of-result c = λ _. new_right c.new-3.result c.in_ok-tree.tree c.in_ok-track.track _ c.args.scene.now c.requires.scene c.new-3.ensures c.in_ok-tree.ensures c.in_ok-track.ensures

pub returns-clause-stands : goal.returns-clause-stands
returns-clause-stands c = new_stands c.new-3.result c.in_ok-tree.tree c.in_ok-track.track c.new-4.result _ c.args.scene.now c.requires.scene c.new-3.ensures c.in_ok-tree.ensures c.in_ok-track.ensures c.new-4.ensures
