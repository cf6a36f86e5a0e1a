use Rattle.std.proofs.Common.{◌≡◌, take, map}
use Rattle.scene_model.specs.Nodes.{row_of}
use Rattle.headless_tree.specs.Nodes.{live}
use Rattle.headless_tree.proofs.tree.Tree.rows.Given as goal

abbrev pub invariant-loop-node : goal.invariant-loop-node
invariant-loop-node l = l.rows ≡ map row_of (map live (take l.node-index l.node-items))
