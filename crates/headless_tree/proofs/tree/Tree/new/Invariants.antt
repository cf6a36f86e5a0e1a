use Rattle.std.specs.String.{string_bytes}
use Rattle.headless_tree.proofs.Made.{IsMade}
use Rattle.headless_tree.proofs.tree.Tree.new.Given as goal

-- the first nodes of the scene are made
abbrev pub invariant-loop-at : goal.invariant-loop-at
invariant-loop-at l = IsMade string_bytes l.scene l.at l.nodes.items l.paths.keys
