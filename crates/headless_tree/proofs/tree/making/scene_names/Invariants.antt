use Rattle.std.specs.String.{string_bytes}
use Rattle.headless_tree.proofs.Named.{AreNamed}
use Rattle.headless_tree.proofs.tree.making.scene_names.Given as goal

-- the first scenes are named
abbrev pub invariant-loop-at : goal.invariant-loop-at
invariant-loop-at l = AreNamed string_bytes l.scene l.at l.names.keys
