use Rattle.std.specs.Prelude.{is_none}
use Rattle.headless_tree.proofs.Keeping.{IsWritten}
use Rattle.headless_tree.proofs.numbers.Numbers.forget.Given as goal

-- nothing stands under the node's own number and the first ids
abbrev pub invariant-loop-id : goal.invariant-loop-id
invariant-loop-id l = IsWritten is_none l.node.auth l.node.num l.id-items l.id-index l.fn.self l.self
