use Rattle.gd_variant.specs.Words.{text_eq, some_is}
use Rattle.headless_tree.proofs.Keeping.{IsWritten}
use Rattle.headless_tree.proofs.numbers.Numbers.note.Given as goal

-- the path stands under the node's own number and the first ids
abbrev pub invariant-loop-id : goal.invariant-loop-id
invariant-loop-id l = IsWritten (some_is (text_eq l.node.path)) l.node.auth l.node.num l.id-items l.id-index l.fn.self l.self
