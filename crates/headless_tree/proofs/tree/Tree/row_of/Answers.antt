use Rattle.std.proofs.Common.{ap, ◌∙◌, w32}
use Rattle.std.specs.Prelude.{position}
use Rattle.std.proofs.lemmas.Int.{to_z-of_z}
use Rattle.headless_tree.specs.Numbers.{has_number}
use Rattle.headless_tree.proofs.tree.Tree.row_of.Goals as goal

pub returns : goal.returns
returns c = c.row_with.ensures ∙ ap (λ z. position (has_number z c.args.id) c.args.self.now.nodes) (to_z-of_z w32 c.args.auth c.ranges.auth)
