use Rattle.std.proofs.Common.{ap, ◌∙◌, w32}
use Rattle.std.proofs.lemmas.Int.{to_z-of_z}
use Rattle.headless_tree.specs.Nodes.{TreeOf, without_rows}
use Rattle.headless_tree.proofs.tree.Tree.remove_under.Goals as goal

pub returns : goal.returns
returns c = c.remove_rows.ensures ∙ ap {B = TreeOf} (λ z. record { scene = c.args.self.now.scene; nodes = without_rows z c.args.self.now.nodes }) (to_z-of_z w32 c.args.auth c.ranges.auth)
