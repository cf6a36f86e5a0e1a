use Rattle.std.proofs.Common.{ap, ◌∙◌, w32}
use Rattle.std.proofs.lemmas.Int.{to_z-of_z}
use Rattle.headless_tree.specs.Numbers.{are_new}
use Rattle.headless_tree.proofs.tree.Tree.are_new.Goals as goal

pub returns : goal.returns
returns c = c.are_new_to.ensures ∙ ap (λ z. are_new z c.args.num c.args.ids.now c.args.self.now.nodes) (to_z-of_z w32 c.args.auth c.ranges.auth)
