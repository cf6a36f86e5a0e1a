use Rattle.std.proofs.Common.{ap, ◌∙◌}
use Rattle.std.specs.Prelude.{is_none}
use Rattle.headless_tree.specs.Numbers.{has_number}
use Rattle.headless_tree.proofs.Numbered.{none_is, none_placed}
use Rattle.headless_tree.proofs.tree.Tree.is_new.Goals as goal

pub returns : goal.returns
returns c = none_is c.is_none.result c.row_with.result c.is_none.ensures ∙ ap is_none c.row_with.ensures ∙ none_placed (has_number c.args.auth.now c.args.id) c.args.self.now.nodes
