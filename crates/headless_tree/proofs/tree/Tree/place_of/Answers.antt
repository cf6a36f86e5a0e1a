use Rattle.std.proofs.Common.{ap, ◌∙◌}
use Rattle.std.specs.Prelude.{position}
use Rattle.std.specs.String.{string_bytes}
use Rattle.headless_tree.specs.Nodes.{is_at}
use Rattle.headless_tree.proofs.Places.{path_place}
use Rattle.headless_tree.proofs.tree.Tree.place_of.Goals as goal

pub returns-clause-place : goal.returns-clause-place
returns-clause-place c = c.get_index_of.ensures.index ∙ path_place string_bytes c.self.inside.paths.keys c.self.inside.nodes.items c.args.path.now c.self.invariant.0 ∙ ap (λ t. position (is_at c.args.path.now) t.nodes) c.self.view_is
