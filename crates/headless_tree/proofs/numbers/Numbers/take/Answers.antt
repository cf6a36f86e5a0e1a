use Rattle.std.proofs.Common.{ap, ◌∙◌}
use Rattle.std.specs.Ordering.{int_eq}
use Rattle.headless_tree.specs.Numbers.{Paths, path_under}
use Rattle.headless_tree.proofs.Keeping.{other_key}
use Rattle.headless_tree.proofs.numbers.Numbers.take.Goals as goal

pub returns-clause-gone : goal.returns-clause-gone
returns-clause-gone c = c.remove.ensures.updates.1

pub returns-clause-others : goal.returns-clause-others
returns-clause-others c = λ a id h. c.remove.ensures.updates.2 (a, id) (other_key (int_eq c.args.key.0 a) id c.args.key.1 h) ∙ ap (λ (ps : Paths). path_under ps a id) c.self.view_is
