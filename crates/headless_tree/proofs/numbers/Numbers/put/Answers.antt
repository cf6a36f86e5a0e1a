use Rattle.std.proofs.Common.{refl, ap, ◌∙◌, Some}
use Rattle.std.specs.Ordering.{int_eq}
use Rattle.headless_tree.specs.Numbers.{Paths, path_under}
use Rattle.headless_tree.proofs.Keeping.{other_key}
use Rattle.headless_tree.proofs.numbers.Numbers.put.Goals as goal

pub returns-in_err-path-clause-others : goal.returns-in_err-path-clause-others
returns-in_err-path-clause-others c = λ a id h. refl

pub returns-in_err-insert-clause-others : goal.returns-in_err-insert-clause-others
returns-in_err-insert-clause-others c = λ a id h. ap (λ (ps : Paths). path_under ps a id) (c.in_err-insert.ensures.err ∙ c.self.view_is)

pub returns-clause-put : goal.returns-clause-put
returns-clause-put c = c.in_ok-insert.ensures.updates.1 ∙ ap Some c.in_ok-path.ensures

pub returns-clause-others : goal.returns-clause-others
returns-clause-others c = λ a id h. c.in_ok-insert.ensures.updates.2 (a, id) (other_key (int_eq c.args.key.0 a) id c.args.key.1 h) ∙ ap (λ (ps : Paths). path_under ps a id) c.self.view_is
